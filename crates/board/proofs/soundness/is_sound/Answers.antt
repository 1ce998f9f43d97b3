-- A sound board passes each test, and a board that passes those of its entries is sound where its counts are.
use Rattle.std.proofs.Common.{◌≡◌, true, false, sym, rules}
use Rattle.rules.specs.Facts.{tests}
use Rattle.rules.specs.Sheets.Sheet.{Sheet}
use Rattle.rules.specs.Boards.{view}
use Rattle.rules.proofs.FactLaws.{claims}
use Rattle.board.specs.Passes.{ranges_row, slots_row, units_row}
use Rattle.board.proofs.TestLaws.{denied, unsound}
use Rattle.board.proofs.soundness.SoundTest.{Lengths, ranges_sound, slots_sound, units_sound, entries_sound, counts_decide}
use Rattle.board.proofs.soundness.is_sound.Goals as goal

pub returns-then-not-ranges_fit : goal.returns-then-not-ranges_fit
returns-then-not-ranges_fit c = let b : Sheet = view c.args.b in unsound c.args.b (λ s. denied (ranges_row b) (cc) (ranges_sound b s.sheet))

pub returns-in_default : goal.returns-in_default
returns-in_default c =
    let b : Sheet = view c.args.b in
    let unfit : tests (slots_row b) ≡ false = sym c.in_default.ensures.fit in
    unsound c.args.b (λ s. denied (slots_row b) unfit (slots_sound b s.sheet))

pub returns-else-units_fit : goal.returns-else-units_fit
returns-else-units_fit c =
    let b : Sheet = view c.args.b in
    let t = c.in-Some.totals in
    let unfit : tests (units_row b t.left t.pending) ≡ false = cc in
    rw c.if-units_fit.false (unsound c.args.b (λ s. denied (units_row b t.left t.pending) unfit (units_sound b c.in-Some.ensures.totals s.sheet)))

-- the entries fit: the counts decide
pub returns-then-units_fit : goal.returns-then-units_fit
returns-then-units_fit c =
    let b : Sheet = view c.args.b in
    let t = c.in-Some.totals in
    let long : Lengths b = search rules in
    let ranges : tests (ranges_row b) ≡ true = cc in
    let slots : tests (slots_row b) ≡ true = sym c.in-Some.ensures.fit in
    let units : tests (units_row b t.left t.pending) ≡ true = cc in
    counts_decide c.args.b c.in-Some.ensures.totals
    (entries_sound b long (claims (ranges_row b) ranges) (claims (slots_row b) slots) c.in-Some.ensures.totals (claims (units_row b t.left t.pending) units)) c.counts_fit.result c.counts_fit.ensures
