-- What units that fit say of the next, what a turn adds, and the verdict at the end.
use Rattle.std.proofs.Common.{◌≡◌, length, sym, arith, rules}
use Rattle.rules.specs.Boards.{view}
use Rattle.rules.specs.Sheets.Sheet.{Sheet, unit_at}
use Rattle.rules.proofs.FactLaws.{claims}
use Rattle.board.specs.Passes.{units_row}
use Rattle.board.proofs.TestLaws.{refuted, denied}
use Rattle.board.proofs.UnitLaws.{entry_row_on, none_seen, one_more, next_fits, all_seen}
use Rattle.board.proofs.units.units_fit.Goals as goal
use Rattle.board.proofs.units.units_fit.Goals.{then-not-entry_fits-via-then-not-entry_fits, then-not-entry_fits-via-else-not-entry_fits+then-u-left}

pub loop-i-init : goal.loop-i-init
loop-i-init c = none_seen (view c.args.b.now) c.args.slots.now.left c.args.slots.now.pending (search rules)

pub returns-then-not-entry_fits : goal.returns-then-not-entry_fits
returns-then-not-entry_fits c =
    let b : Sheet = view c.args.b.now in
    let s = c.args.slots.now in
    let at = c.loop-i in
    let fits = next_fits at.invariant (omega arith) in
    refuted (units_row b s.left s.pending) (λ q.
    elim c.then-not-entry_fits.branch [
      | then-not-entry_fits-via-then-not-entry_fits w ↦ denied (entry_row_on b s.pending at.i (unit_at b at.i)) (sym w.if-not-entry_fits.ensures) (fits q).1
      | then-not-entry_fits-via-else-not-entry_fits+then-u-left w ↦ omega (arith, w.if-u-left.true, (fits q).0)
    ])

pub loop-i-preserved : goal.loop-i-preserved
loop-i-preserved c =
    let b : Sheet = view c.args.b.now in
    let s = c.args.slots.now in
    let at = c.loop-i in
    one_more at.invariant (omega arith)
    (c.if-u-left.false, claims (entry_row_on b s.pending at.i (unit_at b at.i)) (sym c.if-not-entry_fits.ensures))

pub returns : goal.returns
returns c = all_seen c.loop-i.invariant (omega arith)
