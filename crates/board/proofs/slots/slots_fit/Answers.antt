-- What slots that fit say of the next, what a turn adds, and what holds once all are passed.
use Rattle.std.proofs.Common.{◌≡◌, ◌<◌, length, sym, arith, rules}
use Rattle.rules.specs.Facts.{one_if}
use Rattle.rules.specs.Records.{is_work}
use Rattle.rules.specs.Boards.{view}
use Rattle.rules.specs.Sheets.Sheet.{Sheet, slot_at}
use Rattle.rules.specs.Sheets.Sound.{slot_row_on}
use Rattle.rules.proofs.FactLaws.{claims}
use Rattle.board.specs.Passes.{slots_row}
use Rattle.board.proofs.TestLaws.{refuted, passed, denied}
use Rattle.board.proofs.SlotLaws.{CountedFor, pends_within, unit_counted, none_counted, none_seen, one_more, next_fits, all_fit, all_counted}
use Rattle.board.proofs.slots.slots_fit.Goals as goal
use Rattle.board.proofs.slots.slots_fit.Goals.{then-not-slot_fits-via-then-not-slot_fits, then-not-slot_fits-via-else-not-slot_fits+then-y-left, in-Some, in_default}

pub loop-j-init : goal.loop-j-init
loop-j-init c = none_seen (view c.args.b.now) (search rules)

pub returns-then-not-slot_fits-clause-fit : goal.returns-then-not-slot_fits-clause-fit
returns-then-not-slot_fits-clause-fit c =
    let b : Sheet = view c.args.b.now in
    let at = c.loop-j in
    let fits = next_fits at.invariant (omega arith) in
    refuted (slots_row b) (λ q.
    elim c.then-not-slot_fits.branch [
      | then-not-slot_fits-via-then-not-slot_fits w ↦ denied (slot_row_on b at.j (slot_at b at.j)) (sym w.if-not-slot_fits.ensures) (fits q).1
      | then-not-slot_fits-via-else-not-slot_fits+then-y-left w ↦ omega (arith, w.if-y-left.true, (fits q).0)
    ])

pub loop-j-preserved : goal.loop-j-preserved
loop-j-preserved c =
    let b : Sheet = view c.args.b.now in
    let at = c.loop-j in
    let counted : CountedFor (slot_at b at.j) at.pending c.match-pends_for.pending =
    elim c.match-pends_for.branch [
      | in-Some w ↦
          let place : w.from.result ≡ w.in-Some.u = w.from.ensures in
          let within : w.in-Some.u < c.args.b.now.n = pends_within c.args.b.now.n c.args.b.now.m at.j w.in-Some.u (slot_at b at.j) (cc) (cc) in
          rw (w.pending-is, place) (unit_counted (slot_at b at.j) w.in-Some.u at.pending (cc) (omega arith))
      | in_default w ↦ rw w.pending-is (none_counted (slot_at b at.j) at.pending (cc))
    ] in
    let worked : c.from-work.result ≡ one_if (is_work (slot_at b at.j).kind) = search rules in
    rw worked
    (one_more at.invariant counted (omega arith)
    (c.if-y-left.false, claims (slot_row_on b at.j (slot_at b at.j)) (sym c.if-not-slot_fits.ensures)))

pub returns-clause-fit : goal.returns-clause-fit
returns-clause-fit c = passed (slots_row (view c.args.b.now)) (all_fit c.loop-j.invariant (omega arith))

pub returns-clause-totals : goal.returns-clause-totals
returns-clause-totals c = all_counted c.loop-j.invariant (omega arith)
