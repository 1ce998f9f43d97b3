-- At each turn, the lines gathered and those that are left from here are the lines of the whole.
use mathlib.Core.Path.{sym, ap, ◌∙◌}
use mathlib.Core.Bool.{false}
use mathlib.Core.List.{List}
use Prim.Native.Nat.{ℕ}
use native.Mathlib.Omega.{arith}
use Rattle.numbers.proofs.LineLaws.{line_part, line_next}
use Rattle.script.specs.Lines.{reading, step_by}
use Rattle.listing.specs.Batches.{record_of, refusal_of}
use Rattle.listing.proofs.gathering.GatherLaws.{turn_goes, turn_past, turn_full}
use Rattle.listing.proofs.gathering.gather.Goals as goal
use Rattle.listing.proofs.gathering.gather.Goals.{in-Ok, in-Err}

pub loop-count-preserved : goal.loop-count-preserved
loop-count-preserved c =
    let read = c.read_step.ensures ∙ ap (λ (l : List ℕ). step_by (reading false l)) (line_part _ _ c.line_at-here.ensures (omega arith)) in
    elim c.match-read_step.branch [
      | in-Ok w ↦ rw (w.refusals-is, w.steps-is) (turn_goes c.loop-count.invariant c.loop-count-test.true c.if-at-script.true read (sym (ap record_of w.in-Ok.is)) (sym (ap refusal_of w.in-Ok.is)) (line_next _ _ c.line_at-here.ensures))
      | in-Err w ↦ rw (w.refusals-is, w.steps-is) (turn_goes c.loop-count.invariant c.loop-count-test.true c.if-at-script.true read (sym (ap record_of w.in-Err.is)) (sym (ap refusal_of w.in-Err.is)) (line_next _ _ c.line_at-here.ensures))
    ]

pub returns-else-at-script : goal.returns-else-at-script
returns-else-at-script c = turn_past c.loop-count.invariant c.if-at-script.false

pub returns-after-loop-count : goal.returns-after-loop-count
returns-after-loop-count c = turn_full c.loop-count.invariant c.loop-count-test.false
