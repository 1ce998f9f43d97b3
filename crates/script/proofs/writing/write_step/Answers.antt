-- `write_step`: the line writer's promise on the rest of the buffer is one on the whole buffer.
use mathlib.Core.Path.{◌≡◌, refl}
use mathlib.Core.Bool.{true, false}
use mathlib.Core.List.{List}
use Prim.Native.Nat.{ℕ}
use native.Mathlib.Omega.{arith}
use Rattle.placing.specs.Placing.{Writes}
use Rattle.std.proofs.Common.{rules, Result, Err}
use Rattle.refusals.specs.declared.Refusal.{Refusal}
use Rattle.refusals.specs.declared.Refusal.TheVariants.{NoSuchKind}
use Rattle.rules.specs.Actions.{action_of, is_known}
use Rattle.rules.specs.declared.StepRecord.{StepRecord}
use Rattle.script.specs.Writing.{step_text, step_wrote, step_written}
use Rattle.placing.proofs.WriteLaws.{refuses, from_rest_start}
use Rattle.script.proofs.writing.write_step.Goals as goal

-- a step at a place of a buffer: refused by its kind, or as its text is
module _ (r : StepRecord) (at : ℕ) (out : List ℕ) where
  abbrev StepWrites : Result ℕ Refusal → List ℕ → Type 0
  StepWrites w left = (w ≡ step_wrote r at out) × (left ≡ step_written r at out)

  step_unknown : is_known (action_of r.kind) ≡ false → StepWrites (Err NoSuchKind) out
  unfolding step_wrote step_written
  step_unknown e = (rw e, rw e)

  step_known : is_known (action_of r.kind) ≡ true → {w : Result ℕ Refusal} {left : List ℕ} → Writes (step_text r) at out w left → StepWrites w left
  unfolding step_wrote step_written
  step_known e h = (rw e h.0, rw e h.1)

pub returns-then-eq : goal.returns-then-eq
returns-then-eq c = let e : is_known (action_of c.args.r.kind) ≡ false = search rules in step_unknown _ _ _ e

pub returns-then-at-out : goal.returns-then-at-out
returns-then-at-out c =
    let e : is_known (action_of c.args.r.kind) ≡ true = search rules in
    step_known c.args.r c.args.at c.args.out.now e (refuses (step_text c.args.r) c.args.at c.args.out.now (omega arith) refl refl)

pub returns : goal.returns
returns c =
    let e : is_known (action_of c.args.r.kind) ≡ true = search rules in
    step_known c.args.r c.args.at c.args.out.now e (from_rest_start (step_text c.args.r) c.args.at c.args.out.now (omega arith) c.step_line.ensures)
