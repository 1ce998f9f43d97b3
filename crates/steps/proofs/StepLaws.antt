-- What a step promises follows from its outcome, and gives it back.
use mathlib.Core.Path.{◌≡◌, sym, ap, subst}
use mathlib.Core.Bool.{false}
use mathlib.Core.List.{[], ◌∷◌}
use Rattle.refusals.specs.declared.Refusal.TheVariants.{NotSound}
use Rattle.std.specs.Prelude.{Err}
use Rattle.rules.specs.Events.{after_all}
use Rattle.rules.specs.Sound.{sound}
use Rattle.rules.specs.Steps.{step}
use Rattle.rules.specs.Lists.{takes}
use Rattle.rules.specs.Guarantee.{Carries}
use Rattle.rules.specs.declared.Board.{Board}
use Rattle.rules.specs.declared.StepRecord.{StepRecord}
use Rattle.rules.specs.declared.Outcome.{Outcome}
use Rattle.rules.proofs.Theorem.{carries}
use Rattle.steps.specs.StepMeets.{StepMeets}

-- a step is a list of one
pub step_meets : (b : Board) (r : StepRecord) (o : Outcome) → o ≡ step b r → StepMeets b r o.answer o.board
unfolding after_all
step_meets b r o e = record {
  answer = ap (λ (p : Outcome). p.answer) e;
  board = ap (λ (p : Outcome). p.board) e;
  carries = subst (λ (p : Outcome). Carries b (takes r ∷ []) p.board) (sym e) (carries b (takes r ∷ []));
}

-- a board that is not sound refuses the step, and is left
pub unsound_meets : (b : Board) (r : StepRecord) → sound b ≡ false → StepMeets b r (Err NotSound) b
unfolding step
unsound_meets b r t = step_meets b r (record { answer = Err NotSound; board = b }) (rw t)

-- answer and board are all that an outcome has
pub step_met : (b : Board) (r : StepRecord) (o : Outcome) → StepMeets b r o.answer o.board → o ≡ step b r
step_met b r o m = λ i. record { answer = m.answer i; board = m.board i }
