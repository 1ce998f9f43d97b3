-- What a step promises.
use Rattle.std.specs.Prelude.{◌≡◌, [], ◌∷◌, Result}
use Rattle.refusals.specs.declared.Refusal.{Refusal}
use Rattle.rules.specs.Steps.{step}
use Rattle.rules.specs.Lists.{takes}
use Rattle.rules.specs.Guarantee.{Carries}
use Rattle.rules.specs.declared.Board.{Board}
use Rattle.rules.specs.declared.StepRecord.{StepRecord}

-- the step r on the board b answers k and leaves the board c; and the guarantee holds of c
pub record StepMeets (b : Board) (r : StepRecord) (k : Result (Unit {0}) Refusal) (c : Board) : Type 0 where
  pub answer : k ≡ (step b r).answer
  pub board : c ≡ (step b r).board
  pub carries : Carries b (takes r ∷ []) c
