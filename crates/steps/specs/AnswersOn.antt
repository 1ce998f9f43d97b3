-- What steps answer on one board, none of them taken.
use Rattle.std.specs.Prelude.{List, [], ◌∷◌, ℕ}
use Rattle.refusals.specs.Numbers.{number_of}
use Rattle.rules.specs.Steps.{step}
use Rattle.rules.specs.declared.Board.{Board}
use Rattle.rules.specs.declared.StepRecord.{StepRecord}

unfoldable pub answers_on : Board → List StepRecord → List ℕ
answers_on b [] = []
answers_on b (r ∷ rs) = number_of (step b r).answer ∷ answers_on b rs
