-- What a visit promises.
use Rattle.std.specs.Prelude.{◌≡◌, [], ◌∷◌, ℕ, Result}
use Rattle.refusals.specs.declared.Refusal.{Refusal}
use Rattle.rules.specs.Visits.{visit}
use Rattle.rules.specs.Lists.{visits}
use Rattle.rules.specs.Guarantee.{Carries}
use Rattle.rules.specs.Verdicts.{QuietTells, StillTells}
use Rattle.rules.specs.declared.Board.{Board}
use Rattle.rules.specs.declared.Finding.{Finding}

-- a visit of unit u on the board b finds x and leaves the board c; the guarantee holds of c, and x tells what a verdict says
pub record VisitMeets (b : Board) (u : ℕ) (x : Result Finding Refusal) (c : Board) : Type 0 where
  pub finding : x ≡ (visit b u).finding
  pub board : c ≡ (visit b u).board
  pub carries : Carries b (visits u ∷ []) c
  pub quiet : QuietTells b u x
  pub still : StillTells b u x
