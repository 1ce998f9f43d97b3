-- What a visit promises follows from its outcome; its parts put together.
use mathlib.Core.Path.{◌≡◌, sym, ap, subst}
use mathlib.Core.List.{[], ◌∷◌}
use Prim.Native.Nat.{ℕ}
use Rattle.rules.specs.Events.{after_all}
use Rattle.rules.specs.Visits.{visit}
use Rattle.rules.specs.Lists.{visits}
use Rattle.rules.specs.Guarantee.{Carries}
use Rattle.rules.specs.Verdicts.{QuietTells, StillTells}
use Rattle.rules.specs.declared.Board.{Board}
use Rattle.rules.specs.declared.Visited.{Visited}
use Rattle.rules.proofs.Theorem.{carries}
use Rattle.rules.proofs.VerdictLaws.{quiet_tells, still_tells}
use Rattle.rounds.specs.VisitMeets.{VisitMeets}

-- the contract, from the outcome alone: a visit is a list of one event
pub visit_meets : (b : Board) (u : ℕ) (o : Visited) → o ≡ visit b u → VisitMeets b u o.finding o.board
unfolding after_all
visit_meets b u o e = record {
  finding = ap (λ (p : Visited). p.finding) e;
  board = ap (λ (p : Visited). p.board) e;
  carries = subst (λ (p : Visited). Carries b (visits u ∷ []) p.board) (sym e) (carries b (visits u ∷ []));
  quiet = subst (λ (p : Visited). QuietTells b u p.finding) (sym e) (quiet_tells b u);
  still = subst (λ (p : Visited). StillTells b u p.finding) (sym e) (still_tells b u);
}
