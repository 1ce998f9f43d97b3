-- A visit by what its bracket answers: refused, or accepted in the parts that the code makes.
use mathlib.Core.Path.{◌≡◌, sym, ap, ◌∙◌}
use mathlib.Core.Bool.{Bool, cond}
use Prim.Native.Nat.{ℕ}
use Rattle.std.specs.Prelude.{Ok, Err}
use Rattle.refusals.specs.declared.Refusal.{Refusal}
use Rattle.rules.specs.Rounds.{tallied, all_marked, closed, closing, left_of, found_of, rounds_after, found}
use Rattle.rules.specs.Boards.{view, board_of, seen_of}
use Rattle.rules.specs.Visits.{visit_bracket, visit}
use Rattle.rules.specs.declared.Rounds.{Rounds}
use Rattle.rules.specs.declared.Board.{Board}
use Rattle.rules.specs.declared.Finding.{Finding}
use Rattle.rules.specs.declared.Finding.TheVariants.{NoVerdict}
use Rattle.rules.specs.declared.Visited.{Visited}
use Rattle.rules.proofs.JudgeLaws.{checks_answer, answered, judge_by_answer}
use Rattle.rules.proofs.Views.{visited_by}

module _ (b : Board) (u : ℕ) where
  -- what a refused visit gives
  abbrev refused_on : Refusal → Visited
  refused_on k = record { finding = Err k; board = b }

  by_answer : visit b u ≡ answered refused_on (visited_by b u) (checks_answer (visit_bracket b u))
  unfolding visit
  by_answer = judge_by_answer refused_on (visit_bracket b u) (visited_by b u)

  pub visit_refused : (k : Refusal) → checks_answer (visit_bracket b u) ≡ Err k → visit b u ≡ record { finding = Err k; board = b }
  visit_refused k e = by_answer ∙ ap (answered refused_on (visited_by b u)) e

  module _ (t : Rounds) (t-is : t ≡ tallied (seen_of (view b)) b.rounds u b.rounds.round) (last : Bool) (last-is : last ≡ all_marked b.n t.visited) where
    left_is : (k : Rounds) → k ≡ cond last (closed t t.round) t → k ≡ rounds_after (seen_of (view b)) b.rounds u
    unfolding rounds_after
    left_is k e = e ∙ ap (λ (l : Bool). cond l (closed t t.round) t) last-is ∙ ap (left_of b.n) t-is

    found_is : (x : Finding) → x ≡ cond last (closing t t.round) NoVerdict → x ≡ found (seen_of (view b)) b.rounds u
    unfolding found
    found_is x e = e ∙ ap (λ (l : Bool). cond l (closing t t.round) NoVerdict) last-is ∙ ap (found_of b.n) t-is

    pub visit_accepted : checks_answer (visit_bracket b u) ≡ Ok tt → (k : Rounds) → k ≡ cond last (closed t t.round) t → (x : Finding) → x ≡ cond last (closing t t.round) NoVerdict
        → visit b u ≡ record { finding = Ok x; board = board_of (view b) k }
    visit_accepted z k left x finds =
        by_answer ∙ ap (answered refused_on (visited_by b u)) z ∙ sym (λ i. record { finding = Ok (found_is x finds i); board = board_of (view b) (left_is k left i) })
