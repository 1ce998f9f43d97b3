-- Lists of events of one kind, on states of one kind: the state after a list, its answers, and sums over what was accepted of it.
use Rattle.std.specs.Prelude.{◌≡◌, Bool, cond, List, [], ◌∷◌, ℕ, ◌+◌, eqb}

-- what an event on a state leaves and answers
pub record Events (S E : Type 0) : Type 0 where
  pub next : S → E → S
  pub answer : S → E → ℕ

-- each event gets the state that the event before it left
unfoldable pub after_all : {S E : Type 0} → Events S E → S → List E → S
after_all ev s [] = s
after_all ev s (e ∷ es) = after_all ev (ev.next s e) es

unfoldable pub all_answers : {S E : Type 0} → Events S E → S → List E → List ℕ
all_answers ev s [] = []
all_answers ev s (e ∷ es) = ev.answer s e ∷ all_answers ev (ev.next s e) es

-- "An accepted step is one that answers 0"
abbrev pub accepts : {S E : Type 0} → Events S E → S → E → Bool
accepts ev s e = eqb (ev.answer s e) 0

-- the sum over a list of what its accepted events count for, each read on the state just before it; it never wraps
unfoldable pub tally_all : {S E : Type 0} → Events S E → (S → E → ℕ) → S → List E → ℕ
tally_all ev count s [] = 0
tally_all ev count s (e ∷ es) = cond (accepts ev s e) (count s e) 0 + tally_all ev count (ev.next s e) es

-- drain, the rules' own term: a list of accepted steps, "neither start nor move" (M-108): none that counts for what no drain has; the list
-- of no steps is one
abbrev pub DrainStepOf : {S E : Type 0} → Events S E → (S → E → ℕ) → S → E → Type 0
DrainStepOf ev undrained s e = (ev.answer s e ≡ 0) × (undrained s e ≡ 0)

unfoldable pub DrainOf : {S E : Type 0} → Events S E → (S → E → ℕ) → S → List E → Type 0
DrainOf ev undrained s [] = Unit {0}
DrainOf ev undrained s (e ∷ es) = DrainStepOf ev undrained s e × DrainOf ev undrained (ev.next s e) es
