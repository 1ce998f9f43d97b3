-- Facts as data, in two readings: what a fact claims, for proofs, and a test of it that computes. A rule is a row of facts.
use Rattle.std.specs.Prelude.{◌≡◌, Bool, true, false, not, cond, ◌&&◌, List, [], ◌∷◌, ℕ, suc, ◌+◌, ◌≤◌, leb, eqb}
use Rattle.refusals.specs.declared.Refusal.{Refusal}

pub data Fact : Type 0 where
  below : ℕ → ℕ → Fact
  at_most : ℕ → ℕ → Fact
  equal : ℕ → ℕ → Fact
  holds : Bool → Fact
  fails : Bool → Fact

abbrev pub Claim : Fact → Type 0
Claim (below i n) = suc i ≤ n
Claim (at_most a b) = a ≤ b
Claim (equal a b) = a ≡ b
Claim (holds t) = t ≡ true
Claim (fails t) = t ≡ false

abbrev pub test : Fact → Bool
test (below i n) = leb (suc i) n
test (at_most a b) = leb a b
test (equal a b) = eqb a b
test (holds t) = t
test (fails t) = not t

-- all facts of a row
abbrev pub Claims : List Fact → Type 0
Claims [] = Unit {0}
Claims (f ∷ fs) = Claim f × Claims fs

abbrev pub tests : List Fact → Bool
tests [] = true
tests (f ∷ fs) = test f && tests fs

-- a row for each element of a list, by its index and its value
unfoldable pub Each : {A : Type 0} → (ℕ → A → List Fact) → List A → Type 0
Each row [] = Unit {0}
Each row (x ∷ xs) = Claims (row 0 x) × Each (λ i. row (suc i)) xs

unfoldable pub each : {A : Type 0} → (ℕ → A → List Fact) → List A → Bool
each row [] = true
each row (x ∷ xs) = tests (row 0 x) && each (λ i. row (suc i)) xs

-- the exact sum of a number for each element of a list
unfoldable pub sum_of : {A : Type 0} → (ℕ → A → ℕ) → List A → ℕ
sum_of f [] = 0
sum_of f (x ∷ xs) = f 0 x + sum_of (λ i. f (suc i)) xs

abbrev pub one_if : Bool → ℕ
one_if true = 1
one_if false = 0

-- whether two lists of numbers are the same
unfoldable pub same_list : List ℕ → List ℕ → Bool
same_list [] [] = true
same_list [] (d ∷ ds) = false
same_list (c ∷ cs) [] = false
same_list (c ∷ cs) (d ∷ ds) = eqb c d && same_list cs ds

-- a fact that a call asks for, and what refuses the call where the fact fails
pub data Check : Type 0 where
  check : Fact → Refusal → Check

-- what a call gives: the refusal by the first check that fails, else its result
abbrev pub judge : {A : Type 0} → (Refusal → A) → List Check → A → A
judge refused [] result = result
judge refused (check f k ∷ cs) result = cond (test f) (judge refused cs result) (refused k)
