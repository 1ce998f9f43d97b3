-- Whether every unit in use is marked, as `all` answers.
use mathlib.Core.Path.{◌≡◌, refl, ap, ◌∙◌}
use mathlib.Core.Bool.{Bool, true, cond, ◌&&◌}
use mathlib.Core.List.{List, [], ◌∷◌}
use Prim.Native.Nat.{ℕ, zero, suc}
use native.Mathlib.Omega.{arith}
use lib.ListN.{take}
use lib.Dec.{ltb}
use borrow.Author.Tests.{lt-ltb}
use Rattle.std.proofs.lemmas.Bool.Decides.{nat_tests}
use Rattle.std.specs.List.{list_all}
use Rattle.rules.specs.Facts.{holds, tests, each}
use Rattle.rules.specs.Rounds.{all_marked}
use Rattle.board.proofs.TestLaws.{and_true}

below_none : (i : ℕ) → ltb (suc i) zero ≡ ltb i zero
below_none i = grind (arith, nat_tests)

below_next : (i n : ℕ) → ltb (suc i) (suc n) ≡ ltb i n
below_next i n = grind (arith, nat_tests)

-- the first of so many marks
first_more : (t rest : Bool) (used : Bool) → used ≡ true → (t && rest) ≡ (tests (cond used (holds t ∷ []) []) && rest)
first_more t rest used e = rw e (ap (λ (marked : Bool). marked && rest) (and_true t))

-- the units in use are the first n
marked_front : (n : ℕ) (used : ℕ → Bool) (marks : List Bool) → ((i : ℕ) → used i ≡ ltb i n) → list_all (λ t. t) (take n marks) ≡ each (λ i t. cond (used i) (holds t ∷ []) []) marks
unfolding each
marked_front zero used [] e = refl
marked_front (suc n) used [] e = refl
marked_front zero used (t ∷ marks) e = rw (e 0) (marked_front zero (λ i. used (suc i)) marks (λ i. e (suc i) ∙ below_none i))
marked_front (suc n) used (t ∷ marks) e =
    rw (← marked_front n (λ i. used (suc i)) marks (λ i. e (suc i) ∙ below_next i n)) (first_more t (list_all (λ s. s) (take n marks)) (used 0) (e 0 ∙ lt-ltb 0 (suc n) (omega arith)))

pub marked_all : (n : ℕ) (marks : List Bool) → list_all (λ t. t) (take n marks) ≡ all_marked n marks
unfolding all_marked
marked_all n marks = marked_front n (λ i. ltb i n) marks (λ i. refl)
