-- The two readings of facts agree: of a fact, of a row, of a row for each element of a list. By whether a test is true. What a judgement says where its
-- checks hold.
use mathlib.Core.Path.{◌≡◌, refl, sym, ap, subst}
use mathlib.Core.Bool.{Bool, true, false, not, cond, ◌&&◌}
use mathlib.Core.List.{List, [], ◌∷◌, ◌++◌}
use Prim.Native.Nat.{ℕ, zero, suc, ◌<◌}
use native.Mathlib.Nat.{le_of_suc-le-suc, not-suc-le-zero}
use native.Mathlib.Omega.{arith}
use lib.ListN.{length, get_or, set}
use lib.Dec.{eqb}
use borrow.Author.Tests.{leb-true, le-leb, eqb-true, eq-eqb, not-true}
use Rattle.refusals.specs.Numbers.{number}
use Rattle.refusals.specs.declared.Refusal.{Refusal}
use Rattle.rules.specs.Facts.{Fact, below, at_most, equal, holds, fails, Claim, test, Claims, tests, Each, each, same_list, Check, check, judge}

pub and_left : (s t : Bool) → s && t ≡ true → s ≡ true
and_left true t e = refl
and_left false t e = e

pub and_right : (s t : Bool) → s && t ≡ true → t ≡ true
and_right true t e = e
and_right false true e = refl
and_right false false e = e

pub and_both : (s t : Bool) → s ≡ true → t ≡ true → s && t ≡ true
and_both true t p q = q
and_both false t p q = p

pub true_not_false : true ≡ false → ⊥
true_not_false e = let o : ◌≡◌ {A = ℕ} 0 1 = cc in omega arith

pub true_or_false : (t : Bool) → (t ≡ false → ⊥) → t ≡ true
true_or_false true n = refl
true_or_false false n = absurd (n refl)

-- a test is true or it is not; what a goal says of it is P
pub by_test : (P : Bool → Type 0) (t : Bool) → (t ≡ true → P true) → (t ≡ false → P false) → P t
by_test P true f g = f refl
by_test P false f g = g refl

pub true_or_not : {X : Type 0} (t : Bool) → (t ≡ true → X) → (t ≡ false → X) → X
true_or_not {X} = by_test (λ t. X)

-- ---- two lists of numbers
pub same_itself : (v : List ℕ) → same_list v v ≡ true
unfolding same_list
same_itself [] = refl
same_itself (d ∷ v) = rw (eq-eqb d d refl, same_itself v)

pub same_is : (w v : List ℕ) → same_list w v ≡ true → w ≡ v
unfolding same_list
same_is [] [] e = refl
same_is [] (d ∷ v) e = absurd (true_not_false (sym e))
same_is (c ∷ w) [] e = absurd (true_not_false (sym e))
same_is (c ∷ w) (d ∷ v) e = rw (eqb-true c d (and_left (eqb c d) (same_list w v) e), same_is w v (and_right (eqb c d) (same_list w v) e))

-- ---- a fact
pub claimed : (f : Fact) → test f ≡ true → Claim f
claimed (below i n) e = leb-true (suc i) n e
claimed (at_most a b) e = leb-true a b e
claimed (equal a b) e = eqb-true a b e
claimed (holds t) e = e
claimed (fails t) e = not-true t e

pub tested : (f : Fact) → Claim f → test f ≡ true
tested (below i n) h = le-leb (suc i) n h
tested (at_most a b) h = le-leb a b h
tested (equal a b) h = eq-eqb a b h
tested (holds t) h = h
tested (fails t) h = ap not h

-- ---- a row
pub claims : (fs : List Fact) → tests fs ≡ true → Claims fs
claims [] e = tt
claims (f ∷ fs) e = (claimed f (and_left (test f) (tests fs) e), claims fs (and_right (test f) (tests fs) e))

pub claims_tested : (fs : List Fact) → Claims fs → tests fs ≡ true
claims_tested [] h = refl
claims_tested (f ∷ fs) h = and_both (test f) (tests fs) (tested f h.0) (claims_tested fs h.1)

-- ---- a row for each element
pub each_claims : {A : Type 0} (row : ℕ → A → List Fact) (xs : List A) → each row xs ≡ true → Each row xs
unfolding each Each
each_claims row [] e = tt
each_claims row (x ∷ xs) e = (claims (row 0 x) (and_left (tests (row 0 x)) (each (λ i. row (suc i)) xs) e), each_claims (λ i. row (suc i)) xs (and_right (tests (row 0 x)) (each (λ i. row (suc i)) xs) e))

pub each_tested : {A : Type 0} (row : ℕ → A → List Fact) (xs : List A) → Each row xs → each row xs ≡ true
unfolding each Each
each_tested row [] h = refl
each_tested row (x ∷ xs) h = and_both (tests (row 0 x)) (each (λ i. row (suc i)) xs) (claims_tested (row 0 x) h.0) (each_tested (λ i. row (suc i)) xs h.1)

pub each_at : {A : Type 0} (row : ℕ → A → List Fact) (xs : List A) (i : ℕ) (d : A) → i < length xs → Each row xs → Claims (row i (get_or xs i d))
unfolding Each
each_at row [] i d l h = absurd (not-suc-le-zero l)
each_at row (x ∷ xs) zero d l h = h.0
each_at row (x ∷ xs) (suc i) d l h = each_at (λ k. row (suc k)) xs i d (le_of_suc-le-suc l) h.1

pub each_of : {A : Type 0} (row : ℕ → A → List Fact) (xs : List A) (d : A) → ((i : ℕ) → i < length xs → Claims (row i (get_or xs i d))) → Each row xs
unfolding Each
each_of row [] d h = tt
each_of row (x ∷ xs) d h = (h 0 (Prim.Native.Nat.suc-le-suc Prim.Native.Nat.zero-le), each_of (λ k. row (suc k)) xs d (λ i l. h (suc i) (Prim.Native.Nat.suc-le-suc l)))

-- one element set
pub each_set : {A : Type 0} (row : ℕ → A → List Fact) (xs : List A) (i : ℕ) (a : A) → Claims (row i a) → Each row xs → Each row (set xs i a)
unfolding Each
each_set row [] i a p h = tt
each_set row (x ∷ xs) zero a p h = (p, h.1)
each_set row (x ∷ xs) (suc i) a p h = (h.0, each_set (λ k. row (suc k)) xs i a p h.1)

-- what holds of every entry of a list and of a new one holds of every entry after the store
pub set_each : {A : Type 0} (P : ℕ → A → Type 0) (xs : List A) (u : ℕ) (a d : A) → P u a → ((i : ℕ) → P i (get_or xs i d)) → (i : ℕ) → P i (get_or (set xs u a) i d)
set_each P [] u a d p h i = h i
set_each P (x ∷ xs) zero a d p h zero = p
set_each P (x ∷ xs) zero a d p h (suc i) = h (suc i)
set_each P (x ∷ xs) (suc u) a d p h zero = h zero
set_each P (x ∷ xs) (suc u) a d p h (suc i) = set_each (λ j. P (suc j)) xs u a d p (λ j. h (suc j)) i

-- ---- checks
-- the facts that a row of checks asks for
abbrev pub asked : List Check → List Fact
asked [] = []
asked (check f k ∷ cs) = f ∷ asked cs

-- where all of them hold, the result
pub judge_passed : {A : Type 0} (refused : Refusal → A) (cs : List Check) (result : A) → Claims (asked cs) → judge refused cs result ≡ result
judge_passed refused [] result h = refl
judge_passed refused (check f k ∷ cs) result h = subst (λ (t : Bool). cond t (judge refused cs result) (refused k) ≡ result) (sym (tested f h.0)) (judge_passed refused cs result h.1)

-- two rows one after the other
pub claims_append : (cs ds : List Check) → Claims (asked cs) → Claims (asked ds) → Claims (asked (cs ++ ds))
claims_append [] ds p q = q
claims_append (check f k ∷ cs) ds p q = (p.0, claims_append cs ds p.1 q)

-- the fact that a number refuses by: that of the first check with the number
abbrev pub fact_by : ℕ → List Check → Fact
fact_by k [] = holds true
fact_by k (check f j ∷ cs) = cond (eqb (number j) k) f (fact_by k cs)

pub fact_shown : (k : ℕ) (cs : List Check) → Claims (asked cs) → Claim (fact_by k cs)
fact_shown k [] h = refl
fact_shown k (check f j ∷ cs) h = by_test (λ t. Claim (cond t f (fact_by k cs))) (eqb (number j) k) (λ e. h.0) (λ e. fact_shown k cs h.1)
