-- Sums over lists: after a store, against a part, a part above 0, two sums compared part by part, a sum of sums, sums
-- over lists of one length, and over the front of a list.
use mathlib.Core.Path.{◌≡◌, refl}
use mathlib.Core.List.{List, [], ◌∷◌}
use Prim.Native.Nat.{ℕ, zero, suc, ◌+◌, ◌*◌, ◌≤◌, ◌<◌, suc-le-suc, zero-le}
use native.Mathlib.Nat.{le_of_suc-le-suc, not-suc-le-zero, add-mul}
use native.Mathlib.Omega.{arith}
use lib.ListN.{length, get_or, set, take}
use Rattle.rules.specs.Facts.{sum_of}

pub sum_set : {A : Type 0} (f : ℕ → A → ℕ) (xs : List A) (i : ℕ) (a d : A) → i < length xs → sum_of f (set xs i a) + f i (get_or xs i d) ≡ sum_of f xs + f i a
unfolding sum_of
sum_set f [] i a d l = absurd (not-suc-le-zero l)
sum_set f (x ∷ xs) zero a d l = omega arith
sum_set f (x ∷ xs) (suc i) a d l = omega (arith, sum_set (λ k. f (suc k)) xs i a d (le_of_suc-le-suc l))

-- a part is at most the sum; past the end it is 0
pub sum_part : {A : Type 0} (f : ℕ → A → ℕ) (xs : List A) (i : ℕ) (d : A) → ((k : ℕ) → f k d ≡ 0) → f i (get_or xs i d) ≤ sum_of f xs
unfolding sum_of
sum_part f [] i d none = omega (arith, none i)
sum_part f (x ∷ xs) zero d none = omega arith
sum_part f (x ∷ xs) (suc i) d none = omega (arith, sum_part (λ k. f (suc k)) xs i d (λ k. none (suc k)))

-- a sum above 0 has a part above 0
pub record PartAbove {A : Type 0} (f : ℕ → A → ℕ) (xs : List A) (d : A) : Type 0 where
  pub place : ℕ
  pub within : place < length xs
  pub above : 1 ≤ f place (get_or xs place d)

pub sum_above : {A : Type 0} (f : ℕ → A → ℕ) (xs : List A) (d : A) → 1 ≤ sum_of f xs → PartAbove f xs d
unfolding sum_of
sum_above f [] d p = absurd (not-suc-le-zero p)
sum_above f (x ∷ xs) d p = by_head (f 0 x) refl (sum_above (λ k. f (suc k)) xs d)
  where
    by_head : (k : ℕ) → f 0 x ≡ k → (1 ≤ sum_of (λ i. f (suc i)) xs → PartAbove (λ i. f (suc i)) xs d) → PartAbove f (x ∷ xs) d
    by_head zero e rest =
        let found : PartAbove (λ i. f (suc i)) xs d = rest (omega (arith, p, e)) in
        record { place = suc found.place; within = suc-le-suc found.within; above = found.above }
    by_head (suc k) e rest = record { place = 0; within = suc-le-suc zero-le; above = omega (arith, e) }

-- a bound of the parts bounds the sums
pub sum_bound : {A : Type 0} (f g : ℕ → A → ℕ) (k : ℕ) (xs : List A) (d : A) → ((i : ℕ) → i < length xs → f i (get_or xs i d) ≤ g i (get_or xs i d) * k) → sum_of f xs ≤ sum_of g xs * k
unfolding sum_of
sum_bound f g k [] d h = zero-le
sum_bound f g k (x ∷ xs) d h =
    omega (arith, add-mul (g 0 x) (sum_of (λ i. g (suc i)) xs) k, h 0 (suc-le-suc zero-le), sum_bound (λ i. f (suc i)) (λ i. g (suc i)) k xs d (λ i l. h (suc i) (suc-le-suc l)))

-- the sum of sums, the second so many times
pub sum_plus : {A : Type 0} (f g : ℕ → A → ℕ) (k : ℕ) (xs : List A) → sum_of (λ i x. f i x + g i x * k) xs ≡ sum_of f xs + sum_of g xs * k
unfolding sum_of
sum_plus f g k [] = omega arith
sum_plus f g k (x ∷ xs) = omega (arith, add-mul (g 0 x) (sum_of (λ i. g (suc i)) xs) k, sum_plus (λ i. f (suc i)) (λ i. g (suc i)) k xs)

-- parts of 0, a sum of 0
pub sum_none : {A : Type 0} (f : ℕ → A → ℕ) (xs : List A) (d : A) → ((i : ℕ) → i < length xs → f i (get_or xs i d) ≡ 0) → sum_of f xs ≡ 0
sum_none f xs d h = omega (arith, sum_bound f f 0 xs d (λ i l. omega (arith, h i l)))

-- parts that are at most those of another sum: a sum at most the other
pub sum_grows : {A : Type 0} (f g : ℕ → A → ℕ) (xs : List A) → ((i : ℕ) (a : A) → f i a ≤ g i a) → sum_of f xs ≤ sum_of g xs
unfolding sum_of
sum_grows f g [] h = zero-le
sum_grows f g (x ∷ xs) h = omega (arith, h 0 x, sum_grows (λ i. f (suc i)) (λ i. g (suc i)) xs (λ i. h (suc i)))

-- and where the sum is no less than the other, the same parts
pub sum_tight : {A : Type 0} (f g : ℕ → A → ℕ) (xs : List A) (i : ℕ) (d : A) → ((j : ℕ) (a : A) → f j a ≤ g j a) → sum_of g xs ≤ sum_of f xs → i < length xs → g i (get_or xs i d) ≡ f i (get_or xs i d)
unfolding sum_of
sum_tight f g [] i d h s l = absurd (not-suc-le-zero l)
sum_tight f g (x ∷ xs) zero d h s l = omega (arith, h 0 x, sum_grows (λ j. f (suc j)) (λ j. g (suc j)) xs (λ j. h (suc j)))
sum_tight f g (x ∷ xs) (suc i) d h s l = sum_tight (λ j. f (suc j)) (λ j. g (suc j)) xs i d (λ j. h (suc j)) (omega (arith, h 0 x)) (le_of_suc-le-suc l)

-- parts by the index alone: lists of one length have one sum
pub sum_length : {A B : Type 0} (f : ℕ → ℕ) (xs : List A) (ys : List B) → length xs ≡ length ys → sum_of (λ i x. f i) xs ≡ sum_of (λ i y. f i) ys
unfolding sum_of
sum_length f [] [] e = refl
sum_length f [] (y ∷ ys) e = absurd (omega arith)
sum_length f (x ∷ xs) [] e = absurd (omega arith)
sum_length f (x ∷ xs) (y ∷ ys) e = omega (arith, sum_length (λ i. f (suc i)) xs ys (omega arith))

-- a sum by the index of another list's entries is that list's own
pub sum_listed : {A : Type 0} (ts : List A) (ks : List ℕ) → length ts ≡ length ks → sum_of (λ i t. get_or ks i 0) ts ≡ sum_of (λ i k. k) ks
unfolding sum_of
sum_listed [] [] e = refl
sum_listed [] (k ∷ ks) e = absurd (omega arith)
sum_listed (t ∷ ts) [] e = absurd (omega arith)
sum_listed (t ∷ ts) (k ∷ ks) e = omega (arith, sum_listed ts ks (omega arith))

-- ---- a sum over the front of a list: one element more, and at most the whole
pub sum_taken : {A : Type 0} (f : ℕ → A → ℕ) (xs : List A) (i : ℕ) (d : A) → i < length xs → sum_of f (take (suc i) xs) ≡ sum_of f (take i xs) + f i (get_or xs i d)
unfolding sum_of
sum_taken f [] i d l = absurd (not-suc-le-zero l)
sum_taken f (x ∷ xs) zero d l = omega arith
sum_taken f (x ∷ xs) (suc i) d l = omega (arith, sum_taken (λ k. f (suc k)) xs i d (le_of_suc-le-suc l))

pub sum_front : {A : Type 0} (f : ℕ → A → ℕ) (xs : List A) (i : ℕ) → sum_of f (take i xs) ≤ sum_of f xs
unfolding sum_of
sum_front f xs zero = zero-le
sum_front f [] (suc i) = zero-le
sum_front f (x ∷ xs) (suc i) = omega (arith, sum_front (λ k. f (suc k)) xs i)

-- parts of at most so much each
pub sum_most : {A : Type 0} (f : ℕ → A → ℕ) (most : ℕ) (xs : List A) (d : A) → ((i : ℕ) → i < length xs → f i (get_or xs i d) ≤ most) → sum_of f xs ≤ length xs * most
unfolding sum_of
sum_most f most [] d h = zero-le
sum_most f most (x ∷ xs) d h = omega (arith, h 0 (suc-le-suc zero-le), sum_most (λ i. f (suc i)) most xs d (λ i l. h (suc i) (suc-le-suc l)), add-mul 1 (length xs) most)
