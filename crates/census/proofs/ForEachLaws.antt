-- Lists one behind the other: their sums, their lengths, and their elements by number.
use mathlib.Core.Path.{◌≡◌, refl, sym, ap, ◌∙◌}
use mathlib.Core.List.{List, [], ◌∷◌, ◌++◌}
use Prim.Native.Nat.{ℕ, zero, suc, ◌+◌, ◌*◌, ◌<◌}
use native.Mathlib.Nat.{le_of_suc-le-suc, not-suc-le-zero, suc-mul}
use native.Mathlib.Omega.{arith}
use lib.ListN.{length, get_or, get_or-append}
use lib.Seq.{get_or-append-add}
use Rattle.rules.specs.Facts.{sum_of}
use Rattle.census.specs.Choices.{for_each}

-- ---- sums that go by the element alone
pub sum_append : {A : Type 0} (g : A → ℕ) (xs ys : List A) → sum_of (λ i x. g x) (xs ++ ys) ≡ sum_of (λ i x. g x) xs + sum_of (λ i x. g x) ys
unfolding sum_of
sum_append g [] ys = omega arith
sum_append g (x ∷ xs) ys = omega (arith, sum_append g xs ys)

pub sum_same : {A : Type 0} (f g : A → ℕ) (xs : List A) → ((x : A) → f x ≡ g x) → sum_of (λ i x. f x) xs ≡ sum_of (λ i x. g x) xs
unfolding sum_of
sum_same f g [] e = refl
sum_same f g (x ∷ xs) e = omega (arith, e x, sum_same f g xs e)

-- lists one behind the other, by the sum of each
pub sum_parts : {A B : Type 0} (g : B → ℕ) (w : A → ℕ) (xs : List A) (f : A → List B) → ((x : A) → sum_of (λ j y. g y) (f x) ≡ w x) → sum_of (λ i y. g y) (for_each xs f) ≡ sum_of (λ i x. w x) xs
unfolding sum_of for_each
sum_parts g w [] f e = refl
sum_parts g w (x ∷ xs) f e = omega (arith, sum_append g (f x) (for_each xs f), e x, sum_parts g w xs f e)

pub sum_const : {A : Type 0} (w : ℕ) (xs : List A) → sum_of (λ i x. w) xs ≡ length xs * w
unfolding sum_of
sum_const w [] = omega arith
sum_const w (x ∷ xs) = omega (arith, suc-mul (length xs) w, sum_const w xs)

-- a length is a sum of ones
pub length_sum : {A : Type 0} (xs : List A) → length xs ≡ sum_of (λ i x. 1) xs
length_sum xs = omega (arith, sum_const 1 xs)

-- lists of one length
pub length_for_each : {A B : Type 0} (w : ℕ) (xs : List A) (f : A → List B) → ((x : A) → length (f x) ≡ w) → length (for_each xs f) ≡ length xs * w
length_for_each w xs f e =
    length_sum (for_each xs f) ∙ sum_parts (λ y. 1) (λ x. w) xs f (λ x. sym (length_sum (f x)) ∙ e x) ∙ sum_const w xs

-- element j of list i
pub for_each_at : {A B : Type 0} (w : ℕ) (xs : List A) (f : A → List B) → ((x : A) → length (f x) ≡ w) → (i j : ℕ) (a : A) (d : B) → i < length xs → j < w → get_or (for_each xs f) (i * w + j) d ≡ get_or (f (get_or xs i a)) j d
unfolding for_each
for_each_at w [] f e i j a d l h = absurd (not-suc-le-zero l)
for_each_at w (x ∷ xs) f e zero j a d l h =
    ap (λ (k : ℕ). get_or (f x ++ for_each xs f) k d) (omega arith) ∙ get_or-append (f x) (for_each xs f) d j (omega (arith, e x))
for_each_at w (x ∷ xs) f e (suc i) j a d l h =
    ap (λ (k : ℕ). get_or (f x ++ for_each xs f) k d) (omega (arith, e x, suc-mul i w))
    ∙ get_or-append-add (f x) (for_each xs f) (i * w + j) d
    ∙ for_each_at w xs f e i j a d (le_of_suc-le-suc l) h
