-- Lists one behind the other: by equal parts, of two lists, of lists one behind the other, and over the front of a list.
use mathlib.Core.Path.{◌≡◌, refl, sym, ap, ap₂, ◌∙◌}
use mathlib.Core.List.{List, [], ◌∷◌, ◌++◌, append_assoc, append-nil}
use Prim.Native.Nat.{ℕ, zero, suc, ◌≤◌, ◌<◌}
use native.Mathlib.Nat.{not-suc-le-zero, le_of_suc-le-suc}
use native.Mathlib.Omega.{arith}
use lib.ListN.{length, get_or, take}
use Rattle.rules.specs.Sheets.Longest.{join_of}
use Rattle.rules.proofs.SumLaws.{sum_most}
use Rattle.rules.proofs.JoinLaws.{join_length}

pub join_same : {A B : Type 0} (f g : ℕ → A → List B) (xs : List A) → ((i : ℕ) (x : A) → f i x ≡ g i x) → join_of f xs ≡ join_of g xs
unfolding join_of
join_same f g [] h = refl
join_same f g (x ∷ xs) h = ap₂ (λ (ys zs : List _). ys ++ zs) (h 0 x) (join_same (λ i. f (suc i)) (λ i. g (suc i)) xs (λ i. h (suc i)))

pub join_append : {A B : Type 0} (g : A → List B) (xs ys : List A) → join_of (λ i. g) (xs ++ ys) ≡ join_of (λ i. g) xs ++ join_of (λ i. g) ys
unfolding join_of
join_append g [] ys = refl
join_append g (x ∷ xs) ys = ap (λ (zs : List _). g x ++ zs) (join_append g xs ys) ∙ sym (append_assoc (g x) (join_of (λ i. g) xs) (join_of (λ i. g) ys))

pub join_join : {A B C : Type 0} (f : ℕ → A → List B) (g : B → List C) (xs : List A) → join_of (λ i. g) (join_of f xs) ≡ join_of (λ i x. join_of (λ k. g) (f i x)) xs
unfolding join_of
join_join f g [] = refl
join_join f g (x ∷ xs) = join_append g (f 0 x) (join_of (λ i. f (suc i)) xs) ∙ ap (λ (zs : List _). join_of (λ k. g) (f 0 x) ++ zs) (join_join (λ i. f (suc i)) g xs)

-- no more than the elements, where each has at most one
pub join_few : {A B : Type 0} (f : ℕ → A → List B) (xs : List A) (d : A) → ((i : ℕ) (x : A) → length (f i x) ≤ 1) → length (join_of f xs) ≤ length xs
join_few f xs d h = omega (arith, join_length f (λ i x. length (f i x)) xs d (λ i l. refl), sum_most (λ i x. length (f i x)) 1 xs d (λ i l. h i (get_or xs i d)))

-- those of one element more
pub join_taken : {A B : Type 0} (f : ℕ → A → List B) (xs : List A) (i : ℕ) (d : A) → i < length xs → join_of f (take (suc i) xs) ≡ join_of f (take i xs) ++ f i (get_or xs i d)
unfolding join_of
join_taken f [] i d l = absurd (not-suc-le-zero l)
join_taken f (x ∷ xs) zero d l = append-nil (f 0 x)
join_taken f (x ∷ xs) (suc i) d l =
    ap (λ (ys : List _). f 0 x ++ ys) (join_taken (λ k. f (suc k)) xs i d (le_of_suc-le-suc l)) ∙ sym (append_assoc (f 0 x) (join_of (λ k. f (suc k)) (take i xs)) (f (suc i) (get_or xs i d)))
