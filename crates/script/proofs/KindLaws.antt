-- The kinds 1 to 8, one by one, and every other number; the words by their places.
use mathlib.Core.Path.{◌≡◌, refl, sym, ap, ◌∙◌}
use mathlib.Core.Bool.{true, false}
use mathlib.Core.Logic.{◌⊎◌, inl, inr}
use mathlib.Core.List.{[], ◌∷◌, List}
use Prim.Native.Nat.{ℕ, zero, suc, ◌≤◌, ◌<◌}
use native.Mathlib.Nat.{not-suc-le-zero}
use native.Mathlib.Omega.{arith}
use borrow.Author.Tests.{leb-true, leb-false}
use lib.Dec.{leb}
use lib.ListN.{get_or-eq_default, length, get_or}
use Rattle.rules.specs.Actions.{kinds, kind_of, action_of, is_known}
use Rattle.rules.specs.declared.Action.TheVariants.{Unknown, Start, Send, Request as RequestStep, Deliver, Rest, Tick, Release, Move}
use Rattle.rules.proofs.FactLaws.{true_not_false, same_is, each_claims, each_at}
use Rattle.fields.proofs.Cases.{by_bool, by_cond}
use Rattle.rules.specs.Facts.{Fact, Claims, each, same_list}
use Rattle.script.specs.Words.{words, place_of}

by_kind : (P : ℕ → Type 0) → P 1 → P 2 → P 3 → P 4 → P 5 → P 6 → P 7 → P 8 → (k : ℕ) → 1 ≤ k → k ≤ kinds → P k
by_kind P p1 p2 p3 p4 p5 p6 p7 p8 zero l u = absurd (not-suc-le-zero l)
by_kind P p1 p2 p3 p4 p5 p6 p7 p8 (suc zero) l u = p1
by_kind P p1 p2 p3 p4 p5 p6 p7 p8 (suc (suc zero)) l u = p2
by_kind P p1 p2 p3 p4 p5 p6 p7 p8 (suc (suc (suc zero))) l u = p3
by_kind P p1 p2 p3 p4 p5 p6 p7 p8 (suc (suc (suc (suc zero)))) l u = p4
by_kind P p1 p2 p3 p4 p5 p6 p7 p8 (suc (suc (suc (suc (suc zero))))) l u = p5
by_kind P p1 p2 p3 p4 p5 p6 p7 p8 (suc (suc (suc (suc (suc (suc zero)))))) l u = p6
by_kind P p1 p2 p3 p4 p5 p6 p7 p8 (suc (suc (suc (suc (suc (suc (suc zero))))))) l u = p7
by_kind P p1 p2 p3 p4 p5 p6 p7 p8 (suc (suc (suc (suc (suc (suc (suc (suc zero)))))))) l u = p8
by_kind P p1 p2 p3 p4 p5 p6 p7 p8 (suc (suc (suc (suc (suc (suc (suc (suc (suc k))))))))) l u = absurd (omega arith)

-- a kind that is none of 2, 3, 7 and 8
pub by_others : (P : ℕ → Type 0) → P 1 → P 4 → P 5 → P 6 → (k : ℕ) → 1 ≤ k → k ≤ kinds → (k ≡ 2 → ⊥) → ((k ≡ 3) ⊎ (k ≡ 7) → ⊥) → (k ≡ 8 → ⊥) → P k
by_others P p1 p4 p5 p6 =
    by_kind (λ k. (k ≡ 2 → ⊥) → ((k ≡ 3) ⊎ (k ≡ 7) → ⊥) → (k ≡ 8 → ⊥) → P k) (λ m n o. p1) (λ m n o. absurd (m refl)) (λ m n o. absurd (n (inl refl))) (λ m n o. p4) (λ m n o. p5) (λ m n o. p6)
    (λ m n o. absurd (n (inr refl))) (λ m n o. absurd (o refl))

pub kind_back : (k : ℕ) → 1 ≤ k → k ≤ kinds → kind_of (action_of k) ≡ k
kind_back = by_kind (λ k. kind_of (action_of k) ≡ k) refl refl refl refl refl refl refl refl

pub known_in : (k : ℕ) → 1 ≤ k → k ≤ kinds → is_known (action_of k) ≡ true
known_in = by_kind (λ k. is_known (action_of k) ≡ true) refl refl refl refl refl refl refl refl

pub unknown_over : (k : ℕ) → kinds < k → is_known (action_of k) ≡ false
unknown_over k h = ap is_known (get_or-eq_default (Unknown ∷ Start ∷ Send ∷ RequestStep ∷ Deliver ∷ Rest ∷ Tick ∷ Release ∷ Move ∷ []) Unknown h)

-- above 0, a kind is known where it is at most their number
pub known_test : (k : ℕ) → 1 ≤ k → leb k kinds ≡ is_known (action_of k)
known_test k l = by_bool (λ t. t ≡ is_known (action_of k)) (leb k kinds) (λ q. sym (known_in k l (leb-true k kinds q))) (λ q. sym (unknown_over k (leb-false k kinds q)))

pub known_range : (k : ℕ) → is_known (action_of k) ≡ true → (1 ≤ k) × (k ≤ kinds)
known_range zero e = absurd (true_not_false (sym e))
known_range (suc k) e = (omega arith, leb-true (suc k) kinds (known_test (suc k) (omega arith) ∙ e))

-- ---- facts of each word by its place, by a test that computes over all words
pub word_row : (row : ℕ → List ℕ → List Fact) → each row words ≡ true → (k : ℕ) → k ≤ kinds → Claims (row k (get_or words k []))
word_row row e k u = each_at row words k [] (omega (arith, u)) (each_claims row words e)

-- ---- the other way: a word that has a place among the words is the one at its place
pub word_at : (w : List ℕ) (vs : List (List ℕ)) → place_of w vs < length vs → get_or vs (place_of w vs) [] ≡ w
unfolding place_of
word_at w [] h = absurd (omega arith)
word_at w (v ∷ vs) h =
    by_cond (λ (n : ℕ). n < suc (length vs) → get_or (v ∷ vs) n [] ≡ w) (same_list w v) (λ e l. sym (same_is w v e)) (λ e l. word_at w vs (omega (arith, l))) h
