-- A word found among the words, byte by byte as `==` of slices compares, has its number; and what the words are by their numbers.
use mathlib.Core.Path.{◌≡◌, refl, sym, ap, subst, ◌∙◌}
use mathlib.Core.Bool.{Bool, ◌&&◌, cond}
use mathlib.Core.List.{List, [], ◌∷◌}
use Prim.Native.Nat.{ℕ, suc, ◌<◌, ◌≤◌}
use native.Mathlib.Omega.{arith}
use borrow.Author.Tests.{ltb-true, ltb-false}
use lib.Dec.{eqb, ltb}
use lib.Pointwise.{pointwise}
use Rattle.std.specs.Prelude.{Option, Some, None, MatchOption}
use Rattle.std.specs.List.{position, position_or_len}
use Rattle.std.specs.Str.{bytes_eq}
use Rattle.std.proofs.lemmas.List.Recursion.{is_position_or_len}
use Rattle.rules.specs.Actions.{kinds}
use Rattle.rules.specs.Facts.{same_list}
use Rattle.fields.proofs.Cases.{by_cond}
use Rattle.script.specs.Words.{words, place_of, word_number}

pub same_pointwise : (w v : List ℕ) → same_list w v ≡ pointwise eqb w v
unfolding same_list
same_pointwise [] [] = refl
same_pointwise [] (d ∷ v) = refl
same_pointwise (c ∷ w) [] = refl
same_pointwise (c ∷ w) (d ∷ v) = ap (λ t. eqb c d && t) (same_pointwise w v)

first_place : (w : List ℕ) (vs : List (List ℕ)) → place_of w vs ≡ position_or_len (bytes_eq w) vs
unfolding place_of
first_place w =
    is_position_or_len (place_of w) (bytes_eq w) refl
    (λ v vs. ap (λ (t : Bool). cond t 0 (suc (place_of w vs))) (same_pointwise w v) ∙ ap (cond (bytes_eq w v) 0) (omega arith))

pub place_found : (w : List ℕ) {r : Option ℕ} → r ≡ position (bytes_eq w) words → MatchOption r (kinds < word_number w) (λ k. (k ≡ word_number w) × (k ≤ kinds))
place_found w {r} e =
    let found : r ≡ cond (ltb (word_number w) 9) (Some (word_number w)) None = e ∙ ap (λ (n : ℕ). cond (ltb n 9) (Some n) None) (sym (first_place w words)) in
    subst (λ (x : Option ℕ). MatchOption x (kinds < word_number w) (λ k. (k ≡ word_number w) × (k ≤ kinds))) (sym found)
    (by_cond (λ (x : Option ℕ). MatchOption x (kinds < word_number w) (λ k. (k ≡ word_number w) × (k ≤ kinds))) (ltb (word_number w) 9)
    (λ t. (refl, omega (arith, ltb-true (word_number w) 9 t))) (λ t. omega (arith, ltb-false (word_number w) 9 t)))
