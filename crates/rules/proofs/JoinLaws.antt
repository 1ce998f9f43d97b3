-- Lists for each element of a list, one behind the other: their length, and the drain that they make.
use mathlib.Core.Path.{◌≡◌, refl}
use mathlib.Core.List.{List, [], ◌∷◌, ◌++◌}
use Prim.Native.Nat.{ℕ, suc, ◌<◌, suc-le-suc, zero-le}
use native.Mathlib.Omega.{arith}
use lib.ListN.{length, get_or, length-append}
use Rattle.rules.specs.Facts.{sum_of}
use Rattle.rules.specs.Events.{Events, after_all, DrainOf}
use Rattle.rules.specs.Sheets.Longest.{join_of}

pub join_length : {A B : Type 0} (f : ℕ → A → List B) (g : ℕ → A → ℕ) (xs : List A) (d : A) → ((i : ℕ) → i < length xs → length (f i (get_or xs i d)) ≡ g i (get_or xs i d)) → length (join_of f xs) ≡ sum_of g xs
unfolding join_of sum_of
join_length f g [] d h = refl
join_length f g (x ∷ xs) d h =
    omega (arith, length-append (f 0 x) (join_of (λ i. f (suc i)) xs), h 0 (suc-le-suc zero-le), join_length (λ i. f (suc i)) (λ i. g (suc i)) xs d (λ i l. h (suc i) (suc-le-suc l)))

module _ {S E : Type 0} (ev : Events S E) (undrained : S → E → ℕ) where
  -- a drain that leaves what P says
  abbrev pub DrainTo : (S → Type 0) → S → List E → Type 0
  DrainTo P s es = DrainOf ev undrained s es × P (after_all ev s es)

  -- a drain, and one from where it ends
  pub append_drains : (P : S → Type 0) (s : S) (qs es : List E) → DrainOf ev undrained s qs → DrainTo P (after_all ev s qs) es → DrainTo P s (qs ++ es)
  unfolding DrainOf after_all
  append_drains P s [] es z w = w
  append_drains P s (q ∷ qs) es z w =
      let rest : DrainTo P (ev.next s q) (qs ++ es) = append_drains P (ev.next s q) qs es z.1 w in
      ((z.0, rest.0), rest.1)

  -- a drain for each element, from what the one before it left
  pub join_drains : {A : Type 0} (f : ℕ → A → List E) (xs : List A) (d : A) (P : ℕ → S → Type 0) → ((i : ℕ) (s : S) → i < length xs → P i s → DrainTo (P (suc i)) s (f i (get_or xs i d)))
      → (s : S) → P 0 s → DrainTo (P (length xs)) s (join_of f xs)
  unfolding join_of DrainOf after_all
  join_drains f [] d P h s p = (tt, p)
  join_drains f (x ∷ xs) d P h s p =
      let first : DrainTo (P 1) s (f 0 x) = h 0 s (suc-le-suc zero-le) p in
      append_drains (P (suc (length xs))) s (f 0 x) (join_of (λ i. f (suc i)) xs) first.0
      (join_drains (λ i. f (suc i)) xs d (λ i. P (suc i)) (λ i t l. h (suc i) t (suc-le-suc l)) (after_all ev s (f 0 x)) first.1)
