-- Laws of the bytes up to a separator and past it, of the count of separators, and of the place of the next one, over any separator e.
use mathlib.Core.Path.{◌≡◌, refl, sym, ap, ◌∙◌}
use mathlib.Core.Bool.{Bool, true, false, cond}
use mathlib.Core.List.{List, [], ◌∷◌, ◌++◌, append-nil}
use Prim.Native.Nat.{ℕ, zero, suc, ◌+◌, ◌-◌, ◌≤◌, ◌<◌}
use native.Mathlib.Nat.{add-suc, sub_self}
use native.Mathlib.Omega.{arith}
use lib.Dec.{eqb, leb, ltb}
use lib.ListN.{length, take, drop, length-take, length-drop, drop_of_length-le}
use lib.Seq.{drop-drop}
use borrow.Author.Tests.{leb-true, ltb-false, eqb-true, eq-eqb, le-leb}
use Rattle.std.specs.List.{position, position_or_len}
use Rattle.std.specs.Option.{unwrap_or}
use Rattle.std.specs.Prelude.{◌==◌, Option, Some, None}
use Rattle.std.proofs.lemmas.List.Recursion.{is_position_or_len}
use Rattle.fields.specs.Fields.{up_to, past, count_of, end_from}
use Rattle.fields.proofs.Cases.{by_bool, by_cond}

-- ---- the count

pub count_append : (e : ℕ) (a b : List ℕ) → count_of e (a ++ b) ≡ count_of e a + count_of e b
unfolding count_of
count_append e [] b = omega arith
count_append e (c ∷ a) b =
    rw (count_append e a b) (by_bool (λ t. cond t (suc (count_of e a + count_of e b)) (count_of e a + count_of e b) ≡ cond t (suc (count_of e a)) (count_of e a) + count_of e b) (eqb c e) (λ q. omega arith) (λ q. refl))

pub count_few : (e : ℕ) (l : List ℕ) → count_of e l ≤ length l
unfolding count_of
count_few e [] = omega arith
count_few e (c ∷ l) = by_cond (λ (n : ℕ). n ≤ suc (length l)) (eqb c e) (λ q. omega (arith, count_few e l)) (λ q. omega (arith, count_few e l))

-- ---- a word without the separator in front

-- where no byte of c ∷ w is the separator, c is not, and none of w is
none_both : (t : Bool) (n : ℕ) → cond t (suc n) n ≡ 0 → (t ≡ false) × (n ≡ 0)
none_both true n h = absurd (omega arith)
none_both false n h = (refl, h)

pub up_to_append : (e : ℕ) (w r : List ℕ) → count_of e w ≡ 0 → up_to e (w ++ r) ≡ w ++ up_to e r
unfolding up_to count_of
up_to_append e [] r h = refl
up_to_append e (c ∷ w) r h = let none = none_both (eqb c e) (count_of e w) h in rw (none.0, up_to_append e w r none.1)

pub past_append : (e : ℕ) (w r : List ℕ) → count_of e w ≡ 0 → past e (w ++ r) ≡ past e r
unfolding past count_of
past_append e [] r h = refl
past_append e (c ∷ w) r h = let none = none_both (eqb c e) (count_of e w) h in rw (none.0, past_append e w r none.1)

module _ (e : ℕ) (w : List ℕ) (none : count_of e w ≡ 0) where
  pub up_to_joined : (r : List ℕ) → up_to e (w ++ e ∷ r) ≡ w
  unfolding up_to
  up_to_joined r = rw (up_to_append e w (e ∷ r) none, eq-eqb e e refl, append-nil)

  pub past_joined : (r : List ℕ) → past e (w ++ e ∷ r) ≡ r
  unfolding past
  past_joined r = rw (past_append e w (e ∷ r) none, eq-eqb e e refl)

  pub count_joined : (r : List ℕ) → count_of e (w ++ e ∷ r) ≡ suc (count_of e r)
  unfolding count_of
  count_joined r = rw (count_append e w (e ∷ r), none, eq-eqb e e refl) (omega arith)

  pub up_to_whole : up_to e w ≡ w
  unfolding up_to
  up_to_whole = rw append-nil at (up_to_append e w [] none)

  pub past_whole : past e w ≡ []
  unfolding past
  past_whole = rw append-nil at (past_append e w [] none)

-- ---- where the parts stand, whether there is a separator or not

pub up_to_take : (e : ℕ) (l : List ℕ) → up_to e l ≡ take (length (up_to e l)) l
unfolding up_to
up_to_take e [] = refl
up_to_take e (c ∷ l) = by_cond (λ (u : List ℕ). u ≡ take (length u) (c ∷ l)) (eqb c e) (λ q. refl) (λ q. ap (λ (k : List ℕ). c ∷ k) (up_to_take e l))

pub past_drop : (e : ℕ) (l : List ℕ) → past e l ≡ drop (suc (length (up_to e l))) l
unfolding up_to past
past_drop e [] = refl
past_drop e (c ∷ l) = by_bool (λ t. cond t l (past e l) ≡ drop (length (cond t [] (c ∷ up_to e l))) l) (eqb c e) (λ q. refl) (λ q. past_drop e l)

pub up_to_at_most : (e : ℕ) (l : List ℕ) → length (up_to e l) ≤ length l
up_to_at_most e l = omega (arith, simp length-take at (ap length (up_to_take e l)))

pub past_at_most : (e : ℕ) (l : List ℕ) → length (past e l) ≤ length l
past_at_most e l = omega (arith, simp length-drop at (ap length (past_drop e l)))

-- an end of a list is the end of its length
drop_stands : (n : ℕ) (l : List ℕ) → drop n l ≡ drop (length l - length (drop n l)) l
drop_stands zero l = rw sub_self
drop_stands (suc n) [] = refl
drop_stands (suc n) (x ∷ l) =
    let m : suc (length l) - length (drop n l) ≡ suc (length l - length (drop n l)) = omega (arith, length-drop n l) in
    rw m (drop_stands n l)

pub past_stands : (e : ℕ) (l : List ℕ) → past e l ≡ drop (length l - length (past e l)) l
past_stands e l = rw past_drop (drop_stands (suc (length (up_to e l))) l)

-- past the first separator there is one fewer
pub count_past : (e : ℕ) (l : List ℕ) → count_of e (past e l) ≡ count_of e l - 1
unfolding past count_of
count_past e [] = refl
count_past e (c ∷ l) =
    by_bool (λ t. count_of e (cond t l (past e l)) ≡ cond t (suc (count_of e l)) (count_of e l) - 1) (eqb c e) (λ q. omega arith) (λ q. count_past e l)

-- a list that has the separator is its two parts, joined
pub parted : (e : ℕ) (l : List ℕ) → 0 < count_of e l → up_to e l ++ e ∷ past e l ≡ l
unfolding up_to past count_of
parted e [] h = absurd (omega arith)
parted e (c ∷ l) h =
    by_bool (λ t. 0 < cond t (suc (count_of e l)) (count_of e l) → cond t [] (c ∷ up_to e l) ++ e ∷ cond t l (past e l) ≡ c ∷ l) (eqb c e) (λ q s. rw (eqb-true c e q)) (λ q s. rw (parted e l s)) h

-- as many bytes stand before the first separator as its place says
up_to_position : (e : ℕ) (l : List ℕ) → length (up_to e l) ≡ position_or_len (λ c. c == e) l
unfolding up_to
up_to_position e = is_position_or_len (λ l. length (up_to e l)) (λ c. c == e) refl (λ c l. by_bool (λ t. length (cond t [] (c ∷ up_to e l)) ≡ cond t 0 (1 + length (up_to e l))) (eqb c e) (λ q. refl) (λ q. omega arith))

pub position_before : (e : ℕ) (l : List ℕ) {r : Option ℕ} → r ≡ position (λ c. c == e) l → unwrap_or r (length l) ≡ length (up_to e l)
position_before e l {r} is =
    let n : ℕ = position_or_len (λ c. c == e) l in
    ap (λ (o : Option ℕ). unwrap_or o (length l)) is
    ∙ by_bool (λ t. unwrap_or (cond t (Some n) None) (length l) ≡ length (up_to e l)) (ltb n (length l)) (λ q. sym (up_to_position e l)) (λ q. omega (arith, ltb-false n (length l) q, up_to_position e l, up_to_at_most e l))

-- ---- the place of the next separator

module _ (e from : ℕ) (l : List ℕ) (inside : from ≤ length l) where
  pub end_is : end_from e from l ≡ from + length (up_to e (drop from l))
  unfolding end_from
  end_is = rw (le-leb from (length l) inside)

  pub up_to_from : up_to e (drop from l) ≡ take (end_from e from l - from) (drop from l)
  up_to_from = let n : length (up_to e (drop from l)) ≡ end_from e from l - from = omega (arith, end_is) in rw n at (up_to_take e (drop from l))

  pub past_from : past e (drop from l) ≡ drop (suc (end_from e from l)) l
  past_from = rw (past_drop e (drop from l), drop-drop, end_is, add-suc)

  pub end_after : from ≤ end_from e from l
  end_after = omega (arith, end_is)

-- from the end on, there is none
pub end_last : (e i : ℕ) (l : List ℕ) → length l ≤ i → end_from e i l ≡ length l
unfolding end_from up_to
end_last e i l h = rw (drop_of_length-le l h) (by_cond (λ (n : ℕ). n ≡ length l) (leb i (length l)) (λ q. omega (arith, h, leb-true i (length l) q)) (λ q. refl))

pub end_at_most : (e from : ℕ) (l : List ℕ) → end_from e from l ≤ length l
unfolding end_from
end_at_most e from l =
    by_cond (λ (n : ℕ). n ≤ length l) (leb from (length l)) (λ q. omega (arith, leb-true from (length l) q, simp length-drop at (up_to_at_most e (drop from l)))) (λ q. omega arith)
