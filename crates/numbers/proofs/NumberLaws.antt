-- Fields as numbers: whether all are, what holds where nothing refuses them, their values, and their values padded with zeros.
use mathlib.Core.Path.{◌≡◌, refl, sym, ap, ◌∙◌}
use mathlib.Core.Bool.{Bool, true, false, not, cond, ◌&&◌, and-eq-true_iff}
use mathlib.Core.List.{List, [], ◌∷◌}
use Prim.Native.Nat.{ℕ, zero, suc, ◌*◌, ◌≤◌, ◌<◌}
use native.Mathlib.Omega.{arith}
use lib.Dec.{leb}
use lib.ListN.{length, take, drop, get_or, replicate, length-append, length-drop}
use borrow.Author.Tests.{leb-true, leb-false, not-true}
use Rattle.std.specs.Prelude.{Option, Some, None, Ok, Err}
use Rattle.refusals.specs.declared.Refusal.{Refusal}
use Rattle.refusals.specs.declared.Refusal.TheVariants.{NoNumber, PaddedNumber}
use Rattle.decimal.specs.Reading.{is_number, all_digits, value_from}
use Rattle.fields.specs.Fields.{tab, up_to, past, count_of, field_count}
use Rattle.fields.proofs.Cases.{by_test}
use Rattle.fields.proofs.PartLaws.{up_to_at_most, parted, count_past}
use Rattle.numbers.specs.Numbers.{fields_of, fields_at, all_numbers, has_leading_zero, no_leading_zeros, values, padded, room, refusal_of, unless, numbers_of}
use Rattle.numbers.proofs.PlaceLaws.{fields_inside, fields_past_end, fields_on, fields_split, fields_count}

-- ---- numbers
pub number_some : (f : List ℕ) → is_number f ≡ true → 1 ≤ length f
number_some f e = leb-true 1 (length f) ((and-eq-true_iff (leb 1 (length f)) (all_digits f && leb (value_from 0 f) 65535)).0 e).0

pub numbers_both : (f : List ℕ) (fs : List (List ℕ)) → all_numbers (f ∷ fs) ≡ true → (is_number f ≡ true) × (all_numbers fs ≡ true)
unfolding all_numbers
numbers_both f fs e = (and-eq-true_iff (is_number f) (all_numbers fs)).0 e

-- ---- fields that nothing refuses
fine_both : (fs : List (List ℕ)) → refusal_of fs ≡ None → (no_leading_zeros fs ≡ true) × (all_numbers fs ≡ true)
fine_both fs e = by_tests (no_leading_zeros fs) (all_numbers fs) e
  where
    by_tests : (s t : Bool) → cond s (cond t None (Some NoNumber)) (Some PaddedNumber) ≡ None → (s ≡ true) × (t ≡ true)
    by_tests true true q = (refl, refl)
    by_tests true false q = absurd cc
    by_tests false t q = absurd cc

pub numbers_all : (fs : List (List ℕ)) → refusal_of fs ≡ None → all_numbers fs ≡ true
numbers_all fs e = (fine_both fs e).1

-- they have their values, and others their refusal
pub numbers_given : (fs : List (List ℕ)) {vs : List ℕ} → (numbers_of fs).values ≡ Ok vs → (refusal_of fs ≡ None) × (vs ≡ padded room (values fs))
numbers_given fs e = by_refusal (refusal_of fs) e
  where
    by_refusal : (o : Option Refusal) {vs : List ℕ} → unless o (padded room (values fs)) ≡ Ok vs → (o ≡ None) × (vs ≡ padded room (values fs))
    by_refusal None q = (refl, cc)
    by_refusal (Some k) q = absurd cc

pub numbers_refused : (fs : List (List ℕ)) {k : Refusal} → (numbers_of fs).values ≡ Err k → refusal_of fs ≡ Some k
numbers_refused fs e = by_refusal (refusal_of fs) e
  where
    by_refusal : (o : Option Refusal) {k : Refusal} → unless o (padded room (values fs)) ≡ Err k → o ≡ Some k
    by_refusal None q = absurd cc
    by_refusal (Some j) q = cc

-- the first of them is a number without a leading zero, and nothing refuses those behind it
pub fine_cons : (f : List ℕ) (fs : List (List ℕ)) → has_leading_zero f ≡ false → is_number f ≡ true → refusal_of fs ≡ None → refusal_of (f ∷ fs) ≡ None
unfolding no_leading_zeros all_numbers
fine_cons f fs z n e = let both = fine_both fs e in rw (z, n, both.0, both.1)

pub fine_parts : (f : List ℕ) (fs : List (List ℕ)) → refusal_of (f ∷ fs) ≡ None → (has_leading_zero f ≡ false) × (is_number f ≡ true) × (refusal_of fs ≡ None)
unfolding no_leading_zeros
fine_parts f fs e =
    let both = fine_both (f ∷ fs) e in
    let zeros = (and-eq-true_iff (not (has_leading_zero f)) (no_leading_zeros fs)).0 both.0 in
    let numbers = numbers_both f fs both.1 in
    (not-true (has_leading_zero f) zeros.0, numbers.0, rw (zeros.1, numbers.1))

pub fine_drop : (n : ℕ) (fs : List (List ℕ)) → refusal_of fs ≡ None → refusal_of (drop n fs) ≡ None
fine_drop zero fs e = e
fine_drop (suc n) [] e = e
fine_drop (suc n) (f ∷ fs) e = fine_drop n fs (fine_parts f fs e).2

-- ---- values
pub values_length : (fs : List (List ℕ)) → length (values fs) ≡ length fs
unfolding values
values_length [] = refl
values_length (f ∷ fs) = ap suc (values_length fs)

pub values_drop : (n : ℕ) (fs : List (List ℕ)) → values (drop n fs) ≡ drop n (values fs)
unfolding values
values_drop zero fs = refl
values_drop (suc n) [] = refl
values_drop (suc n) (f ∷ fs) = values_drop n fs

-- ---- padded values
pub padded_none : (n : ℕ) → padded n [] ≡ replicate n 0
unfolding padded
padded_none zero = refl
padded_none (suc n) = ap (λ (vs : List ℕ). 0 ∷ vs) (padded_none n)

pub padded_get : (n : ℕ) (vs : List ℕ) (i : ℕ) → i < n → get_or (padded n vs) i 0 ≡ get_or vs i 0
unfolding padded
padded_get zero vs i h = absurd (omega arith)
padded_get (suc n) [] zero h = refl
padded_get (suc n) [] (suc i) h = padded_get n [] i (omega arith)
padded_get (suc n) (v ∷ vs) zero h = refl
padded_get (suc n) (v ∷ vs) (suc i) h = padded_get n vs i (omega arith)

pub padded_take : (n : ℕ) (vs : List ℕ) → length vs ≤ n → take (length vs) (padded n vs) ≡ vs
unfolding padded
padded_take n [] h = refl
padded_take zero (v ∷ vs) h = absurd (omega arith)
padded_take (suc n) (v ∷ vs) h = ap (λ (ws : List ℕ). v ∷ ws) (padded_take n vs (omega arith))

-- ---- a line has two bytes for each number, but for the last one's tab
first_some : (l : List ℕ) → all_numbers (fields_of l) ≡ true → 1 ≤ length (up_to tab l)
first_some l e = number_some (up_to tab l) (numbers_both (up_to tab l) (fields_at (suc (length (up_to tab l))) l) (ap all_numbers (sym (fields_split l)) ∙ e)).0

numbers_line : (n : ℕ) (l : List ℕ) → count_of tab l ≡ n → all_numbers (fields_of l) ≡ true → 2 * suc n ≤ suc (length l)
numbers_line zero l q e = omega (arith, first_some l e, up_to_at_most tab l)
numbers_line (suc n) l q e =
    let rest : all_numbers (fields_of (past tab l)) ≡ true = ap all_numbers (sym (fields_on l (omega arith))) ∙ (numbers_both (up_to tab l) (fields_at (suc (length (up_to tab l))) l) (ap all_numbers (sym (fields_split l)) ∙ e)).1 in
    omega (arith, first_some l e, numbers_line n (past tab l) (omega (arith, q, count_past tab l)) rest, simp length-append at (ap length (parted tab l (omega arith))))

-- so one of 255 bytes has room for 128
pub numbers_fit : (at : ℕ) (l : List ℕ) → length l ≤ 255 → all_numbers (fields_at at l) ≡ true → length (fields_at at l) ≤ room
unfolding field_count
numbers_fit at l h e =
    by_test (leb at (length l))
    (λ q.
    let m : List ℕ = drop at l in
    let is : fields_at at l ≡ fields_of m = fields_inside at l (leb-true at (length l) q) in
    omega (arith, ap length is, fields_count m, numbers_line (count_of tab m) m refl (ap all_numbers (sym is) ∙ e), length-drop at l))
    (λ q. omega (arith, ap length (fields_past_end at l (leb-false at (length l) q))))
