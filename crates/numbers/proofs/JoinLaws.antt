-- The fields of a word with numbers behind tabs: the word, then each number's digits, which are read back as the number; and a line whose
-- number fields nothing refuses is such a line.
use mathlib.Core.Path.{◌≡◌, refl, sym, ap, ◌∙◌}
use mathlib.Core.Bool.{true, and-eq-true_iff, false, ◌&&◌, false≢true}
use mathlib.Core.List.{List, [], ◌∷◌, ◌++◌, map, append-nil}
use Prim.Native.Nat.{ℕ, zero, suc, ◌*◌, ◌≤◌, ◌<◌}
use native.Mathlib.Omega.{arith}
use borrow.Author.Tests.{leb-true, ne_eqb, le-leb, eqb-false}
use lib.Dec.{leb, eqb}
use lib.ListN.{length, drop, length-append, get_or}
use Rattle.std.specs.Prelude.{None}
use Rattle.decimal.specs.Reading.{is_digit, all_digits, value_from, is_number}
use Rattle.decimal.specs.Spelling.{spelled}
use Rattle.decimal.proofs.CountLaws.{count_word}
use Rattle.decimal.proofs.SpellLaws.{spelled_digits, spelled_length}
use Rattle.decimal.proofs.RoundTrip.{value_spelled, spelled_number, first_digit, spelled_value, spelled_lead}
use Rattle.fields.specs.Fields.{tab, count_of, up_to, past}
use Rattle.fields.proofs.PartLaws.{up_to_whole, count_past, parted}
use Rattle.numbers.specs.Numbers.{fields_of, all_numbers, no_leading_zeros, values, refusal_of, tabbed, has_leading_zero}
use Rattle.numbers.proofs.PlaceLaws.{fields_on, fields_split, fields_alone, fields_joined}
use Rattle.numbers.proofs.NumberLaws.{fine_cons, fine_parts, number_some}
use Rattle.fields.proofs.Cases.{by_test, by_bool}

-- a number is spelled without a leading zero
pub plain_spelled : (n : ℕ) → has_leading_zero (spelled n) ≡ false
unfolding has_leading_zero
plain_spelled n =
    by_bool (λ t. t && (eqb (get_or (spelled n) 0 0) 48 && all_digits (spelled n)) ≡ false) (leb 2 (length (spelled n)))
    (λ e. rw (ne_eqb (get_or (spelled n) 0 0) 48 (λ q. omega (arith, spelled_lead n (leb-true 2 (length (spelled n)) e), q)))) (λ e. refl)

-- ---- a number without a leading zero is spelled as it stands
module _ (f : List ℕ) (e : is_number f ≡ true) where
  digits : (all_digits f ≡ true) × (leb (value_from 0 f) 65535 ≡ true)
  digits = (and-eq-true_iff (all_digits f) (leb (value_from 0 f) 65535)).0 ((and-eq-true_iff (leb 1 (length f)) (all_digits f && leb (value_from 0 f) 65535)).0 e).1

  pub number_small : value_from 0 f ≤ 65535
  number_small = leb-true (value_from 0 f) 65535 digits.1

plain_lead : (c : ℕ) (cs : List ℕ) → has_leading_zero (c ∷ cs) ≡ false → all_digits (c ∷ cs) ≡ true → 1 ≤ length cs → 48 < c
unfolding has_leading_zero
plain_lead c cs z d l =
    by_test (eqb c 48) (λ e. absurd (false≢true (sym z ∙ rw (le-leb 2 (suc (length cs)) (omega (arith, l)), e, d)))) (λ e. omega (arith, eqb-false c 48 e, first_digit c cs d))

pub spelled_plain : (f : List ℕ) → has_leading_zero f ≡ false → is_number f ≡ true → spelled (value_from 0 f) ≡ f
spelled_plain [] z e = absurd (omega (arith, number_some [] e))
spelled_plain (c ∷ cs) z e = spelled_value c cs (digits (c ∷ cs) e).0 (plain_lead c cs z (digits (c ∷ cs) e).0) (omega (arith, number_small (c ∷ cs) e))

-- ---- numbers of 16 bits, each in at most five digits
abbrev pub Small : List ℕ → Type 0
Small [] = Unit {0}
Small (n ∷ ns) = (n ≤ 65535) × Small ns

pub tabbed_length : (ns : List ℕ) → Small ns → length (tabbed ns) ≤ 6 * length ns
unfolding tabbed
tabbed_length [] h = omega arith
tabbed_length (n ∷ ns) h = omega (arith, length-append (spelled n) (tabbed ns), spelled_length n, count_word n h.0, tabbed_length ns h.1)

-- digits are no tabs
digits_none : (cs : List ℕ) → all_digits cs ≡ true → count_of tab cs ≡ 0
unfolding all_digits count_of
digits_none [] e = refl
digits_none (c ∷ cs) e =
    let both = (and-eq-true_iff (is_digit c) (all_digits cs)).0 e in
    let low : 48 ≤ c = leb-true 48 c ((and-eq-true_iff (leb 48 c) (leb c 57)).0 both.0).0 in
    rw (ne_eqb c tab (λ q. omega (arith, low, q)), digits_none cs both.1)

spelled_none : (n : ℕ) → n ≤ 65535 → count_of tab (spelled n) ≡ 0
spelled_none n h = digits_none (spelled n) (spelled_digits n (omega arith))

-- w with numbers behind it
pub fields_tabbed : (w ns : List ℕ) → count_of tab w ≡ 0 → Small ns → fields_of (w ++ tabbed ns) ≡ w ∷ map spelled ns
unfolding tabbed
fields_tabbed w [] e h = ap fields_of (append-nil w) ∙ fields_alone w e
fields_tabbed w (n ∷ ns) e h = fields_joined w e (spelled n ++ tabbed ns) ∙ ap (λ (fs : List (List ℕ)). w ∷ fs) (fields_tabbed (spelled n) ns (spelled_none n h.0) h.1)

-- ---- read back
pub fine_tabbed : (ns : List ℕ) → Small ns → refusal_of (map spelled ns) ≡ None
unfolding no_leading_zeros all_numbers
fine_tabbed [] h = refl
fine_tabbed (n ∷ ns) h = fine_cons (spelled n) (map spelled ns) (plain_spelled n) (spelled_number n h.0) (fine_tabbed ns h.1)

pub values_tabbed : (ns : List ℕ) → Small ns → values (map spelled ns) ≡ ns
unfolding values
values_tabbed [] h = refl
values_tabbed (n ∷ ns) h = rw (value_spelled n (omega (arith, h.0)), values_tabbed ns h.1)

-- ---- the other way: the values of fields that nothing refuses, and the line that these are written in
pub values_small : (fs : List (List ℕ)) → refusal_of fs ≡ None → Small (values fs)
unfolding values
values_small [] e = tt
values_small (f ∷ fs) e = let parts = fine_parts f fs e in (number_small f parts.1, values_small fs parts.2)

fields_first : (l : List ℕ) → fields_of l ≡ up_to tab l ∷ drop 1 (fields_of l)
fields_first l = fields_split l ∙ ap (λ (fs : List (List ℕ)). up_to tab l ∷ drop 1 fs) (sym (fields_split l))

pub line_tabbed : (n : ℕ) (l : List ℕ) → count_of tab l ≡ n → refusal_of (drop 1 (fields_of l)) ≡ None → up_to tab l ++ tabbed (values (drop 1 (fields_of l))) ≡ l
unfolding tabbed values
line_tabbed zero l q e = rw (fields_alone l q, append-nil) (up_to_whole tab l q)
line_tabbed (suc n) l q e =
    let p : List ℕ = past tab l in
    let behind : drop 1 (fields_of l) ≡ up_to tab p ∷ drop 1 (fields_of p) = ap (drop 1) (fields_split l) ∙ fields_on l (omega (arith, q)) ∙ fields_first p in
    let parts = fine_parts (up_to tab p) (drop 1 (fields_of p)) (ap refusal_of (sym behind) ∙ e) in
    let first : spelled (value_from 0 (up_to tab p)) ≡ up_to tab p = spelled_plain (up_to tab p) parts.0 parts.1 in
    let rest : up_to tab p ++ tabbed (values (drop 1 (fields_of p))) ≡ p = line_tabbed n p (omega (arith, q, count_past tab l)) parts.2 in
    rw (behind, first, rest) (parted tab l (omega (arith, q)))
