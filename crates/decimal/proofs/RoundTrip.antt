-- A number that is spelled and read back is the number, and digits that are read and spelled are the digits, where they have no leading zero.
use mathlib.Core.Path.{◌≡◌, refl, ap, ◌∙◌}
use mathlib.Core.Bool.{true, and-eq-true_iff}
use mathlib.Core.List.{List, [], ◌∷◌}
use Prim.Native.Nat.{ℕ, zero, suc, pred, ◌+◌, ◌-◌, ◌*◌, ◌/◌, ◌%◌, ◌^◌, ◌≤◌, ◌<◌}
use native.Mathlib.Nat.{zero-add, pow-suc, add-mul, mul_assoc, mul_right_comm, mul-le-mul_right, div-add-mod', le-div_iff_mul-le}
use native.Mathlib.Omega.{arith}
use lib.Arith.{digits_lt, digits_div, digits_mod}
use lib.Dec.{leb}
use lib.ListN.{length, get_or}
use borrow.Author.Tests.{leb-true, le-leb}
use Rattle.decimal.specs.Spelling.{spell, digit_count, spelled}
use Rattle.decimal.specs.Reading.{is_digit, all_digits, value_from, is_number, number_of}
use Rattle.std.specs.Prelude.{Ok}
use Rattle.decimal.proofs.CountLaws.{power_pos, below_count, count_some, count_exact, count_reaches}
use Rattle.decimal.proofs.SpellLaws.{lead_rest, spell_length, spelled_digits, spelled_length}

pub value_spell : (k v n : ℕ) → n < 10 ^ k → value_from v (spell k n) ≡ v * 10 ^ k + n
unfolding spell value_from
value_spell zero v n h = omega arith
value_spell (suc k) v n h =
    let q : ℕ = n / 10 ^ k in
    value_spell k (v * 10 + (48 + q - 48)) (n % 10 ^ k) (lead_rest k n)
    ∙ omega (arith, add-mul (v * 10) (48 + q - 48) (10 ^ k), ap (λ (d : ℕ). d * 10 ^ k) (digit_back q), mul_right_comm v 10 (10 ^ k), mul_assoc v (10 ^ k) 10, ap (λ (p : ℕ). v * p) (pow-suc 10 k), div-add-mod' n (10 ^ k))
  where
    digit_back : (q : ℕ) → 48 + q - 48 ≡ q
    digit_back q = omega arith

pub value_spelled : (n : ℕ) → n < 10 ^ 20 → value_from 0 (spelled n) ≡ n
unfolding spelled
value_spelled n h = value_spell (digit_count n) 0 n (below_count n h) ∙ omega arith

pub spelled_number : (n : ℕ) → n ≤ 65535 → is_number (spelled n) ≡ true
spelled_number n h = rw (value_spelled n (omega arith), spelled_digits n (omega arith), le-leb 1 (length (spelled n)) (omega (arith, spelled_length n, count_some n)), le-leb n 65535)

pub number_spelled : (n : ℕ) → n ≤ 65535 → number_of (spelled n) ≡ Ok n
unfolding number_of
number_spelled n h = rw (spelled_number n h, value_spelled n (omega arith))

-- ---- the other way: digits that are read and spelled
value_behind : (v : ℕ) (cs : List ℕ) → value_from v cs ≡ v * 10 ^ length cs + value_from 0 cs
unfolding value_from
value_behind v [] = omega arith
value_behind v (c ∷ cs) =
    let p : ℕ = 10 ^ length cs in
    omega (
      arith,
      value_behind (v * 10 + (c - 48)) cs,
      value_behind (0 * 10 + (c - 48)) cs,
      add-mul (v * 10) (c - 48) p,
      add-mul (0 * 10) (c - 48) p,
      mul_right_comm v 10 p,
      mul_assoc v p 10,
      ap (λ (q : ℕ). v * q) (pow-suc 10 (length cs)),
    )

-- the first digit, and the value of those behind it
module _ (c : ℕ) (cs : List ℕ) (e : all_digits (c ∷ cs) ≡ true) where
  both : (is_digit c ≡ true) × (all_digits cs ≡ true)
  unfolding all_digits
  both = (and-eq-true_iff (is_digit c) (all_digits cs)).0 e

  pub first_digit : (48 ≤ c) × (c ≤ 57)
  first_digit =
      let tests = (and-eq-true_iff (leb 48 c) (leb c 57)).0 both.0 in
      (leb-true 48 c tests.0, leb-true c 57 tests.1)

  other_digits : all_digits cs ≡ true
  other_digits = both.1

  value_lead : value_from 0 (c ∷ cs) ≡ (c - 48) * 10 ^ length cs + value_from 0 cs
  unfolding value_from
  value_lead = ap (λ (v : ℕ). value_from v cs) (zero-add (c - 48)) ∙ value_behind (c - 48) cs

value_below : (cs : List ℕ) → all_digits cs ≡ true → value_from 0 cs < 10 ^ length cs
unfolding value_from
value_below [] e = omega arith
value_below (c ∷ cs) e =
    omega (
      arith,
      value_lead c cs e,
      digits_lt {q = c - 48} {m = 10} (omega (arith, first_digit c cs e)) (value_below cs (other_digits c cs e)),
      pow-suc 10 (length cs),
    )

spell_value : (cs : List ℕ) → all_digits cs ≡ true → spell (length cs) (value_from 0 cs) ≡ cs
unfolding spell
spell_value [] e = refl
spell_value (c ∷ cs) e =
    let rest : all_digits cs ≡ true = other_digits c cs e in
    let below : value_from 0 cs < 10 ^ length cs = value_below cs rest in
    let digit : 48 + (c - 48) ≡ c = omega (arith, first_digit c cs e) in
    rw (value_lead c cs e, digits_div (c - 48) below, digits_mod (c - 48) below, digit, spell_value cs rest)

-- a first digit above 0 is worth its power
lead_reaches : (c : ℕ) (cs : List ℕ) → all_digits (c ∷ cs) ≡ true → 48 < c → 10 ^ length cs ≤ value_from 0 (c ∷ cs)
lead_reaches c cs e h =
    let some : 1 ≤ c - 48 = omega (arith, h) in
    omega (arith, value_lead c cs e, mul-le-mul_right (10 ^ length cs) some)

-- a digit by itself, or digits of which the first is above 0
pub spelled_value : (c : ℕ) (cs : List ℕ) → all_digits (c ∷ cs) ≡ true → (1 ≤ length cs → 48 < c) → value_from 0 (c ∷ cs) < 10 ^ 20 → spelled (value_from 0 (c ∷ cs)) ≡ c ∷ cs
unfolding spelled
spelled_value c cs e lead small =
    let n : ℕ = value_from 0 (c ∷ cs) in
    let count : digit_count n ≡ suc (length cs) = count_exact n (length cs) small (value_below (c ∷ cs) e) (λ s. lead_reaches c cs e (lead s)) in
    ap (λ (k : ℕ). spell k n) count ∙ spell_value (c ∷ cs) e

-- of two digits or more that a number is spelled with, the first is above 0
spell_lead : (k n : ℕ) → 1 ≤ k → 10 ^ pred k ≤ n → 48 < get_or (spell k n) 0 0
unfolding spell
spell_lead zero n l r = absurd (omega arith)
spell_lead (suc k) n l r = omega (arith, (le-div_iff_mul-le {x = 1} {y = n} (power_pos k)).1 (omega (arith, r)))

pub spelled_lead : (n : ℕ) → 2 ≤ length (spelled n) → 48 < get_or (spelled n) 0 0
unfolding spelled
spelled_lead n h =
    let many : 2 ≤ digit_count n = omega (arith, h, spell_length (digit_count n) n) in
    spell_lead (digit_count n) n (omega arith) (count_reaches n many)
