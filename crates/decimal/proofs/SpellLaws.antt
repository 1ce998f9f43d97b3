-- The digits that a number is spelled with: how many, and what they are.
use mathlib.Core.Path.{◌≡◌, refl, ap, ◌∙◌}
use mathlib.Core.List.{[], ◌∷◌, ◌++◌}
use mathlib.Core.Bool.{true}
use Prim.Native.Nat.{ℕ, zero, suc, ◌+◌, ◌*◌, ◌/◌, ◌%◌, ◌^◌, ◌≤◌, ◌<◌}
use native.Mathlib.Nat.{pow-suc, mod-lt, div-lt_iff_lt-mul, div-div-eq-div-mul}
use Rattle.std.proofs.Math.Arith.{mod-mul}
use Rattle.std.proofs.lemmas.Nat.{div-mul-add, mod-mul-add}
use native.Mathlib.Omega.{arith}
use lib.ListN.{length}
use borrow.Author.Tests.{le-leb}
use Rattle.decimal.specs.Spelling.{spell, digit_count, spelled}
use Rattle.decimal.specs.Reading.{is_digit, all_digits}
use Rattle.decimal.proofs.CountLaws.{power_pos, below_count}

-- the first of k + 1 digits, and what is left for the others
pub lead_digit : (k n : ℕ) → n < 10 ^ suc k → n / 10 ^ k < 10
lead_digit k n h = (div-lt_iff_lt-mul (power_pos k)).1 (omega (arith, pow-suc 10 k))

pub lead_rest : (k n : ℕ) → n % 10 ^ k < 10 ^ k
lead_rest k n = mod-lt n (power_pos k)

pub spell_length : (k n : ℕ) → length (spell k n) ≡ k
unfolding spell
spell_length zero n = refl
spell_length (suc k) n = ap suc (spell_length k (n % 10 ^ k))

pub spelled_length : (n : ℕ) → length (spelled n) ≡ digit_count n
unfolding spelled
spelled_length n = spell_length (digit_count n) n

-- ---- the last digit, behind those of a tenth of the number
module _ (k n : ℕ) where
  low_digits : n % 10 ^ suc k ≡ n / 10 % 10 ^ k * 10 + n % 10
  low_digits = rw (pow-suc 10 k) (mod-mul n (power_pos k) (omega arith))

  low_tenth : n % 10 ^ suc k / 10 ≡ n / 10 % 10 ^ k
  low_tenth = rw low_digits (div-mul-add (n / 10 % 10 ^ k) 10 (n % 10) (omega arith))

  low_last : n % 10 ^ suc k % 10 ≡ n % 10
  low_last = rw low_digits (mod-mul-add (n / 10 % 10 ^ k) 10 (n % 10) (omega arith))

  tenth_lead : n / 10 / 10 ^ k ≡ n / 10 ^ suc k
  tenth_lead = div-div-eq-div-mul n 10 (10 ^ k) ∙ ap (λ (p : ℕ). n / p) (omega (arith, pow-suc 10 k))

pub spell_last : (k n : ℕ) → n < 10 ^ suc k → spell (suc k) n ≡ spell k (n / 10) ++ (48 + n % 10) ∷ []
unfolding spell
spell_last zero n h = ap (λ (d : ℕ). d ∷ []) (omega arith)
spell_last (suc k) n h =
    rw (spell_last k (n % 10 ^ suc k) (lead_rest (suc k) n), low_tenth k n, low_last k n, tenth_lead k n)

-- ---- every byte is a digit
digit_is : {c : ℕ} → 48 ≤ c → c ≤ 57 → is_digit c ≡ true
digit_is {c} l u = rw (le-leb 48 c, le-leb c 57)

spell_digits : (k n : ℕ) → n < 10 ^ k → all_digits (spell k n) ≡ true
unfolding spell all_digits
spell_digits zero n h = refl
spell_digits (suc k) n h = rw (digit_is {c = 48 + n / 10 ^ k} (omega arith) (omega (arith, lead_digit k n h)), spell_digits k (n % 10 ^ k) (lead_rest k n))

pub spelled_digits : (n : ℕ) → n < 10 ^ 20 → all_digits (spelled n) ≡ true
unfolding spelled
spelled_digits n h = spell_digits (digit_count n) n (below_count n h)
