-- `digit_count`: the bits leave two counts, and one power decides between them.
use mathlib.Core.Path.{◌≡◌, refl, sym, ◌∙◌}
use mathlib.Core.Bool.{Bool, true, ◌&&◌, and-eq-true_iff}
use Prim.Native.Nat.{ℕ, zero, suc, ◌+◌, ◌*◌, ◌/◌, ◌^◌, ◌≤◌, ◌<◌}
use native.Mathlib.Nat.{le_of_suc-le-suc, not-suc-le-zero, pow-suc}
use native.Mathlib.Omega.{arith}
use native.Mathlib.Numerals.{add-one}
use borrow.Author.Tests.{leb-true}
use lib.Dec.{leb}
use Rattle.decimal.specs.Spelling.{digit_count}
use Rattle.decimal.proofs.CountLaws.{count_exact}
use Rattle.decimal.proofs.digit_count.Goals as goal

-- ---- a test that holds of every number below n
abbrev all_below : (ℕ → Bool) → ℕ → Bool
all_below f zero = true
all_below f (suc n) = f zero && all_below (λ i. f (suc i)) n

below_at : (f : ℕ → Bool) (n : ℕ) → all_below f n ≡ true → (i : ℕ) → i < n → f i ≡ true
below_at f zero e i h = absurd (not-suc-le-zero h)
below_at f (suc n) e zero h = ((and-eq-true_iff (f zero) (all_below (λ j. f (suc j)) n)).0 e).0
below_at f (suc n) e (suc i) h = below_at (λ j. f (suc j)) n ((and-eq-true_iff (f zero) (all_below (λ j. f (suc j)) n)).0 e).1 i (le_of_suc-le-suc h)

-- ---- the powers of ten around 2 ^ b
module _ (m : ℕ) where
  abbrev digits_by : ℕ → ℕ
  digits_by b = b * m / 4096

  abbrev around : ℕ → Bool
  around b = leb (10 ^ digits_by b) (2 ^ b) && leb (2 ^ b) (10 ^ suc (digits_by b))

  powers_around : (b : ℕ) → around b ≡ true → (10 ^ digits_by b ≤ 2 ^ b) × (2 ^ b ≤ 10 ^ suc (digits_by b))
  powers_around b e =
      let tests = (and-eq-true_iff (leb (10 ^ digits_by b) (2 ^ b)) (leb (2 ^ b) (10 ^ suc (digits_by b)))).0 e in
      (leb-true _ _ tests.0, leb-true _ _ tests.1)

-- ---- one power decides
-- m passes at every length that a number of 64 bits has; the number's highest bit is bit j
module _ (m : ℕ) (all : all_below (around m) 65 ≡ true) (n j : ℕ) (fits : n < 2 ^ 64) (short : j < 64) (low : 2 ^ j ≤ n) (high : n < 2 * 2 ^ j) where
  abbrev by_bits : ℕ
  by_bits = digits_by m (j + 1)

  bounds : (n < 10 ^ suc by_bits) × (10 ^ by_bits ≤ 2 * n)
  bounds =
      let double : 2 ^ (j + 1) ≡ 2 ^ j * 2 = rw add-one (pow-suc 2 j) in
      let powers = powers_around m (j + 1) (below_at (around m) 65 all (j + 1) (omega arith)) in
      (omega (arith, double, powers.1), omega (arith, double, powers.0))

  -- below the power: the one before it is reached
  bits_under : 1 ≤ n → n < 10 ^ by_bits → digit_count n ≡ by_bits
  bits_under = by_count by_bits bounds.1
    where
      by_count : (k : ℕ) → 10 ^ k ≤ 2 * n → 1 ≤ n → n < 10 ^ k → digit_count n ≡ k
      by_count zero l some h = absurd (omega (arith, some, h))
      by_count (suc k) l some h = count_exact n k (omega (arith, fits)) h (λ _. omega (arith, l, pow-suc 10 k))

  bits_from : 10 ^ by_bits ≤ n → digit_count n ≡ suc by_bits
  bits_from r = count_exact n by_bits (omega (arith, fits)) bounds.0 (λ _. r)

pub returns-then-n-lt10 : goal.returns-then-n-lt10
returns-then-n-lt10 c = sym (count_exact _ 0 (omega arith) (omega arith) (λ some. absurd (omega (arith, some))))

pub returns-then-n-pow : goal.returns-then-n-pow
returns-then-n-pow c = let bits = c.ilog2-bits.ensures in sym (bits_under _ refl _ _ (omega arith) bits.bound bits.power_le bits.next_power_gt (omega arith) (omega (arith, c.pow.ensures)))

pub returns : goal.returns
returns c = let bits = c.ilog2-bits.ensures in add-one _ ∙ sym (bits_from _ refl _ _ (omega arith) bits.bound bits.power_le bits.next_power_gt (omega (arith, c.pow.ensures)))
