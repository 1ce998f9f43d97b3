-- How many digits a number has: at least one, at most as many as a power of ten above it says, and not one too many.
use mathlib.Core.Path.{◌≡◌, refl, ap, ◌∙◌}
use mathlib.Core.Logic.{⊎_elim}
use Prim.Native.Nat.{ℕ, zero, suc, pred, ◌^◌, ◌≤◌, ◌<◌, zero-le, suc-le-suc}
use native.Mathlib.Nat.{le_refl, le_trans, le_of_suc-le-suc, lt_irrefl, not-suc-le-zero, eq-or-lt_of_le, one-le-pow, pow-le-pow_right}
use native.Mathlib.Omega.{arith}
use lib.Dec.{leb}
use borrow.Author.Tests.{leb-true, leb-false, le-leb, lt-leb}
use Rattle.fields.proofs.Cases.{by_test, by_cond}
use Rattle.decimal.specs.Spelling.{digits_up_to, digit_count}

pub power_pos : (k : ℕ) → 1 ≤ 10 ^ k
power_pos k = one-le-pow k 10 (omega arith)

pub power_le : {i j : ℕ} → i ≤ j → 10 ^ i ≤ 10 ^ j
power_le h = pow-le-pow_right (omega arith) h

module _ (n : ℕ) where
  -- ---- the two cases of the definition
  pub count_at : (k : ℕ) → 1 ≤ k → 10 ^ k ≤ n → digits_up_to k n ≡ suc k
  unfolding digits_up_to
  count_at zero p h = absurd (not-suc-le-zero p)
  count_at (suc k) p h = rw le-leb

  count_under : (k : ℕ) → n < 10 ^ suc k → digits_up_to (suc k) n ≡ digits_up_to k n
  unfolding digits_up_to
  count_under k h = rw lt-leb

  by_power : (P : ℕ → Type 0) (k : ℕ) → (10 ^ suc k ≤ n → P (suc (suc k))) → (n < 10 ^ suc k → P (digits_up_to k n)) → P (digits_up_to (suc k) n)
  unfolding digits_up_to
  by_power P k f g = by_cond P (leb (10 ^ suc k) n) (λ e. f (leb-true _ _ e)) (λ e. g (leb-false _ _ e))

  -- ---- bounds
  up_to_some : (k : ℕ) → 1 ≤ digits_up_to k n
  unfolding digits_up_to
  up_to_some zero = le_refl 1
  up_to_some (suc k) = by_power (λ d. 1 ≤ d) k (λ h. suc-le-suc zero-le) (λ h. up_to_some k)

  up_to_most : (k : ℕ) → digits_up_to k n ≤ suc k
  unfolding digits_up_to
  up_to_most zero = le_refl 1
  up_to_most (suc k) = by_power (λ d. d ≤ suc (suc k)) k (λ h. le_refl (suc (suc k))) (λ h. omega (arith, up_to_most k))

  pub count_some : 1 ≤ digit_count n
  count_some = up_to_some 19

  pub count_most : digit_count n ≤ 20
  count_most = up_to_most 19

  -- powers above the number add no digit
  up_to_above : (k j : ℕ) → n < 10 ^ suc k → k ≤ j → digits_up_to j n ≡ digits_up_to k n
  up_to_above zero zero h l = refl
  up_to_above (suc k) zero h l = absurd (not-suc-le-zero l)
  up_to_above k (suc j) h l =
      ⊎_elim (λ e. ap (λ i. digits_up_to i n) (omega (arith, e)))
      (λ less. count_under j (le_trans h (power_le less)) ∙ up_to_above k j h (le_of_suc-le-suc less))
      (eq-or-lt_of_le l)

  pub count_here : (k : ℕ) → 1 ≤ k → k ≤ 20 → n < 10 ^ k → digit_count n ≡ digits_up_to (pred k) n
  count_here zero p l h = absurd (not-suc-le-zero p)
  count_here (suc k) p l h = up_to_above k 19 h (le_of_suc-le-suc l)

  pub count_bound : (k : ℕ) → 1 ≤ k → k ≤ 20 → n < 10 ^ k → digit_count n ≤ k
  count_bound zero p l h = absurd (not-suc-le-zero p)
  count_bound (suc k) p l h = rw (count_here (suc k) p l h) (up_to_most k)

  pub count_word : n ≤ 65535 → digit_count n ≤ 5
  count_word h = count_bound 5 (omega arith) (omega arith) (omega arith)

  -- ---- as many digits as the powers around the number say
  power_few : (k : ℕ) → n < 10 ^ 20 → 10 ^ k ≤ n → k < 20
  power_few k l r = by_test (leb 20 k) (λ e. absurd (lt_irrefl n (le_trans l (le_trans (power_le (leb-true 20 k e)) r)))) (leb-false 20 k)

  pub count_exact : (k : ℕ) → n < 10 ^ 20 → n < 10 ^ suc k → (1 ≤ k → 10 ^ k ≤ n) → digit_count n ≡ suc k
  unfolding digits_up_to
  count_exact zero l h r = count_here 1 (le_refl 1) (suc-le-suc zero-le) h
  count_exact (suc k) l h r =
      let reaches : 10 ^ suc k ≤ n = r (suc-le-suc zero-le) in
      count_here (suc (suc k)) (suc-le-suc zero-le) (power_few (suc k) l reaches) h ∙ count_at (suc k) (suc-le-suc zero-le) reaches

  up_to_reaches : (k : ℕ) → 2 ≤ digits_up_to k n → 10 ^ pred (digits_up_to k n) ≤ n
  unfolding digits_up_to
  up_to_reaches zero = λ h. absurd (omega (arith, h))
  up_to_reaches (suc k) = by_power (λ d. 2 ≤ d → 10 ^ pred d ≤ n) k (λ l h. l) (λ l. up_to_reaches k)

  -- two digits or more: the number reaches the power of the first
  pub count_reaches : 2 ≤ digit_count n → 10 ^ pred (digit_count n) ≤ n
  count_reaches = up_to_reaches 19

  -- ---- the digits suffice
  up_to_below : (k : ℕ) → n < 10 ^ suc k → n < 10 ^ digits_up_to k n
  unfolding digits_up_to
  up_to_below zero h = h
  up_to_below (suc k) h = by_power (λ d. n < 10 ^ d) k (λ l. h) (up_to_below k)

  pub below_count : n < 10 ^ 20 → n < 10 ^ digit_count n
  below_count h = up_to_below 19 h
