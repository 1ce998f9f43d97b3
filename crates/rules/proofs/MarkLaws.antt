-- Sums of a count over marked units, unmarked units and all: as the count grows, after one more mark, where none or all are marked.
use mathlib.Core.Path.{◌≡◌, refl}
use mathlib.Core.Bool.{Bool, true, false, cond}
use mathlib.Core.List.{List, [], ◌∷◌}
use Prim.Native.Nat.{ℕ, suc, ◌+◌, ◌≤◌, ◌<◌}
use native.Mathlib.Nat.{le_refl}
use native.Mathlib.Omega.{arith}
use lib.ListN.{length, get_or, set}
use Rattle.rules.specs.Facts.{holds, sum_of}
use Rattle.rules.specs.Rounds.{unmarked, marked_sum, whole_sum, all_marked}
use Rattle.rules.proofs.FactLaws.{by_test, each_claims, each_at}
use Rattle.rules.proofs.SumLaws.{sum_set, sum_none, sum_grows, sum_tight, sum_length}
use Rattle.rules.proofs.Sheets.SoundLaws.{row_in_use, below_or_not}

-- the sum of a count over the units that are not marked
abbrev pub unmarked_sum : (ℕ → ℕ) → List Bool → ℕ
unmarked_sum count marks = sum_of (λ i t. cond t 0 (count i)) marks

-- each unit is in one of the two sums
pub both_sums : (count : ℕ → ℕ) (marks : List Bool) → marked_sum count marks + unmarked_sum count marks ≡ whole_sum count marks
unfolding marked_sum whole_sum sum_of
both_sums count [] = refl
both_sums count (true ∷ marks) = omega (arith, both_sums (λ i. count (suc i)) marks)
both_sums count (false ∷ marks) = omega (arith, both_sums (λ i. count (suc i)) marks)

-- the sum over all is the same for lists of one length
pub whole_length : (count : ℕ → ℕ) (marks others : List Bool) → length marks ≡ length others → whole_sum count marks ≡ whole_sum count others
unfolding whole_sum
whole_length count marks others e = sum_length count marks others e

-- ---- none is marked
pub none_marked : (count : ℕ → ℕ) → marked_sum count unmarked ≡ 0
unfolding marked_sum sum_of
none_marked count = refl

-- ---- one more mark
module _ (count : ℕ → ℕ) (marks : List Bool) (u : ℕ) (within : u < length marks) (free : get_or marks u false ≡ false) where
  -- the unit's count goes from the one sum to the other
  pub marked_more : marked_sum count (set marks u true) ≡ marked_sum count marks + count u
  unfolding marked_sum
  marked_more = omega (arith, rw free at (sum_set (λ i t. cond t (count i) 0) marks u true false within))

  pub unmarked_less : unmarked_sum count (set marks u true) + count u ≡ unmarked_sum count marks
  unmarked_less = omega (arith, rw free at (sum_set (λ i t. cond t 0 (count i)) marks u true false within))

-- ---- a count that grows: so do its sums
cond_grows : (t : Bool) {a b c d : ℕ} → a ≤ b → c ≤ d → cond t a c ≤ cond t b d
cond_grows t {a} {b} {c} {d} p q = by_test (λ s. cond s a c ≤ cond s b d) t (λ e. p) (λ e. q)

module _ (count later : ℕ → ℕ) (marks : List Bool) (grows : (i : ℕ) → count i ≤ later i) where
  pub marked_grows : marked_sum count marks ≤ marked_sum later marks
  unfolding marked_sum
  marked_grows = sum_grows _ _ marks (λ i t. cond_grows t (grows i) (le_refl 0))

  pub unmarked_grows : unmarked_sum count marks ≤ unmarked_sum later marks
  unmarked_grows = sum_grows _ _ marks (λ i t. cond_grows t (le_refl 0) (grows i))

  pub whole_grows : whole_sum count marks ≤ whole_sum later marks
  unfolding whole_sum
  whole_grows = sum_grows _ _ marks (λ i t. grows i)

  -- where the sum does not grow, no part of it does
  pub marked_tight : (i : ℕ) → marked_sum later marks ≤ marked_sum count marks → i < length marks → get_or marks i false ≡ true → later i ≡ count i
  unfolding marked_sum
  marked_tight i s l m = rw m at (sum_tight _ _ marks i false (λ j t. cond_grows t (grows j) (le_refl 0)) s l)

  pub whole_tight : (i : ℕ) → whole_sum later marks ≤ whole_sum count marks → i < length marks → later i ≡ count i
  unfolding whole_sum
  whole_tight i s l = sum_tight _ _ marks i false (λ j t. grows j) s l

-- ---- all in use are marked
module _ (n : ℕ) (marks : List Bool) (all : all_marked n marks ≡ true) where
  pub marked_at : (i : ℕ) → i < n → i < length marks → get_or marks i false ≡ true
  unfolding all_marked
  marked_at i l k = (row_in_use i n (holds (get_or marks i false) ∷ []) [] l (each_at _ marks i false k (each_claims _ marks all))).0

  -- a count that is 0 from n on: no unit is left to count
  module _ (count : ℕ → ℕ) (past : (i : ℕ) → n ≤ i → count i ≡ 0) where
    pub unmarked_none : unmarked_sum count marks ≡ 0
    unmarked_none =
        sum_none (λ i t. cond t 0 (count i)) marks false
        (λ i k. below_or_not i n (λ l. rw (marked_at i l k)) (λ l. by_test (λ t. cond t 0 (count i) ≡ 0) (get_or marks i false) (λ e. refl) (λ e. past i l)))

    pub marked_whole : length marks ≡ 64 → marked_sum count marks ≡ whole_sum count unmarked
    marked_whole e = omega (arith, unmarked_none, both_sums count marks, whole_length count marks unmarked e)
