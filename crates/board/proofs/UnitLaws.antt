-- The pass over the units: what holds once i of them are passed, what units that fit say of the next, and the verdict at the end.
use mathlib.Core.Path.{◌≡◌}
use mathlib.Core.Bool.{true}
use mathlib.Core.List.{List, ◌∷◌}
use Prim.Native.Nat.{ℕ, ◌+◌, ◌-◌, ◌≤◌, ◌<◌}
use native.Mathlib.Omega.{arith}
use lib.ListN.{length, get_or, drop}
use lib.Dec.{eqb}
use borrow.Author.Count.{below_none, below_more}
use Rattle.std.proofs.lemmas.Bool.Decides.{nat_tests}
use Rattle.rules.specs.Facts.{Fact, at_most, Claims, tests, each}
use Rattle.rules.specs.Records.{blank_unit}
use Rattle.rules.specs.declared.UnitRecord.{UnitRecord}
use Rattle.rules.specs.Sheets.Sheet.{Sheet, parent_at, unit_at}
use Rattle.rules.specs.Sheets.Sound.{units_weight}
use Rattle.rules.proofs.FactLaws.{each_at, each_of, each_claims, each_tested}
use Rattle.board.specs.Passes.{entry_row, units_row}
use Rattle.board.proofs.TestLaws.{and_true}
use Rattle.board.proofs.SlotLaws.{sum_next, sum_end}

-- what is asked of unit i, where so many slots are pending for each
abbrev pub entry_row_on : Sheet → List ℕ → ℕ → UnitRecord → List Fact
entry_row_on b counts i u = entry_row b.n b.delay i u (parent_at b i) (get_or counts i 0)

-- the same where `left` is left of the debt, as it is tested
abbrev pub unit_facts : Sheet → ℕ → List ℕ → ℕ → List Fact
unit_facts b left counts i = at_most (unit_at b i).weight left ∷ entry_row_on b counts i (unit_at b i)

-- ---- once i units are passed, where `first` was left of the debt before
pub record UnitsSeen (b : Sheet) (first : ℕ) (counts : List ℕ) (left i : ℕ) : Type 0 where
  pub units_long : length b.units ≡ 64
  pub within : i ≤ 64
  pub seen : (k : ℕ) → k < i → Claims (entry_row_on b counts k (unit_at b k))
  pub leaves : left + units_weight b.units ≡ first + units_weight (drop i b.units)

pub none_seen : (b : Sheet) (first : ℕ) (counts : List ℕ) → length b.units ≡ 64 → UnitsSeen b first counts first 0
none_seen b first counts units_long = record { units_long = units_long; within = omega arith; seen = below_none (λ k. Claims (entry_row_on b counts k (unit_at b k))); leaves = omega arith }

-- nothing is left where what there was is the weight
none_left : (left weight first : ℕ) → left + weight ≡ first → eqb left 0 ≡ eqb weight first
none_left left weight first e = grind (arith, nat_tests)

module _ {b : Sheet} {first : ℕ} {counts : List ℕ} {left i : ℕ} (h : UnitsSeen b first counts left i) where
  weight_next : i < 64 → units_weight (drop i b.units) ≡ (unit_at b i).weight + units_weight (drop (i + 1) b.units)
  unfolding units_weight
  weight_next l = sum_next (λ u. u.weight) b.units i blank_unit (omega (arith, h.units_long))

  pub one_more : i < 64 → Claims (unit_facts b left counts i) → UnitsSeen b first counts (left - (unit_at b i).weight) (i + 1)
  one_more l fits = record {
    units_long = h.units_long;
    within = omega arith;
    seen = below_more (λ k. Claims (entry_row_on b counts k (unit_at b k))) i h.seen fits.1;
    leaves = omega (arith, weight_next l, h.leaves, fits.0);
  }

  -- where all units fit, so does the next
  pub next_fits : i < 64 → Claims (units_row b first counts) → Claims (unit_facts b left counts i)
  next_fits l c =
      (omega (arith, weight_next l, h.leaves, c.1.0), each_at (entry_row_on b counts) b.units i blank_unit (omega (arith, h.units_long)) (each_claims (entry_row_on b counts) b.units c.0))

  -- once all are passed, what is left decides
  pub all_seen : 64 ≤ i → eqb left 0 ≡ tests (units_row b first counts)
  unfolding units_weight
  all_seen l =
      let fit : each (entry_row_on b counts) b.units ≡ true = each_tested (entry_row_on b counts) b.units (each_of (entry_row_on b counts) b.units blank_unit (λ k p. h.seen k (omega (arith, h.units_long)))) in
      let paid : eqb left 0 ≡ eqb (units_weight b.units) first =
      none_left left (units_weight b.units) first (omega (arith, h.leaves, sum_end (λ u. u.weight) b.units i (omega (arith, h.units_long)))) in
      rw (fit, paid) (and_true (eqb (units_weight b.units) first))
