-- Soundness: its test and its claims agree, and what a sound sheet says of each entry.
use mathlib.Core.Path.{◌≡◌, refl, sym, subst}
use mathlib.Core.Bool.{Bool, true, cond}
use mathlib.Core.List.{List, [], ◌∷◌}
use Prim.Native.Nat.{ℕ, zero, suc, ◌+◌, ◌≤◌, ◌<◌}
use native.Mathlib.Omega.{arith}
use lib.ListN.{get_or, get_or-eq_default}
use lib.Dec.{ltb, eqb}
use borrow.Author.Tests.{lt-ltb, le-ltb, ltb-true, ltb-false, eqb-true, eqb-false}
use Rattle.rules.specs.Facts.{Fact, at_most, equal, holds, Claims, one_if}
use Rattle.rules.specs.Records.{is_idle, is_empty, blank_unit, blank_slot, full, Idle, Empty, UnitRecord, Slot}
use Rattle.rules.specs.Sheets.Sheet.{parent_at, unit_at, slot_at, Sheet}
use Rattle.rules.specs.Sheets.Sound.{sizes, parent_row, lower_parent, state_row, pending_row, pending, debt_row, created_row, processed_row, balance_row, units_weight, slots_weight, Sound, sound_row, sound, slot_row_on, kind_row_on, unit_row_on}
use Rattle.rules.specs.Sheets.Lists.{taken_at}
use Rattle.rules.proofs.FactLaws.{by_test, true_or_not, claims, claims_tested, each_claims, each_tested, each_at}
use Rattle.rules.proofs.SumLaws.{sum_part}

-- ---- the test says true exactly where the sheet is sound
pub sound_claims : (b : Sheet) → sound b ≡ true → Sound b
unfolding sound
sound_claims b e =
    let t = claims (sound_row b) e in
    record {
      s1_sizes = claims (sizes b) t.0;
      s1_parents = each_claims (parent_row b.n) b.parents t.1.0;
      s2_units = each_claims (unit_row_on b) b.units t.1.1.0;
      s3_slots = each_claims (slot_row_on b) b.slots t.1.1.1.0;
      s4_pending = each_claims (pending_row b) b.units t.1.1.1.1.0;
      s5_s6_debt = claims (debt_row b) t.1.1.1.1.1.0;
      counts_created = each_claims (created_row b.n) b.created t.1.1.1.1.1.1.0;
      counts_processed = each_claims (processed_row b.n) b.processed t.1.1.1.1.1.1.1.0;
      counts_balance = claims (balance_row b) t.1.1.1.1.1.1.1.1.0;
    }

pub sound_tested : (b : Sheet) → Sound b → sound b ≡ true
unfolding sound
sound_tested b h =
    let parents = each_tested (parent_row b.n) b.parents h.s1_parents in
    let units = each_tested (unit_row_on b) b.units h.s2_units in
    let slots = each_tested (slot_row_on b) b.slots h.s3_slots in
    let pendings = each_tested (pending_row b) b.units h.s4_pending in
    let created = each_tested (created_row b.n) b.created h.counts_created in
    let processed = each_tested (processed_row b.n) b.processed h.counts_processed in
    let balance = claims_tested (balance_row b) h.counts_balance in
    claims_tested (sound_row b) (claims_tested (sizes b) h.s1_sizes, (parents, (units, (slots, (pendings, (claims_tested (debt_row b) h.s5_s6_debt, (created, (processed, (balance, tt)))))))))

-- ---- a row that depends on whether the entry is in use
pub row_in_use : (i n : ℕ) (used blank : List Fact) → i < n → Claims (cond (ltb i n) used blank) → Claims used
row_in_use i n used blank l h = subst (λ (t : Bool). Claims (cond t used blank)) (lt-ltb i n l) h

pub row_past : (i n : ℕ) (used blank : List Fact) → n ≤ i → Claims (cond (ltb i n) used blank) → Claims blank
row_past i n used blank l h = subst (λ (t : Bool). Claims (cond t used blank)) (le-ltb i n l) h

pub row_of : (i n : ℕ) (used blank : List Fact) → (i < n → Claims used) → (n ≤ i → Claims blank) → Claims (cond (ltb i n) used blank)
row_of i n used blank f g = by_test (λ t. Claims (cond t used blank)) (ltb i n) (λ e. f (ltb-true i n e)) (λ e. g (ltb-false i n e))

-- a number is below the bound, or it is not
pub below_or_not : {X : Type 0} (i n : ℕ) → (i < n → X) → (n ≤ i → X) → X
below_or_not i n f g = true_or_not (ltb i n) (λ e. f (ltb-true i n e)) (λ e. g (ltb-false i n e))

-- unit 0 or another: of what is done, and of the weight w that unit 0 takes back
pub root_or_other : {A : Type 0} (P : A → ℕ → Type 0) (u w : ℕ) (x y : A) → (u ≡ 0 → P x w) → (1 ≤ u → P y 0) → P (cond (eqb u 0) x y) (taken_at u w)
root_or_other P u w x y f g = by_test (λ t. P (cond t x y) (cond t w 0)) (eqb u 0) (λ e. f (eqb-true u 0 e)) (λ e. g (omega (arith, eqb-false u 0 e)))

-- a lower parent is what a unit's row asks for; unit 0 has none
pub lower_fits : (u p : ℕ) → p < u → Claims (lower_parent u p)
lower_fits zero p l = absurd (native.Mathlib.Nat.not-suc-le-zero l)
lower_fits (suc u) p l = (l, tt)

-- ---- the entries of a sound sheet
module _ (b : Sheet) (h : Sound b) where
  pub parent_row_lem : (i : ℕ) → i < b.n → Claims (lower_parent i (parent_at b i))
  parent_row_lem i l = row_in_use i b.n (lower_parent i (parent_at b i)) _ l (each_at (parent_row b.n) b.parents i 0 (omega arith) h.s1_parents)

  -- every other unit's parent has a lower number; unit 0's is 0
  pub parent_below : (i : ℕ) → 1 ≤ i → i < b.n → parent_at b i < i
  parent_below zero p l = absurd (native.Mathlib.Nat.not-suc-le-zero p)
  parent_below (suc i) p l = (parent_row_lem (suc i) l).0

  pub unit_row_lem : (i : ℕ) → i < b.n → Claims (state_row b.delay i (unit_at b i) (unit_at b i).state)
  unit_row_lem i l = row_in_use i b.n (state_row b.delay i (unit_at b i) (unit_at b i).state) _ l (each_at (unit_row_on b) b.units i blank_unit (omega arith) h.s2_units)

  -- an entry from n on is blank: idle, its weight 0, and so on
  pub unit_past_row : (i : ℕ) → b.n ≤ i → Claims (holds (is_idle (unit_at b i).state) ∷ state_row b.delay i (unit_at b i) Idle)
  unit_past_row i l =
      below_or_not i 64 (λ p. row_past i b.n (state_row b.delay i (unit_at b i) (unit_at b i).state) _ l (each_at (unit_row_on b) b.units i blank_unit (omega arith) h.s2_units))
      (λ p. subst (λ (u : UnitRecord). Claims (holds (is_idle u.state) ∷ state_row b.delay i u Idle)) (sym (get_or-eq_default b.units blank_unit (omega arith))) (refl, (refl, (refl, (refl, tt)))))

  pub slot_row_lem : (j : ℕ) → j < b.m → Claims (kind_row_on b (slot_at b j) (slot_at b j).kind)
  slot_row_lem j l = row_in_use j b.m (kind_row_on b (slot_at b j) (slot_at b j).kind) _ l (each_at (slot_row_on b) b.slots j blank_slot (omega arith) h.s3_slots)

  -- an entry from M on is blank: empty, and all its numbers 0
  pub slot_past_row : (j : ℕ) → b.m ≤ j → Claims (holds (is_empty (slot_at b j).kind) ∷ kind_row_on b (slot_at b j) Empty)
  slot_past_row j l =
      below_or_not j 256 (λ p. row_past j b.m (kind_row_on b (slot_at b j) (slot_at b j).kind) _ l (each_at (slot_row_on b) b.slots j blank_slot (omega arith) h.s3_slots))
      (λ p. subst (λ (y : Slot). Claims (holds (is_empty y.kind) ∷ kind_row_on b y Empty)) (sym (get_or-eq_default b.slots blank_slot (omega arith))) (refl, (refl, (refl, (refl, tt)))))

  pub pending_row_lem : (i : ℕ) → i < 64 → pending b.slots i ≡ one_if (unit_at b i).suspended
  pending_row_lem i l = (each_at (pending_row b) b.units i blank_unit (omega arith) h.s4_pending).0

  -- the weights of a unit and of a slot are part of the debt
  pub weights_fit : (i j : ℕ) → (unit_at b i).weight + (slot_at b j).weight ≤ b.debt
  unfolding units_weight slots_weight
  weights_fit i j = omega (arith, sum_part (λ k u. u.weight) b.units i blank_unit (λ k. refl), sum_part (λ k y. y.weight) b.slots j blank_slot (λ k. refl), h.s5_s6_debt)

  -- ---- the counts: at most what they may be, 0 from n on
  created_row_lem : (i : ℕ) → i < 64 → Claims (created_row b.n i (get_or b.created i 0))
  created_row_lem i l = each_at (created_row b.n) b.created i 0 (omega arith) h.counts_created

  pub created_past : (i : ℕ) → b.n ≤ i → get_or b.created i 0 ≡ 0
  created_past i l = below_or_not i 64 (λ p. (row_past i b.n (at_most (get_or b.created i 0) full ∷ []) _ l (created_row_lem i p)).0) (λ p. get_or-eq_default b.created 0 (omega arith))

  pub created_most : (i : ℕ) → get_or b.created i 0 ≤ full
  created_most i = below_or_not i b.n (λ l. (row_in_use i b.n _ (equal (get_or b.created i 0) 0 ∷ []) l (created_row_lem i (omega arith))).0) (λ l. omega (arith, created_past i l))

  pub processed_past : (i : ℕ) → b.n ≤ i → get_or b.processed i 0 ≡ 0
  processed_past i l =
      below_or_not i 64 (λ p. (row_past i b.n [] _ l (each_at (processed_row b.n) b.processed i 0 (omega arith) h.counts_processed)).0)
      (λ p. get_or-eq_default b.processed 0 (omega arith))
