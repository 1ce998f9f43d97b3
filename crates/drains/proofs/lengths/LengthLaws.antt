-- A sum that is made part by part; the depths of a sound board's units and the places of its receivers.
use mathlib.Core.Path.{◌≡◌, refl, sym, ap, subst, ◌∙◌}
use mathlib.Core.List.{List}
use Prim.Native.Nat.{ℕ, ◌+◌, ◌*◌, ◌≤◌, ◌<◌, zero-le}
use native.Mathlib.Nat.{add-mul, le_antisymm}
use native.Mathlib.Numerals.{add-one}
use native.Mathlib.Decide.{ℕ_discrete}
use native.Mathlib.Omega.{arith}
use lib.ListN.{length, get_or, set, take, length-set}
use lib.Seq.{take_all, get_or-set_same, get_or-set_other}
use Rattle.std.proofs.lemmas.List.{get_or_default}
use Rattle.rules.specs.Facts.{sum_of}
use Rattle.rules.specs.Records.{blank_unit, blank_slot}
use Rattle.rules.specs.declared.Slot.{Slot}
use Rattle.rules.specs.Sheets.Sheet.{Sheet, parent_at, unit_at, slot_at}
use Rattle.rules.specs.Sheets.Sound.{Sound, parent_row}
use Rattle.rules.specs.Sheets.Depths.{depth, depth_within}
use Rattle.rules.specs.Sheets.Longest.{unit_length, slot_length, units_length, slots_length, longest_length}
use Rattle.rules.proofs.FactLaws.{each_at}
use Rattle.rules.proofs.SumLaws.{sum_bound, sum_taken}
use Rattle.rules.proofs.Sheets.SoundLaws.{below_or_not, row_past, parent_below, slot_past_row}
use Rattle.rules.proofs.Sheets.EntryLaws.{receiver_in_use}
use Rattle.rules.proofs.Sheets.DepthLaws.{depth_parent}

-- parts alike, the same sum
sum_alike : {A : Type 0} (f g : ℕ → A → ℕ) (xs : List A) (d : A) → ((i : ℕ) → i < length xs → f i (get_or xs i d) ≡ g i (get_or xs i d)) → sum_of f xs ≡ sum_of g xs
sum_alike {A} f g xs d h = le_antisymm (at_most f g (λ i l. h i l)) (at_most g f (λ i l. sym (h i l)))
  where
    at_most : (p q : ℕ → A → ℕ) → ((i : ℕ) → i < length xs → p i (get_or xs i d) ≡ q i (get_or xs i d)) → sum_of p xs ≤ sum_of q xs
    at_most p q e = omega (arith, sum_bound p q 1 xs d (λ i l. omega (arith, e i l)))

-- the sum of the first i parts, none above `most`
pub record SoFar {A : Type 0} (f : ℕ → A → ℕ) (xs : List A) (most i sum : ℕ) : Type 0 where
  pub within : i ≤ length xs
  pub is : sum ≡ sum_of f (take i xs)
  pub few : sum ≤ i * most

module _ {A : Type 0} (f : ℕ → A → ℕ) (xs : List A) (most : ℕ) where
  pub none_yet : SoFar f xs most 0 0
  unfolding sum_of
  none_yet = record { within = zero-le; is = refl; few = zero-le }

  pub one_more : (i sum k : ℕ) (d : A) → SoFar f xs most i sum → i < length xs → k ≡ f i (get_or xs i d) → k ≤ most → SoFar f xs most (i + 1) (sum + k)
  one_more i sum k d s l e m = record {
    within = omega (arith, l);
    is = subst (λ (j : ℕ). sum + k ≡ sum_of f (take j xs)) (sym (add-one i)) (omega (arith, s.is, e, sum_taken f xs i d l));
    few = omega (arith, s.few, m, add-mul i 1 most);
  }

  pub all_passed : (i sum : ℕ) → SoFar f xs most i sum → length xs ≤ i → sum ≡ sum_of f xs
  all_passed i sum s l = s.is ∙ ap (λ (ys : List A). sum_of f ys) (take_all i xs l)

-- ---- a table of depths, made in ascending number: the depths of the units below i
pub record DepthsTo (ps : List ℕ) (i : ℕ) (ds : List ℕ) : Type 0 where
  pub begun : 1 ≤ i
  pub within : i ≤ 64
  pub long : length ds ≡ 64
  pub are : (j : ℕ) → j < i → get_or ds j 0 ≡ depth ps j

pub first_depth : (ps ds : List ℕ) → length ds ≡ 64 → get_or ds 0 0 ≡ 0 → DepthsTo ps 1 ds
unfolding depth depth_within
first_depth ps ds l e = record { begun = omega arith; within = omega arith; long = l; are = λ j m. at_first j (omega (arith, m)) }
  where
    at_first : (j : ℕ) → j ≡ 0 → get_or ds j 0 ≡ depth ps j
    at_first j z = ap (λ (k : ℕ). get_or ds k 0) z ∙ e ∙ sym (ap (depth ps) z)

pub next_depth : (ps ds : List ℕ) (i : ℕ) → ((j : ℕ) → 1 ≤ j → j < 64 → get_or ps j 0 < j) → DepthsTo ps i ds → i < 64 → DepthsTo ps (i + 1) (set ds i (get_or ds (get_or ps i 0) 0 + 1))
next_depth ps ds i lower t l = record {
  begun = omega arith;
  within = omega (arith, l);
  long = length-set ds i _ ∙ t.long;
  are = λ j m. by_place j m (ℕ_discrete j i);
}
  where
    parent : get_or ps i 0 < i
    parent = lower i t.begun l

    one : get_or ds (get_or ps i 0) 0 + 1 ≡ depth ps i
    one = ap (λ (k : ℕ). k + 1) (t.are (get_or ps i 0) parent) ∙ add-one _ ∙ sym (depth_parent ps i t.begun (λ k a b. lower k a (omega (arith, b, l))))

    by_place : (j : ℕ) → j < i + 1 → Dec (j ≡ i) → get_or (set ds i (get_or ds (get_or ps i 0) 0 + 1)) j 0 ≡ depth ps j
    by_place j m (yes e) = ap (λ (k : ℕ). get_or (set ds i (get_or ds (get_or ps i 0) 0 + 1)) k 0) e ∙ get_or-set_same ds i _ 0 (omega (arith, l, t.long)) ∙ one ∙ ap (depth ps) (sym e)
    by_place j m (no n) = get_or-set_other ds i j _ 0 n ∙ t.are j (omega (arith, m, n))

-- ---- on a sound board
module _ (b : Sheet) (h : Sound b) where
  pub all_lower : (i : ℕ) → 1 ≤ i → i < 64 → parent_at b i < i
  all_lower i p l = below_or_not i b.n (λ q. parent_below b h i p q) (λ q. omega (arith, p, row_past i b.n _ _ q (each_at (parent_row b.n) b.parents i 0 (omega (arith, l, h.s1_sizes)) h.s1_parents)))

  pub receiver_near : (j : ℕ) → (slot_at b j).to < 64
  receiver_near j = below_or_not j b.m (λ q. omega (arith, receiver_in_use b h j q, h.s1_sizes)) (λ q. omega (arith, slot_past_row b h j q))

  pub receivers_near : (j : ℕ) (y : Slot) → j < length b.slots → (j < 256) × ((get_or b.slots j y).to < 64)
  receivers_near j y l = (omega (arith, l, h.s1_sizes), subst (λ (z : Slot). z.to < 64) (get_or_default b.slots j blank_slot y l) (receiver_near j))

  -- the sums by a table of depths are the length
  pub length_by_table : (ds : List ℕ) → ((i : ℕ) → i < 64 → get_or ds i 0 ≡ depth b.parents i)
      → sum_of (λ i x. unit_length b.delay (get_or ds i 0) x x.state) b.units + sum_of (λ j y. slot_length b.delay (get_or ds y.to 0) y.kind) b.slots ≡ longest_length b
  unfolding units_length slots_length
  length_by_table ds t = (λ i. units i + slots i)
    where
      units : sum_of (λ i x. unit_length b.delay (get_or ds i 0) x x.state) b.units ≡ sum_of (λ i x. unit_length b.delay (depth b.parents i) x x.state) b.units
      units = sum_alike _ _ b.units blank_unit (λ i l. ap (λ (k : ℕ). unit_length b.delay k (unit_at b i) (unit_at b i).state) (t i (omega (arith, l, h.s1_sizes))))

      slots : sum_of (λ j y. slot_length b.delay (get_or ds y.to 0) y.kind) b.slots ≡ sum_of (λ j y. slot_length b.delay (depth b.parents y.to) y.kind) b.slots
      slots = sum_alike _ _ b.slots blank_slot (λ j l. ap (λ (k : ℕ). slot_length b.delay k (slot_at b j).kind) (t (slot_at b j).to (receiver_near j)))
