-- Spots: when two are the same, when two lists of them have nothing in common; what a sheet holds at a spot, and what a store leaves there.
use mathlib.Core.Path.{◌≡◌, refl, sym, ap, subst, ◌∙◌}
use mathlib.Core.Bool.{Bool, true, not, ◌||◌}
use mathlib.Core.List.{List, [], ◌∷◌}
use Prim.Native.Nat.{ℕ, zero, suc}
use native.Mathlib.Omega.{arith}
use lib.ListN.{length, get_or, set}
use lib.Seq.{get_or-set_other, set-get_or, ext_get_or}
use borrow.Author.Tests.{eqb-true, eq-eqb, not-true}
use Rattle.rules.specs.Records.{blank_unit, blank_slot, UnitRecord, Slot, Counts, Change}
use Rattle.rules.specs.Sheets.Sheet.{Sheet, parent_at, unit_at, slot_at, counts_at}
use Rattle.rules.specs.Sheets.Sound.{Sound}
use Rattle.rules.specs.Sheets.Steps.{stored}
use Rattle.rules.specs.Sheets.Touching.{Spot, the_unit, the_slot, same_spot, among, apart}
use Rattle.rules.proofs.FactLaws.{and_left, and_right, and_both, true_not_false, by_test}

spot_is : (p q : Spot) → same_spot p q ≡ true → p ≡ q
spot_is (the_unit i) (the_unit j) e = ap the_unit (eqb-true i j e)
spot_is (the_unit i) (the_slot j) e = absurd (true_not_false (sym e))
spot_is (the_slot i) (the_unit j) e = absurd (true_not_false (sym e))
spot_is (the_slot i) (the_slot j) e = ap the_slot (eqb-true i j e)

spot_itself : (p : Spot) → same_spot p p ≡ true
spot_itself (the_unit i) = eq-eqb i i refl
spot_itself (the_slot j) = eq-eqb j j refl

pub apart_tells : (ps qs : List Spot) → apart ps qs ≡ true → (p : Spot) → among p ps ≡ true → among p qs ≡ true → ⊥
apart_tells [] qs a p e f = true_not_false (sym e)
apart_tells (x ∷ ps) qs a p e f =
    by_test (λ t. t || among p ps ≡ true → ⊥) (same_spot p x)
    (λ s o. true_not_false (sym (subst (λ (y : Spot). among y qs ≡ true) (spot_is p x s) f) ∙ not-true (among x qs) (and_left (not (among x qs)) (apart ps qs) a)))
    (λ s o. apart_tells ps qs (and_right (not (among x qs)) (apart ps qs) a) p o f) e

pub apart_of : (ps qs : List Spot) → ((p : Spot) → among p ps ≡ true → among p qs ≡ true → ⊥) → apart ps qs ≡ true
apart_of [] qs n = refl
apart_of (x ∷ ps) qs n =
    and_both (not (among x qs)) (apart ps qs)
    (by_test (λ t. (t ≡ true → ⊥) → not t ≡ true) (among x qs) (λ e m. absurd (m refl)) (λ e m. refl) (n x (ap (λ (t : Bool). t || among x ps) (spot_itself x))))
    (apart_of ps qs (λ p e. n p (by_test (λ t. t || among p ps ≡ true) (same_spot p x) (λ s. refl) (λ s. e))))

-- ---- what a sheet holds at a spot, and what stands at none
pub record UnitEntry : Type 0 where
  pub unit : UnitRecord
  pub parent : ℕ
  pub counts : Counts

abbrev pub EntryOf : Spot → Type 0
EntryOf (the_unit i) = UnitEntry
EntryOf (the_slot j) = Slot

abbrev pub unit_entry : Sheet → ℕ → UnitEntry
unit_entry b i = record { unit = unit_at b i; parent = parent_at b i; counts = counts_at b i }

abbrev pub entry_at : Sheet → (p : Spot) → EntryOf p
entry_at b (the_unit i) = unit_entry b i
entry_at b (the_slot j) = slot_at b j

pub record Ground : Type 0 where
  pub n : ℕ
  pub m : ℕ
  pub delay : ℕ
  pub debt : ℕ

abbrev pub ground_of : Sheet → Ground
ground_of b = record { n = b.n; m = b.m; delay = b.delay; debt = b.debt }

-- ground and spots are all of a sound sheet
pub whole_sheet : (b c : Sheet) → Sound b → Sound c → ground_of b ≡ ground_of c → ((p : Spot) → entry_at b p ≡ entry_at c p) → b ≡ c
whole_sheet b c h k g same =
    let ps = ext_get_or 0 b.parents c.parents (omega (arith, h.s1_sizes, k.s1_sizes)) (λ i l. ap (λ (e : UnitEntry). e.parent) (same (the_unit i))) in
    let us = ext_get_or blank_unit b.units c.units (omega (arith, h.s1_sizes, k.s1_sizes)) (λ i l. ap (λ (e : UnitEntry). e.unit) (same (the_unit i))) in
    let ys = ext_get_or blank_slot b.slots c.slots (omega (arith, h.s1_sizes, k.s1_sizes)) (λ j l. same (the_slot j)) in
    let ms = ext_get_or 0 b.created c.created (omega (arith, h.s1_sizes, k.s1_sizes)) (λ i l. ap (λ (e : UnitEntry). e.counts.created) (same (the_unit i))) in
    let ds = ext_get_or 0 b.processed c.processed (omega (arith, h.s1_sizes, k.s1_sizes)) (λ i l. ap (λ (e : UnitEntry). e.counts.processed) (same (the_unit i))) in
    λ i. record {
      n = (g i).n;
      m = (g i).m;
      delay = (g i).delay;
      debt = (g i).debt;
      parents = ps i;
      units = us i;
      slots = ys i;
      created = ms i;
      processed = ds i;
    }

-- ---- stores: other places are left; at the place itself two lists of one length then hold the same
pub same_store : {A : Type 0} (xs ys : List A) (i : ℕ) (a d : A) → length xs ≡ length ys → get_or (set xs i a) i d ≡ get_or (set ys i a) i d
same_store [] [] i a d e = refl
same_store [] (y ∷ ys) i a d e = absurd (omega (arith, e))
same_store (x ∷ xs) [] i a d e = absurd (omega (arith, e))
same_store (x ∷ xs) (y ∷ ys) zero a d e = refl
same_store (x ∷ xs) (y ∷ ys) (suc i) a d e = same_store xs ys i a d (omega (arith, e))

module _ (b : Sheet) (u s : ℕ) (d : Change) where
  abbrev stored_in : Sheet
  stored_in = (stored b u s d).sheet

  pub unit_else : (i : ℕ) → (i ≡ u → ⊥) → unit_entry stored_in i ≡ unit_entry b i
  unit_else i n = λ k. record {
    unit = get_or-set_other b.units u i d.unit blank_unit n k;
    parent = get_or-set_other b.parents u i d.parent 0 n k;
    counts = record { created = get_or-set_other b.created u i d.counts.created 0 n k; processed = get_or-set_other b.processed u i d.counts.processed 0 n k };
  }

  pub slot_kept : (j : ℕ) → d.slot ≡ slot_at b s → slot_at stored_in j ≡ slot_at b j
  slot_kept j e = ap (λ (y : Slot). get_or (set b.slots s y) j blank_slot) e ∙ ap (λ (ys : List Slot). get_or ys j blank_slot) (set-get_or b.slots s blank_slot)
