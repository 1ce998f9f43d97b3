-- One law for every step: a change of one unit with its parent and its counts, one slot and the debt that fits keeps a sound sheet sound.
use mathlib.Core.Path.{◌≡◌, refl, sym, subst, ◌∙◌}
use mathlib.Core.List.{List}
use Prim.Native.Nat.{ℕ, ◌+◌, ◌≤◌, ◌<◌}
use native.Mathlib.Omega.{arith}
use native.Mathlib.Decide.{ℕ_discrete}
use lib.ListN.{length, get_or, set, length-set}
use lib.Seq.{get_or-set_same, get_or-set_other, set-get_or}
use Rattle.refusals.specs.declared.Refusal.{Refusal}
use Rattle.std.specs.Prelude.{Result, Ok, Err}
use Rattle.rules.specs.Facts.{Claims, one_if, Check, judge}
use Rattle.rules.specs.Records.{is_work, blank_unit, blank_slot, ceiling, full, Action, Effect, OnUnit, OnSlot, OnBoth, OnParent, UnitRecord, Slot, Counts}
use Rattle.rules.specs.Sheets.Sheet.{Sheet, parent_at, unit_at, slot_at, counts_at, Outcome}
use Rattle.rules.specs.Sheets.Sound.{parent_row, lower_parent, state_row, pending_row, pending_in, pending, units_weight, slots_weight, created_row, processed_row, total, work_under_way, Sound, slot_row_on, kind_row_on, unit_row_on}
use Rattle.rules.specs.Effects.{counted}
use Rattle.rules.specs.Sheets.Steps.{changed, applied}
use Rattle.rules.proofs.FactLaws.{each_of, each_set}
use Rattle.rules.proofs.JudgeLaws.{judge_map}
use Rattle.rules.proofs.SumLaws.{sum_set}
use Rattle.rules.proofs.Sheets.SoundLaws.{row_of, parent_row_lem, unit_row_lem, slot_row_lem, pending_row_lem}

-- what a change must meet: unit u becomes x, slot s becomes y, and the debt as given
pub record Fits (b : Sheet) (u s : ℕ) (x : UnitRecord) (y : Slot) (debt : ℕ) : Type 0 where
  pub unit_used : u < b.n
  pub slot_used : s < b.m
  pub unit_fits_lem : Claims (state_row b.delay u x x.state)
  pub slot_fits_lem : Claims (kind_row_on b y y.kind)
  pub pending_here : pending_in u y y.kind + one_if (unit_at b u).suspended ≡ pending_in u (slot_at b s) (slot_at b s).kind + one_if x.suspended
  pub pending_else : (i : ℕ) → (i ≡ u → ⊥) → pending_in i y y.kind ≡ pending_in i (slot_at b s) (slot_at b s).kind
  pub weight_kept : x.weight + y.weight + b.debt ≡ (unit_at b u).weight + (slot_at b s).weight + debt
  pub debt_fits : debt ≤ ceiling

-- 1 where work is under way in a slot
abbrev work_in : Slot → ℕ
work_in y = one_if (is_work y.kind)

-- and of the counts k of unit u, where slot s becomes y: created work is processed or under way
pub record CountsFit (b : Sheet) (u s : ℕ) (y : Slot) (k : Counts) : Type 0 where
  pub most : k.created ≤ full
  pub balanced : k.created + ((counts_at b u).processed + work_in (slot_at b s)) ≡ (counts_at b u).created + (k.processed + work_in y)

module _ (b : Sheet) (h : Sound b) (u s : ℕ) (x : UnitRecord) (p : ℕ) (y : Slot) (debt : ℕ) (k : Counts) (f : Fits b u s x y debt) (low : Claims (lower_parent u p)) (g : CountsFit b u s y k) where
  abbrev new : Sheet
  new = changed b (set b.parents u p) (set b.units u x) (set b.slots s y) debt (set b.created u k.created) (set b.processed u k.processed)

  pending_sum : (i : ℕ) → pending (set b.slots s y) i + pending_in i (slot_at b s) (slot_at b s).kind ≡ pending b.slots i + pending_in i y y.kind
  unfolding pending
  pending_sum i = sum_set (λ j z. pending_in i z z.kind) b.slots s y blank_slot (omega arith)

  new_pending : (i : ℕ) → i < length (set b.units u x) → pending (set b.slots s y) i ≡ one_if (get_or (set b.units u x) i blank_unit).suspended
  new_pending i l = by_place (ℕ_discrete i u)
    where
      short : i < 64
      short = omega (arith, length-set b.units u x, l, h.s1_sizes)

      by_place : Dec (i ≡ u) → pending (set b.slots s y) i ≡ one_if (get_or (set b.units u x) i blank_unit).suspended
      by_place (yes e) =
          subst (λ (k : ℕ). pending (set b.slots s y) k ≡ one_if (get_or (set b.units u x) k blank_unit).suspended) (sym e)
          (rw (get_or-set_same b.units u x blank_unit (omega (arith, f.unit_used, h.s1_sizes))) (omega (arith, pending_sum u, f.pending_here, pending_row_lem b h u (omega (arith, f.unit_used, h.s1_sizes)))))
      by_place (no e) = rw (get_or-set_other b.units u i x blank_unit e) (omega (arith, pending_sum i, f.pending_else i e, pending_row_lem b h i short))

  pub change_sound : Sound new
  unfolding units_weight slots_weight total work_under_way
  change_sound = record {
    s1_sizes = omega (arith, length-set b.parents u p, length-set b.units u x, length-set b.slots s y, length-set b.created u k.created, length-set b.processed u k.processed);
    s1_parents = each_set (parent_row b.n) b.parents u p (row_of u b.n _ _ (λ l. low) (λ l. absurd (omega (arith, f.unit_used, l)))) h.s1_parents;
    s2_units = each_set (unit_row_on b) b.units u x (row_of u b.n _ _ (λ l. f.unit_fits_lem) (λ l. absurd (omega arith))) h.s2_units;
    s3_slots = each_set (slot_row_on b) b.slots s y (row_of s b.m _ _ (λ l. f.slot_fits_lem) (λ l. absurd (omega arith))) h.s3_slots;
    s4_pending = each_of (pending_row new) (set b.units u x) blank_unit (λ i l. (new_pending i l, tt));
    s5_s6_debt = omega (arith, sum_set (λ i z. z.weight) b.units u x blank_unit (omega arith), sum_set (λ j z. z.weight) b.slots s y blank_slot (omega arith), f.weight_kept, f.debt_fits);
    counts_created = each_set (created_row b.n) b.created u k.created (row_of u b.n _ _ (λ l. (g.most, tt)) (λ l. absurd (omega arith))) h.counts_created;
    counts_processed = each_set (processed_row b.n) b.processed u k.processed (row_of u b.n _ _ (λ l. tt) (λ l. absurd (omega arith))) h.counts_processed;
    counts_balance =
        let created = sum_set (λ i c. c) b.created u k.created 0 (omega arith) in
        let processed = sum_set (λ i c. c) b.processed u k.processed 0 (omega arith) in
        (omega (arith, created, processed, sum_set (λ j z. work_in z) b.slots s y blank_slot (omega arith), g.balanced, h.counts_balance), tt);
  }

-- ---- a change of a unit alone, of a slot alone: the other stays as it was
pub unit_change : (b : Sheet) → Sound b → (u s : ℕ) (x : UnitRecord) (debt : ℕ) → u < b.n → s < b.m → Claims (state_row b.delay u x x.state) → x.suspended ≡ (unit_at b u).suspended
    → x.weight + b.debt ≡ (unit_at b u).weight + debt → debt ≤ ceiling → Fits b u s x (slot_at b s) debt
unit_change b h u s x debt l k c e w q = record {
  unit_used = l;
  slot_used = k;
  unit_fits_lem = c;
  slot_fits_lem = slot_row_lem b h s k;
  pending_here = rw e;
  pending_else = λ i n. refl;
  weight_kept = omega arith;
  debt_fits = q;
}

pub slot_change : (b : Sheet) → Sound b → (u s : ℕ) (y : Slot) (debt : ℕ) → u < b.n → s < b.m → Claims (kind_row_on b y y.kind) → ((i : ℕ) → pending_in i y y.kind ≡ pending_in i (slot_at b s) (slot_at b s).kind)
    → y.weight + b.debt ≡ (slot_at b s).weight + debt → debt ≤ ceiling → Fits b u s (unit_at b u) y debt
slot_change b h u s y debt k l c e w q = record {
  unit_used = k;
  slot_used = l;
  unit_fits_lem = unit_row_lem b h u k;
  slot_fits_lem = c;
  pending_here = rw (e u);
  pending_else = λ i n. e i;
  weight_kept = omega arith;
  debt_fits = q;
}

-- ---- an effect: a refused one leaves the board as it was; one that fits keeps it sound
pub refused_applied : (b : Sheet) (a : Action) (u s : ℕ) (k : Refusal) → applied b a u s (Err k) ≡ record { answer = Err k; sheet = b }
unfolding applied
refused_applied b a u s k = rw (set-get_or b.parents u 0, set-get_or b.units u blank_unit, set-get_or b.slots s blank_slot, set-get_or b.created u 0, set-get_or b.processed u 0)

-- so a judged effect, applied anywhere, is the applied effect judged: its refusals leave the board
pub judged_applied : (b : Sheet) (a : Action) (u s : ℕ) (cs : List Check) (e : Result Effect Refusal) → applied b a u s (judge Err cs e) ≡ judge (λ k. record { answer = Err k; sheet = b }) cs (applied b a u s e)
judged_applied b a u s cs e = judge_map (applied b a u s) Err cs e ∙ (λ i. judge (λ k. refused_applied b a u s k i) cs (applied b a u s e))

abbrev pub FitsEffect : Sheet → ℕ → ℕ → Result Effect Refusal → Type 0
FitsEffect b u s (Err k) = Unit {0}
FitsEffect b u s (Ok (OnUnit x debt)) = Fits b u s x (slot_at b s) debt
FitsEffect b u s (Ok (OnSlot y debt)) = Fits b u s (unit_at b u) y debt
FitsEffect b u s (Ok (OnBoth x y debt)) = Fits b u s x y debt
FitsEffect b u s (Ok (OnParent p)) = (u < b.n) × (s < b.m) × Claims (lower_parent u p)

-- the counts that an accepted step of the action leaves
abbrev pub CountsFitEffect : Sheet → Action → ℕ → ℕ → Result Effect Refusal → Type 0
CountsFitEffect b a u s (Err k) = Unit {0}
CountsFitEffect b a u s (Ok (OnUnit x debt)) = CountsFit b u s (slot_at b s) (counted (counts_at b u) (slot_at b s) a)
CountsFitEffect b a u s (Ok (OnSlot y debt)) = CountsFit b u s y (counted (counts_at b u) (slot_at b s) a)
CountsFitEffect b a u s (Ok (OnBoth x y debt)) = CountsFit b u s y (counted (counts_at b u) (slot_at b s) a)
CountsFitEffect b a u s (Ok (OnParent p)) = CountsFit b u s (slot_at b s) (counted (counts_at b u) (slot_at b s) a)

pub effect_sound : (b : Sheet) → Sound b → (a : Action) (u s : ℕ) (e : Result Effect Refusal) → FitsEffect b u s e → CountsFitEffect b a u s e → Sound (applied b a u s e).sheet
unfolding applied
effect_sound b h a u s (Err k) f g = subst (λ (o : Outcome). Sound o.sheet) (sym (refused_applied b a u s k)) h
effect_sound b h a u s (Ok (OnUnit x debt)) f g = change_sound b h u s x (parent_at b u) (slot_at b s) debt _ f (parent_row_lem b h u f.unit_used) g
effect_sound b h a u s (Ok (OnSlot y debt)) f g = change_sound b h u s (unit_at b u) (parent_at b u) y debt _ f (parent_row_lem b h u f.unit_used) g
effect_sound b h a u s (Ok (OnBoth x y debt)) f g = change_sound b h u s x (parent_at b u) y debt _ f (parent_row_lem b h u f.unit_used) g
effect_sound b h a u s (Ok (OnParent p)) f g =
    change_sound b h u s (unit_at b u) p (slot_at b s) b.debt _
    (unit_change b h u s (unit_at b u) b.debt f.0 f.1 (unit_row_lem b h u f.0) refl refl h.s5_s6_debt.1.0) f.2 g
