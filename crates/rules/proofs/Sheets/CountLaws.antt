-- What an accepted step that is no start does to the counts: they only grow; a unit becomes active only where its processed count
-- rises; only an active unit's created count rises.
use mathlib.Core.Path.{◌≡◌, refl, sym, ap, subst, ◌∙◌}
use mathlib.Core.Bool.{true, false}
use mathlib.Core.List.{List}
use Prim.Native.Nat.{ℕ, ◌+◌, ◌≤◌, ◌<◌}
use native.Mathlib.Nat.{le_refl}
use native.Mathlib.Omega.{arith}
use lib.ListN.{get_or, set}
use lib.Seq.{get_or-set_same}
use borrow.Author.Tests.{eq-eqb}
use Rattle.refusals.specs.declared.Refusal.{Refusal}
use Rattle.std.specs.Prelude.{Result, Ok, Err}
use Rattle.refusals.specs.Numbers.{number_of}
use Rattle.rules.specs.Facts.{one_if}
use Rattle.rules.specs.Records.{is_active, blank_unit, blank_slot, State, Idle, Active, Waiting, Kind, Empty, Work, Return, Request, Supply, Action, Unknown, Start, Send, RequestStep, Deliver, Rest, Tick, Release, Move, Effect, OnUnit, OnSlot, OnBoth, OnParent, UnitRecord, Slot, Counts, StepRecord}
use Rattle.rules.specs.Actions.{action_of}
use Rattle.rules.specs.Letters.{slot_of}
use Rattle.rules.specs.Effects.{created_by, processed_by, change_of, returned, deliver_effect}
use Rattle.rules.specs.Sheets.Sheet.{Sheet, unit_at, slot_at, counts_at, Outcome}
use Rattle.rules.specs.Sheets.Sound.{Sound}
use Rattle.rules.specs.Sheets.Steps.{unit_of, done_on, changed, applied, step}
use Rattle.rules.specs.Sheets.Lists.{start_by, start_count}
use Rattle.rules.proofs.FactLaws.{true_not_false, set_each}
use Rattle.rules.proofs.Sheets.SoundLaws.{root_or_other}
use Rattle.rules.proofs.Sheets.EntryLaws.{slot_row_as, pending_as, suspended_active, pending_suspended}
use Rattle.rules.proofs.Sheets.Changes.{refused_applied, FitsEffect}
use Rattle.rules.proofs.Sheets.Accepted.{AcceptedAs, shown, accepted_as}
use Rattle.rules.proofs.Sheets.StepFits.{step_fits}

-- ---- the sheet d that an accepted step which is no start left of b
pub record Advances (b d : Sheet) : Type 0 where
  pub same_units : d.n ≡ b.n
  pub created_grows : (i : ℕ) → get_or b.created i 0 ≤ get_or d.created i 0
  pub processed_grows : (i : ℕ) → get_or b.processed i 0 ≤ get_or d.processed i 0
  pub woken : (i : ℕ) → is_active (unit_at b i).state ≡ false → is_active (unit_at d i).state ≡ true → get_or b.processed i 0 < get_or d.processed i 0
  pub by_active : (i : ℕ) → is_active (unit_at b i).state ≡ false → get_or d.created i 0 ≡ get_or b.created i 0

-- ---- who becomes active, and who creates
-- where the unit x was not active and as z it is, so much work is processed; where it was not active, nothing is created
abbrev Wakes : UnitRecord → UnitRecord → ℕ → Type 0
Wakes x z processed = is_active x.state ≡ false → is_active z.state ≡ true → processed ≡ 1

abbrev Makes : UnitRecord → ℕ → Type 0
Makes x created = is_active x.state ≡ false → created ≡ 0

-- the unit that an effect leaves in place of x
abbrev unit_left : Result Effect Refusal → UnitRecord → UnitRecord
unit_left e x = let none : Counts = record { created = 0; processed = 0 } in (change_of e x 0 blank_slot 0 none none).unit

module _ (b : Sheet) (h : Sound b) (a : Action) (u s : ℕ) where
  -- one unit and its counts replaced, whatever becomes of the parents, the slots and the debt
  change_advances : (x : UnitRecord) {ps : List ℕ} {ys : List Slot} {debt : ℕ} → u < b.n → Wakes (unit_at b u) x (processed_by (slot_at b s) a) → Makes (unit_at b u) (created_by a)
      → Advances b (changed b ps (set b.units u x) ys debt (set b.created u ((counts_at b u).created + created_by a)) (set b.processed u ((counts_at b u).processed + processed_by (slot_at b s) a)))
  change_advances x l wakes makes = record {
    same_units = refl;
    created_grows = set_each (λ i k. get_or b.created i 0 ≤ k) b.created u _ 0 (omega arith) (λ i. le_refl _);
    processed_grows = set_each (λ i k. get_or b.processed i 0 ≤ k) b.processed u _ 0 (omega arith) (λ i. le_refl _);
    woken = set_each (λ i z. is_active (unit_at b i).state ≡ false → is_active z.state ≡ true → get_or b.processed i 0 < get_or (set b.processed u more) i 0) b.units u x blank_unit
        (λ p q. omega (arith, get_or-set_same b.processed u more 0 (omega (arith, l, h.s1_sizes)), wakes p q)) (λ i p q. absurd (true_not_false (sym q ∙ p)));
    by_active = set_each (λ i k. is_active (unit_at b i).state ≡ false → k ≡ get_or b.created i 0) b.created u _ 0 (λ p. omega (arith, makes p)) (λ i p. refl);
  }
    where
      more : ℕ
      more = (counts_at b u).processed + processed_by (slot_at b s) a

  -- a refusal changes nothing; every other effect replaces the unit's counts
  effect_advances : (e : Result Effect Refusal) → FitsEffect b u s e → Wakes (unit_at b u) (unit_left e (unit_at b u)) (processed_by (slot_at b s) a) → Makes (unit_at b u) (created_by a) → Advances b (applied b a u s e).sheet
  unfolding applied
  effect_advances (Err k) f wakes makes =
      subst (λ (o : Outcome). Advances b o.sheet) (sym (refused_applied b a u s k))
      (record { same_units = refl; created_grows = λ i. le_refl _; processed_grows = λ i. le_refl _; woken = λ i p q. absurd (true_not_false (sym q ∙ p)); by_active = λ i p. refl })
  effect_advances (Ok (OnUnit x debt)) f wakes makes = change_advances x f.unit_used wakes makes
  effect_advances (Ok (OnSlot y debt)) f wakes makes = change_advances (unit_at b u) f.unit_used wakes makes
  effect_advances (Ok (OnBoth x y debt)) f wakes makes = change_advances x f.unit_used wakes makes
  effect_advances (Ok (OnParent p)) f wakes makes = change_advances (unit_at b u) f.0 wakes makes

module _ (b : Sheet) (r : StepRecord) (h : Sound b) where
  returned_sleeps : (d w : ℕ) (x : UnitRecord) (k : State) → x.state ≡ k → is_active (returned d x w k).state ≡ true → is_active x.state ≡ true
  returned_sleeps d w x Idle e q = absurd (true_not_false (sym q))
  returned_sleeps d w x Active e q = q
  returned_sleeps d w x Waiting e q = absurd (true_not_false (sym q))

  never : {A : Type 0} (x : UnitRecord) → is_active x.state ≡ true → is_active x.state ≡ false → A
  never x p q = absurd (true_not_false (sym p ∙ q))

  -- a unit that was active says nothing of either
  was_active : {A B : Type 0} (x : UnitRecord) → is_active x.state ≡ true → (is_active x.state ≡ false → A) × (is_active x.state ≡ false → B)
  was_active x e = (never x e, never x e)

  module _ (c : AcceptedAs b r Deliver) where
    abbrev y : Slot
    y = slot_at b r.slot

    abbrev x : UnitRecord
    x = unit_at b y.to

    -- the receiver of a supply is suspended, so active
    supplied_active : y.kind ≡ Supply → is_active x.state ≡ true
    supplied_active e =
        let used = (slot_row_as b h r.slot Supply (shown 14 c) e).1.0 in
        ap is_active (suspended_active b h y.to used (pending_suspended b h r.slot y.to used (pending_as y.to y Supply e ∙ ap one_if (eq-eqb y.to y.to refl))))

    deliver_wakes : (k : Kind) → y.kind ≡ k → Wakes x (unit_left (deliver_effect b.debt b.delay x y k) x) (processed_by y Deliver)
    deliver_wakes Empty e = λ p q. never x q p
    deliver_wakes Work e = λ p q. rw e
    deliver_wakes Return e =
        root_or_other (λ z w. Wakes x (unit_left (Ok z) x) (processed_by y Deliver)) y.to 0 _ _ (λ t p q. never x q p) (λ l p q. never x (returned_sleeps b.delay y.weight x x.state refl q) p)
    deliver_wakes Request e = λ p q. never x q p
    deliver_wakes Supply e = λ p q. never x (supplied_active e) p

  acts : (a : Action) → AcceptedAs b r a → start_by a ≡ 0
      → Wakes (unit_at b (unit_of b r a)) (unit_left (done_on b r a) (unit_at b (unit_of b r a))) (processed_by (slot_at b (slot_of r a)) a) × Makes (unit_at b (unit_of b r a)) (created_by a)
  acts Unknown c n = absurd (true_not_false (sym (shown 16 c)))
  acts Start c n = absurd (omega (arith, n))
  acts Send c n = was_active (unit_at b r.unit) (shown 31 c)
  acts RequestStep c n = was_active (unit_at b r.unit) (shown 31 c)
  acts Deliver c n = (deliver_wakes c (slot_at b r.slot).kind refl, λ p. refl)
  acts Rest c n = was_active (unit_at b r.unit) (shown 31 c)
  acts Tick c n = (λ p q. never (unit_at b r.unit) q p, λ p. refl)
  acts Release c n = (λ p q. absurd (true_not_false (sym q)), λ p. refl)
  acts Move c n = (λ p q. never (unit_at b r.unit) q p, λ p. refl)

pub step_advances : (b : Sheet) (r : StepRecord) → Sound b → number_of (step b r).answer ≡ 0 → start_count b r ≡ 0 → Advances b (step b r).sheet
step_advances b r h z n =
    let a : Action = action_of r.kind in
    let c = accepted_as b r h a refl z in
    let does = acts b r h a c n in
    subst (λ (o : Outcome). Advances b o.sheet) (sym c.gives) (effect_advances b h a (unit_of b r a) (slot_of r a) (done_on b r a) (step_fits b r h a c) does.0 does.1)
