-- An accepted step on a sheet reads and writes at the spots that it touches.
use mathlib.Core.Path.{◌≡◌, refl, sym, ap, subst, ◌∙◌}
use mathlib.Core.Bool.{true, false}
use mathlib.Core.List.{List}
use Prim.Native.Nat.{ℕ}
use native.Mathlib.Omega.{arith}
use lib.ListN.{get_or, set}
use lib.Seq.{get_or-set_other}
use borrow.Author.Tests.{eqb-true, eqb-false, eq-eqb}
use Rattle.refusals.specs.Numbers.{number_of}
use Rattle.rules.specs.Facts.{Claims, Check}
use Rattle.rules.specs.Records.{blank_unit, blank_slot, Action, Unknown, Start, Send, RequestStep, Deliver, Rest, Tick, Release, Move, Slot, Change, StepRecord}
use Rattle.rules.specs.Actions.{action_of, is_action}
use Rattle.rules.specs.Letters.{place_checks, slot_of, unit_by}
use Rattle.rules.specs.Sheets.Sheet.{Sheet, slot_at, Outcome}
use Rattle.rules.specs.Sheets.Sound.{Sound}
use Rattle.rules.specs.Sheets.Steps.{unit_of, checks_on, done_on, stored, applied, step}
use Rattle.rules.specs.Sheets.Touching.{Spot, the_unit, the_slot, touched, among}
use Rattle.rules.proofs.FactLaws.{true_not_false, asked}
use Rattle.rules.proofs.Sheets.Accepted.{AcceptedAs, shown, step_does, accepted_as}
use Rattle.rules.proofs.Sheets.SpotLaws.{unit_entry, entry_at, Ground, ground_of, same_store, unit_else, slot_kept}
use Rattle.rules.proofs.Sheets.ReachLaws.{checks_from, change_from, with_slot, Slotless, SlotReached, its_slot, no_slot, Reaches, reaches}

module _ (b : Sheet) (r : StepRecord) (h : Sound b) (z : number_of (step b r).answer ≡ 0) where
  abbrev a : Action
  a = action_of r.kind

  abbrev u : ℕ
  u = unit_of b r a

  abbrev s : ℕ
  s = slot_of r a

  -- what the step makes of what it reads on a sheet
  abbrev change : Sheet → Change
  change c = change_from r a (ground_of c) (unit_entry c (unit_of c r a)) (slot_at c s)

  told : AcceptedAs b r a
  told = accepted_as b r h a refl z

  abbrev result : Sheet
  result = (stored b u s (change b)).sheet

  -- all that it does is to store that at its unit and its slot
  stores_change : step b r ≡ stored b u s (change b)
  unfolding applied
  stores_change = told.gives

  -- one that leaves the debt leaves the ground, and is no start: a start brings weight where nothing was out
  pub ground_left : (step b r).sheet.debt ≡ b.debt → ground_of (step b r).sheet ≡ ground_of b
  ground_left e =
      ap (λ (o : Outcome). ground_of o.sheet) stores_change ∙ (λ i. record { n = b.n; m = b.m; delay = b.delay; debt = (sym (ap (λ (o : Outcome). o.sheet.debt) stores_change) ∙ e) i })

  pub no_start : (step b r).sheet.debt ≡ b.debt → is_action Start a ≡ false
  unfolding applied
  no_start e = by_action a told (sym (ap (λ (o : Outcome). o.sheet.debt) told.gives) ∙ e)
    where
      by_action : (x : Action) → AcceptedAs b r x → (applied b x (unit_of b r x) (slot_of r x) (done_on b r x)).sheet.debt ≡ b.debt → is_action Start x ≡ false
      by_action Unknown c q = refl
      by_action Start c q = absurd (omega (arith, shown 37 c, q))
      by_action Send c q = refl
      by_action RequestStep c q = refl
      by_action Deliver c q = refl
      by_action Rest c q = refl
      by_action Tick c q = refl
      by_action Release c q = refl
      by_action Move c q = refl

  reached : Reaches b r a
  reached = reaches b r a told

  -- spots that it does not touch are left
  pub step_writes : (p : Spot) → among p (touched b r) ≡ false → entry_at (step b r).sheet p ≡ entry_at b p
  step_writes p e = ap (λ (o : Outcome). entry_at o.sheet p) stores_change ∙ at_spot p e
    where
      at_slot : SlotReached (touched b r) s (Slotless r a) → (j : ℕ) → among (the_slot j) (touched b r) ≡ false → slot_at result j ≡ slot_at b j
      at_slot (its_slot ss) j f = get_or-set_other b.slots s j (change b).slot blank_slot (eqb-false j s (sym (ss j) ∙ f))
      at_slot (no_slot ss l) j f = slot_kept b u s (change b) j (ap (λ (d : Change). d.slot) (l.same_change (ground_of b) (unit_entry b u) (slot_at b s) (slot_at b s)))

      at_spot : (q : Spot) → among q (touched b r) ≡ false → entry_at result q ≡ entry_at b q
      at_spot (the_unit i) f = unit_else b u s (change b) i (eqb-false i u (sym (reached.units i) ∙ f))
      at_spot (the_slot j) f = at_slot reached.slots j f

  -- a sheet that is as this one in what the step touches
  module _ (c : Sheet) (k : Sound c) (g : ground_of c ≡ ground_of b) (same : (p : Spot) → among p (touched b r) ≡ true → entry_at c p ≡ entry_at b p) where
    found : unit_of c r a ≡ u → unit_entry c (unit_of c r a) ≡ unit_entry b u
    found e = ap (unit_entry c) e ∙ same (the_unit u) (reached.units u ∙ eq-eqb u u refl)

    -- there the step finds the same, but for a slot that it neither reads nor changes
    record Finds : Type 0 where
      unit_same : unit_of c r a ≡ u
      checks_same : checks_on c r a ≡ checks_on b r a
      slot : Slot
      change_same : change c ≡ with_slot (change b) slot
      slot_is : (j : ℕ) → among (the_slot j) (touched b r) ≡ true → (j ≡ s) × (slot ≡ (change b).slot)

    finds : SlotReached (touched b r) s (Slotless r a) → Finds
    finds (its_slot ss) =
        let y-same : slot_at c s ≡ slot_at b s = same (the_slot s) (ss s ∙ eq-eqb s s refl) in
        let u_same : unit_of c r a ≡ u = ap (λ (y : Slot). unit_by r y.to a) y-same in
        record {
          unit_same = u_same;
          checks_same = λ i. checks_from a (g i) (found u_same i) (y-same i);
          slot = (change b).slot;
          change_same = λ i. change_from r a (g i) (found u_same i) (y-same i);
          slot_is = λ j e. (eqb-true j s (sym (ss j) ∙ e), refl);
        }
    finds (no_slot ss l) =
        let u_same : unit_of c r a ≡ u = l.same_unit (slot_at c s).to (slot_at b s).to in
        record {
          unit_same = u_same;
          checks_same = (λ i. checks_from a (g i) (found u_same i) (slot_at c s)) ∙ l.same_checks (ground_of b) (unit_entry b u) (slot_at c s) (slot_at b s);
          slot = slot_at c s;
          change_same = (λ i. change_from r a (g i) (found u_same i) (slot_at c s)) ∙ l.same_change (ground_of b) (unit_entry b u) (slot_at c s) (slot_at b s);
          slot_is = λ j e. absurd (true_not_false (sym e ∙ ss j));
        }

    find : Finds
    find = finds reached.slots

    repeats : step c r ≡ stored c u s (with_slot (change b) find.slot)
    unfolding applied
    repeats =
        step_does c r k a refl (subst (λ (x : Ground). Claims (asked (place_checks x.n x.m r a))) (sym g) told.places) (subst (λ (cs : List Check). Claims (asked cs)) (sym find.checks_same) told.records)
        ∙ (λ i. stored c (find.unit_same i) s (find.change_same i))

    pub repeats_accepted : number_of (step c r).answer ≡ 0
    repeats_accepted = ap (λ (o : Outcome). number_of o.answer) repeats ∙ sym (ap (λ (o : Outcome). number_of o.answer) stores_change) ∙ z

    pub repeats_ground : ground_of (step c r).sheet ≡ ground_of (step b r).sheet
    repeats_ground =
        ap (λ (o : Outcome). ground_of o.sheet) repeats ∙ (λ i. record { n = (g i).n; m = (g i).m; delay = (g i).delay; debt = (change b).debt })
        ∙ sym (ap (λ (o : Outcome). ground_of o.sheet) stores_change)

    abbrev repeated : Sheet
    repeated = (stored c u s (with_slot (change b) find.slot)).sheet

    at_unit : unit_entry repeated u ≡ unit_entry result u
    at_unit = λ i. record {
      unit = same_store c.units b.units u (change b).unit blank_unit (omega (arith, h.s1_sizes, k.s1_sizes)) i;
      parent = same_store c.parents b.parents u (change b).parent 0 (omega (arith, h.s1_sizes, k.s1_sizes)) i;
      counts = record {
        created = same_store c.created b.created u (change b).counts.created 0 (omega (arith, h.s1_sizes, k.s1_sizes)) i;
        processed = same_store c.processed b.processed u (change b).counts.processed 0 (omega (arith, h.s1_sizes, k.s1_sizes)) i;
      };
    }

    at_slot : find.slot ≡ (change b).slot → slot_at repeated s ≡ slot_at result s
    at_slot f = ap (λ (y : Slot). get_or (set c.slots s y) s blank_slot) f ∙ same_store c.slots b.slots s (change b).slot blank_slot (omega (arith, h.s1_sizes, k.s1_sizes))

    at_spot : (p : Spot) → among p (touched b r) ≡ true → entry_at repeated p ≡ entry_at result p
    at_spot (the_unit i) e = subst (λ (j : ℕ). unit_entry repeated j ≡ unit_entry result j) (sym (eqb-true i u (sym (reached.units i) ∙ e))) at_unit
    at_spot (the_slot j) e = subst (λ (x : ℕ). slot_at repeated x ≡ slot_at result x) (sym (find.slot_is j e).0) (at_slot (find.slot_is j e).1)

    pub repeats_entry : (p : Spot) → among p (touched b r) ≡ true → entry_at (step c r).sheet p ≡ entry_at (step b r).sheet p
    repeats_entry p e = ap (λ (o : Outcome). entry_at o.sheet p) repeats ∙ at_spot p e ∙ sym (ap (λ (o : Outcome). entry_at o.sheet p) stores_change)
