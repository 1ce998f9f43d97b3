-- What a step of an action touches: its unit, and its slot or none. A step without a slot does not depend on one.
use mathlib.Core.Path.{◌≡◌, refl, sym, ap, ◌∙◌}
use mathlib.Core.Bool.{Bool, true, false, cond, ◌||◌}
use mathlib.Core.List.{List, [], ◌∷◌}
use Prim.Native.Nat.{ℕ, ◌-◌}
use lib.Dec.{eqb}
use borrow.Author.Tests.{eq-eqb}
use Rattle.std.specs.Prelude.{Ok}
use Rattle.rules.specs.Facts.{Check}
use Rattle.rules.specs.Records.{blank_unit, Action, Unknown, Start, Send, RequestStep, Deliver, Rest, Tick, Release, Move, Effect, OnUnit, Slot, Change, StepRecord}
use Rattle.rules.specs.Actions.{action_of}
use Rattle.rules.specs.Letters.{slot_of, unit_by}
use Rattle.rules.specs.Effects.{waiting_with, record_checks, record_effect, counted, change_of}
use Rattle.rules.specs.Sheets.Sheet.{Sheet, slot_at}
use Rattle.rules.specs.Sheets.Steps.{unit_of}
use Rattle.rules.specs.Sheets.Touching.{Spot, the_unit, the_slot, touched_by, touched, among}
use Rattle.rules.proofs.FactLaws.{true_not_false, by_test}
use Rattle.rules.proofs.Sheets.Accepted.{AcceptedAs, shown}
use Rattle.rules.proofs.Sheets.SpotLaws.{UnitEntry, entry_at, Ground}

-- ---- what a step makes of what it reads: the ground, its unit's entry, its slot
abbrev pub checks_from : Action → Ground → UnitEntry → Slot → List Check
checks_from a g e y = record_checks g.debt e.unit y e.counts.created a

abbrev pub change_from : StepRecord → Action → Ground → UnitEntry → Slot → Change
change_from r a g e y = change_of (record_effect g.debt g.delay r e.unit e.parent y a) e.unit e.parent y g.debt e.counts (counted e.counts y a)

abbrev pub with_slot : Change → Slot → Change
with_slot c y = record { answer = c.answer; parent = c.parent; debt = c.debt; unit = c.unit; slot = y; counts = c.counts }

-- a step without a slot neither reads one nor changes one
pub record Slotless (r : StepRecord) (a : Action) : Type 0 where
  pub same_unit : (v w : ℕ) → unit_by r v a ≡ unit_by r w a
  pub same_checks : (g : Ground) (e : UnitEntry) (y z : Slot) → checks_from a g e y ≡ checks_from a g e z
  pub same_change : (g : Ground) (e : UnitEntry) (y z : Slot) → change_from r a g e y ≡ with_slot (change_from r a g e z) y

-- a rest changes its unit in one of two ways
rest_change : (r : StepRecord) (g : Ground) (e : UnitEntry) (y z : Slot) → change_from r Rest g e y ≡ with_slot (change_from r Rest g e z) y
rest_change r g e y z =
    let rests : Bool → Effect = λ t. cond t (OnUnit blank_unit (g.debt - e.unit.weight)) (OnUnit (waiting_with e.unit.weight g.delay) g.debt) in
    let with : Bool → Slot → Change = λ t v. change_of (Ok (rests t)) e.unit e.parent v g.debt e.counts (counted e.counts v Rest) in
    by_test (λ t. with t y ≡ with_slot (with t z) y) (eqb r.unit 0) (λ q. refl) (λ q. refl)

-- ---- of units these spots have u alone, of slots s alone or none
pub data SlotReached (ps : List Spot) (s : ℕ) (Alone : Type 0) : Type 0 where
  its_slot : ((j : ℕ) → among (the_slot j) ps ≡ eqb j s) → SlotReached ps s Alone
  no_slot : ((j : ℕ) → among (the_slot j) ps ≡ false) → Alone → SlotReached ps s Alone

pub record ReachesSpots (ps : List Spot) (u s : ℕ) (Alone : Type 0) : Type 0 where
  pub units : (i : ℕ) → among (the_unit i) ps ≡ eqb i u
  pub slots : SlotReached ps s Alone

or_false : (t : Bool) → t || false ≡ t
or_false = elim [ true ↦ refl | false ↦ refl ]

-- a unit alone, by an action for which these three hold; a unit and a slot, in whatever order they stand
unit_only : {r : StepRecord} {a : Action} (u s : ℕ) → ((v w : ℕ) → unit_by r v a ≡ unit_by r w a) → ((g : Ground) (e : UnitEntry) (y z : Slot) → checks_from a g e y ≡ checks_from a g e z)
    → ((g : Ground) (e : UnitEntry) (y z : Slot) → change_from r a g e y ≡ with_slot (change_from r a g e z) y) → ReachesSpots (the_unit u ∷ []) u s (Slotless r a)
unit_only u s unit checks change = record { units = λ i. or_false (eqb i u); slots = no_slot (λ j. refl) (record { same_unit = unit; same_checks = checks; same_change = change }) }

unit_and_slot : {Alone : Type 0} {ps : List Spot} (u s : ℕ) → ((i : ℕ) → among (the_unit i) ps ≡ eqb i u || false) → ((j : ℕ) → among (the_slot j) ps ≡ eqb j s || false) → ReachesSpots ps u s Alone
unit_and_slot u s us ss = record { units = λ i. us i ∙ or_false (eqb i u); slots = its_slot (λ j. ss j ∙ or_false (eqb j s)) }

abbrev pub Reaches : Sheet → StepRecord → Action → Type 0
Reaches b r a = ReachesSpots (touched_by b r a) (unit_of b r a) (slot_of r a) (Slotless r a)

pub reaches : (b : Sheet) (r : StepRecord) (a : Action) → AcceptedAs b r a → Reaches b r a
reaches b r Unknown c = absurd (true_not_false (sym (shown 16 c)))
reaches b r Start c = unit_only r.unit 0 (λ v w. refl) (λ g e y z. refl) (λ g e y z. refl)
reaches b r Send c = unit_and_slot r.unit r.slot (λ i. refl) (λ j. refl)
reaches b r RequestStep c = unit_and_slot r.unit r.slot (λ i. refl) (λ j. refl)
reaches b r Deliver c = unit_and_slot (slot_at b r.slot).to r.slot (λ i. refl) (λ j. refl)
reaches b r Rest c = unit_only r.unit 0 (λ v w. refl) (λ g e y z. refl) (rest_change r)
reaches b r Tick c = unit_only r.unit 0 (λ v w. refl) (λ g e y z. refl) (λ g e y z. refl)
reaches b r Release c = unit_and_slot r.unit r.slot (λ i. refl) (λ j. refl)
reaches b r Move c = unit_only r.unit 0 (λ v w. refl) (λ g e y z. refl) (λ g e y z. refl)

-- what a step touches is read where it touches
pub touches_same : (b c : Sheet) (r : StepRecord) → ((p : Spot) → among p (touched b r) ≡ true → entry_at c p ≡ entry_at b p) → touched c r ≡ touched b r
touches_same b c r same = by_action (action_of r.kind) same
  where
    by_action : (a : Action) → ((p : Spot) → among p (touched_by b r a) ≡ true → entry_at c p ≡ entry_at b p) → touched_by c r a ≡ touched_by b r a
    by_action Unknown e = refl
    by_action Start e = refl
    by_action Send e = refl
    by_action RequestStep e = refl
    by_action Deliver e = ap (λ (y : Slot). the_slot r.slot ∷ the_unit y.to ∷ []) (e (the_slot r.slot) (or_false (eqb r.slot r.slot) ∙ eq-eqb r.slot r.slot refl))
    by_action Rest e = refl
    by_action Tick e = refl
    by_action Release e = refl
    by_action Move e = refl
