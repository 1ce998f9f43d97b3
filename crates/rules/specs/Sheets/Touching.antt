-- What a step touches on a sheet (M-107): its unit u and its slot s, where it has them, and for a delivery the slot's receiver; a send's v and a move's p are not touched.
use Rattle.std.specs.Prelude.{Bool, true, false, not, cond, ◌&&◌, ◌||◌, List, [], ◌∷◌, ◌++◌, ℕ, eqb}
use Rattle.rules.specs.Actions.{action_of, is_action}
use Rattle.rules.specs.Letters.{Place, among_units, among_slots, Letter, letters, read, touched_letters, slot_of}
use Rattle.rules.specs.Sheets.Sheet.{Sheet, slot_at}
use Rattle.rules.specs.Records.{Action, Deliver, StepRecord}

-- what can be touched: a unit with all that a sheet holds of it, a slot
pub data Spot : Type 0 where
  the_unit : ℕ → Spot
  the_slot : ℕ → Spot

-- what letters name, by where each lies
abbrev pub spot_at : Place → ℕ → Spot
spot_at among_units i = the_unit i
spot_at among_slots j = the_slot j

abbrev pub spots_of : StepRecord → List Letter → List Spot
spots_of r [] = []
spots_of r (l ∷ ls) = spot_at l.place (read r l.field) ∷ spots_of r ls

-- "for a delivery the slot's receiver"
abbrev pub receivers : Sheet → StepRecord → Action → List Spot
receivers b r a = cond (is_action Deliver a) (the_unit (slot_at b (slot_of r a)).to ∷ []) []

abbrev pub touched_by : Sheet → StepRecord → Action → List Spot
touched_by b r a = spots_of r (touched_letters (letters a)) ++ receivers b r a

abbrev pub touched : Sheet → StepRecord → List Spot
touched b r = touched_by b r (action_of r.kind)

-- whether two are the same, whether one is among others, whether two lists have nothing in common
abbrev pub same_spot : Spot → Spot → Bool
same_spot (the_unit i) (the_unit j) = eqb i j
same_spot (the_unit i) (the_slot j) = false
same_spot (the_slot i) (the_unit j) = false
same_spot (the_slot i) (the_slot j) = eqb i j

abbrev pub among : Spot → List Spot → Bool
among p [] = false
among p (q ∷ qs) = same_spot p q || among p qs

abbrev pub apart : List Spot → List Spot → Bool
apart [] qs = true
apart (p ∷ ps) qs = not (among p qs) && apart ps qs
