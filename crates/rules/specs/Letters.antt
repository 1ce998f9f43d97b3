-- The letters of each step, in the order of its bracket and of its script line; and what follows from them: where they must lie, which
-- of a record's fields are read, and which places a step may change.
use Rattle.std.specs.Prelude.{Bool, true, false, cond, List, [], ◌∷◌, ◌++◌, ℕ, suc, get_or}
use Rattle.refusals.specs.declared.Refusal.TheVariants.{NoSuchUnit, NoSuchSlot, ParentNotLower}
use Rattle.rules.specs.Facts.{Check, check, below}
use Rattle.rules.specs.Actions.{action_of, is_action}
use Rattle.rules.specs.Records.{Action, Unknown, Start, Send, RequestStep, Deliver, Rest, Tick, Release, Move, StepRecord}

-- the field of a step record that a letter reads
pub data Field : Type 0 where
  unit_field : Field
  other_field : Field
  slot_field : Field

-- where what a letter names lies: among the units in use, among the slots in use
pub data Place : Type 0 where
  among_units : Place
  among_slots : Place

-- what a letter must be below, and the check of it: the units in use (13), the slots in use (14), the step's own unit u (47, M-108)
pub data Limit : Type 0 where
  units_in_use : Limit
  slots_in_use : Limit
  own_unit : Limit

-- a letter: its field, where what it names lies, what it must be below, and whether the step touches what it names
pub record Letter : Type 0 where
  pub field : Field
  pub place : Place
  pub limit : Limit
  pub touched : Bool

-- u, the unit that takes the step; v, the unit that a send is for, which is not touched; s, a slot; p, the parent that a move gives u, which
-- is not touched (M-108)
abbrev pub u : Letter
u = record { field = unit_field; place = among_units; limit = units_in_use; touched = true }

abbrev pub v : Letter
v = record { field = other_field; place = among_units; limit = units_in_use; touched = false }

abbrev pub s : Letter
s = record { field = slot_field; place = among_slots; limit = slots_in_use; touched = true }

abbrev pub p : Letter
p = record { field = other_field; place = among_units; limit = own_unit; touched = false }

-- start u, send u v s, request u s, deliver s, rest u, tick u, release u s, move u p (M-108)
abbrev pub letters : Action → List Letter
letters Unknown = []
letters Start = u ∷ []
letters Send = u ∷ v ∷ s ∷ []
letters RequestStep = u ∷ s ∷ []
letters Deliver = s ∷ []
letters Rest = u ∷ []
letters Tick = u ∷ []
letters Release = u ∷ s ∷ []
letters Move = u ∷ p ∷ []

-- ---- a field read and a field set
abbrev pub read : StepRecord → Field → ℕ
read r unit_field = r.unit
read r other_field = r.other
read r slot_field = r.slot

abbrev pub with_field : StepRecord → Field → ℕ → StepRecord
with_field r unit_field x = record { kind = r.kind; unit = x; other = r.other; slot = r.slot }
with_field r other_field x = record { kind = r.kind; unit = r.unit; other = x; slot = r.slot }
with_field r slot_field x = record { kind = r.kind; unit = r.unit; other = r.other; slot = x }

-- ---- the head of a bracket: 13 unit not below n, 14 slot not below M, 47 u is 0 or p not lower than u (M-108): nothing is lower than 0
abbrev pub place_check : ℕ → ℕ → ℕ → ℕ → Limit → List Check
place_check n m u i units_in_use = check (below i n) NoSuchUnit ∷ []
place_check n m u i slots_in_use = check (below i m) NoSuchSlot ∷ []
place_check n m u i own_unit = check (below i u) ParentNotLower ∷ []

abbrev pub checks_of : ℕ → ℕ → StepRecord → List Letter → List Check
checks_of n m r [] = []
checks_of n m r (l ∷ ls) = place_check n m r.unit (read r l.field) l.limit ++ checks_of n m r ls

abbrev pub place_checks : ℕ → ℕ → StepRecord → Action → List Check
place_checks n m r a = checks_of n m r (letters a)

-- ---- the values of letters, in their order, and a record of them
abbrev pub values_of : StepRecord → List Letter → List ℕ
values_of r [] = []
values_of r (l ∷ ls) = read r l.field ∷ values_of r ls

-- a record of kind k with the values from number i on in the letters' fields, and 0 in the others
abbrev pub record_from : ℕ → ℕ → List Letter → List ℕ → StepRecord
record_from k i [] xs = record { kind = k; unit = 0; other = 0; slot = 0 }
record_from k i (l ∷ ls) xs = with_field (record_from k (suc i) ls xs) l.field (get_or xs i 0)

-- the record with every field 0 but those of these letters
abbrev pub only : StepRecord → List Letter → StepRecord
only r ls = record_from r.kind 0 ls (values_of r ls)

-- ---- "fields that its kind has no letter for are not read"
abbrev pub used_fields : StepRecord → Action → StepRecord
used_fields r a = only r (letters a)

unfoldable pub used : StepRecord → StepRecord
used r = used_fields r (action_of r.kind)

-- ---- the slot and the unit that a step may change: 0 where it has no such letter; a delivery's unit is the receiver `to` that its slot names
abbrev pub touched_letters : List Letter → List Letter
touched_letters [] = []
touched_letters (l ∷ ls) = cond l.touched (l ∷ touched_letters ls) (touched_letters ls)

abbrev pub touched_fields : StepRecord → Action → StepRecord
touched_fields r a = only r (touched_letters (letters a))

abbrev pub slot_of : StepRecord → Action → ℕ
slot_of r a = (touched_fields r a).slot

abbrev pub unit_by : StepRecord → ℕ → Action → ℕ
unit_by r to a = cond (is_action Deliver a) to (touched_fields r a).unit
