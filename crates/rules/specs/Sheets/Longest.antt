-- The longest drain of a sheet (M-109): how many steps it has, and one list of so many.
use Rattle.std.specs.Prelude.{List, [], ◌∷◌, ◌++◌, ℕ, zero, suc, ◌+◌, ◌*◌, ◌-◌, get_or, replicate}
use Rattle.rules.specs.Facts.{sum_of}
use Rattle.rules.specs.Sheets.Sheet.{Sheet}
use Rattle.rules.specs.Sheets.Depths.{depth}
use Rattle.rules.specs.Sheets.Drains.{tick_of, release_of, deliver_of}
use Rattle.rules.specs.Records.{State, Idle, Active, Waiting, Kind, Empty, Work, Return, Request, Supply, UnitRecord, Slot, StepRecord}

-- ---- its length: "the sum of countdown + 2 + (d + 2) × (depth − 1) over waiting units, plus 1 + (d + 2) × (depth of the receiver) over
-- returns"; d is the delay, the depth the unit's and the receiver's
abbrev pub unit_length : ℕ → ℕ → UnitRecord → State → ℕ
unit_length d depth x Idle = 0
unit_length d depth x Active = 0
unit_length d depth x Waiting = x.countdown + 2 + (d + 2) * (depth - 1)

abbrev pub slot_length : ℕ → ℕ → Kind → ℕ
slot_length d depth Empty = 0
slot_length d depth Work = 0
slot_length d depth Return = 1 + (d + 2) * depth
slot_length d depth Request = 0
slot_length d depth Supply = 0

unfoldable pub units_length : ℕ → List ℕ → List UnitRecord → ℕ
units_length d ps us = sum_of (λ i x. unit_length d (depth ps i) x x.state) us

unfoldable pub slots_length : ℕ → List ℕ → List Slot → ℕ
slots_length d ps ys = sum_of (λ j y. slot_length d (depth ps y.to) y.kind) ys

abbrev pub longest_length : Sheet → ℕ
longest_length b = units_length b.delay b.parents b.units + slots_length b.delay b.parents b.slots

-- ---- one list of that length
-- journey: the way of a weight to unit 0, by slot s, from unit u, which waits with countdown k. The unit ticks until its countdown is 0, is
-- released into s, and s is delivered; where the parent is not unit 0, it waits now, with countdown d, and the journey goes on from it.
-- Within so many turns: the unit's own number is enough, since a parent has a lower one
unfoldable pub journey_within : ℕ → ℕ → List ℕ → ℕ → ℕ → ℕ → List StepRecord
journey_within zero d ps s k u = []
journey_within (suc j) d ps s k zero = []
journey_within (suc j) d ps s k (suc u) = replicate k (tick_of (suc u)) ++ release_of (suc u) s ∷ deliver_of s ∷ journey_within j d ps s d (get_or ps (suc u) 0)

unfoldable pub journey : ℕ → List ℕ → ℕ → ℕ → ℕ → List StepRecord
journey d ps s k u = journey_within u d ps s k u

-- a waiting unit's own journey; the delivery of a return, and the journey from its receiver
abbrev pub unit_steps : ℕ → List ℕ → ℕ → ℕ → UnitRecord → State → List StepRecord
unit_steps d ps s i x Idle = []
unit_steps d ps s i x Active = []
unit_steps d ps s i x Waiting = journey d ps s x.countdown i

abbrev pub slot_steps : ℕ → List ℕ → ℕ → ℕ → Slot → Kind → List StepRecord
slot_steps d ps s j y Empty = []
slot_steps d ps s j y Work = []
slot_steps d ps s j y Return = deliver_of j ∷ journey d ps s d y.to
slot_steps d ps s j y Request = []
slot_steps d ps s j y Supply = []

-- a list for each element of a list, by its index and its value, one behind the other
unfoldable pub join_of : {A B : Type 0} → (ℕ → A → List B) → List A → List B
join_of f [] = []
join_of f (x ∷ xs) = f 0 x ++ join_of (λ i. f (suc i)) xs

-- first the waiting units in ascending number, then the returns by ascending slot; every release goes into the slot s, free at the beginning
unfoldable pub longest_list : Sheet → ℕ → List StepRecord
longest_list b s =
    join_of (λ i x. unit_steps b.delay b.parents s i x x.state) b.units ++ join_of (λ j y. slot_steps b.delay b.parents s j y y.kind) b.slots
