-- A sound sheet, S1 to S6 and the equality of its counts: each as rows of facts, then as claims for proofs, then as a test that computes.
use Rattle.std.specs.Prelude.{Bool, cond, List, [], ◌∷◌, ℕ, zero, suc, ◌+◌, length, ltb, eqb}
use Rattle.rules.specs.Facts.{Fact, below, at_most, equal, holds, fails, Claims, tests, Each, each, sum_of, one_if}
use Rattle.rules.specs.Records.{is_idle, is_empty, is_work, grant, ceiling, full, State, Idle, Active, Waiting, Kind, Empty, Work, Return, Request, Supply, UnitRecord, Slot}
use Rattle.rules.specs.Sheets.Sheet.{Sheet}

-- S1: n is 1 to 64, M is 1 to 256, d is at most 255. (The arrays have their lengths: what the records' types say, said of lists.)
abbrev pub sizes : Sheet → List Fact
sizes b =
    at_most 1 b.n
    ∷ at_most b.n 64
    ∷ at_most 1 b.m
    ∷ at_most b.m 256
    ∷ at_most b.delay 255
    ∷ equal (length b.parents) 64
    ∷ equal (length b.units) 64
    ∷ equal (length b.slots) 256
    ∷ equal (length b.created) 64
    ∷ equal (length b.processed) 64
    ∷ []

-- S1: the parent entry of unit 0 is 0, every other unit's parent has a lower number, and entries from n on are 0
abbrev pub lower_parent : ℕ → ℕ → List Fact
lower_parent zero p = equal p 0 ∷ []
lower_parent (suc i) p = below p (suc i) ∷ []

abbrev pub parent_row : ℕ → ℕ → ℕ → List Fact
parent_row n i p = cond (ltb i n) (lower_parent i p) (equal p 0 ∷ [])

-- S2: what a unit in use has in each state
abbrev pub state_row : ℕ → ℕ → UnitRecord → State → List Fact
state_row delay i u Idle = equal u.weight 0 ∷ equal u.countdown 0 ∷ fails u.suspended ∷ []
state_row delay i u Active = at_most 1 u.weight ∷ equal u.countdown 0 ∷ []
state_row delay i u Waiting = at_most 1 u.weight ∷ at_most u.countdown delay ∷ fails u.suspended ∷ at_most 1 i ∷ []

-- S2 for a unit in use; S1 for an entry from n on, which is blank
abbrev pub unit_row : ℕ → ℕ → ℕ → UnitRecord → List Fact
unit_row n delay i u = cond (ltb i n) (state_row delay i u u.state) (holds (is_idle u.state) ∷ state_row delay i u Idle)

-- S3: what a slot in use has in each kind; a return's receiver is lower than its sender (M-108)
abbrev pub kind_row : ℕ → Slot → Kind → List Fact
kind_row n y Empty = equal y.from 0 ∷ equal y.to 0 ∷ equal y.weight 0 ∷ []
kind_row n y Work = below y.from n ∷ below y.to n ∷ at_most 1 y.weight ∷ []
kind_row n y Return = at_most 1 y.from ∷ below y.from n ∷ below y.to y.from ∷ at_most 1 y.weight ∷ []
kind_row n y Request = below y.from n ∷ equal y.to 0 ∷ equal y.weight 0 ∷ []
kind_row n y Supply = equal y.from 0 ∷ below y.to n ∷ equal y.weight grant ∷ []

-- S3 for a slot in use; S1 for an entry from M on, which is blank
abbrev pub slot_row : ℕ → ℕ → ℕ → Slot → List Fact
slot_row n m j y = cond (ltb j m) (kind_row n y y.kind) (holds (is_empty y.kind) ∷ kind_row n y Empty)

-- the rows of a sheet's entries
abbrev pub unit_row_on : Sheet → ℕ → UnitRecord → List Fact
unit_row_on b = unit_row b.n b.delay

abbrev pub kind_row_on : Sheet → Slot → Kind → List Fact
kind_row_on b = kind_row b.n

abbrev pub slot_row_on : Sheet → ℕ → Slot → List Fact
slot_row_on b = slot_row b.n b.m

-- S4: 1 where a slot is a request from unit i or a supply to it
abbrev pub pending_in : ℕ → Slot → Kind → ℕ
pending_in i y Empty = 0
pending_in i y Work = 0
pending_in i y Return = 0
pending_in i y Request = one_if (eqb y.from i)
pending_in i y Supply = one_if (eqb y.to i)

unfoldable pub pending : List Slot → ℕ → ℕ
pending ys i = sum_of (λ j y. pending_in i y y.kind) ys

-- S4: a suspended unit has exactly one such slot, a unit not suspended none
abbrev pub pending_row : Sheet → ℕ → UnitRecord → List Fact
pending_row b i u = equal (pending b.slots i) (one_if u.suspended) ∷ []

-- the weight in units and slots together, the sum of S5
unfoldable pub units_weight : List UnitRecord → ℕ
units_weight us = sum_of (λ i u. u.weight) us

unfoldable pub slots_weight : List Slot → ℕ
slots_weight ys = sum_of (λ j y. y.weight) ys

abbrev pub weight_out : Sheet → ℕ
weight_out b = units_weight b.units + slots_weight b.slots

-- S5 and S6
abbrev pub debt_row : Sheet → List Fact
debt_row b = equal (weight_out b) b.debt ∷ at_most b.debt ceiling ∷ []

-- M-105: a created count is at most 2^32 - 1 (what its type says, said of numbers), and counts from n on are 0
abbrev pub created_row : ℕ → ℕ → ℕ → List Fact
created_row n i c = cond (ltb i n) (at_most c full ∷ []) (equal c 0 ∷ [])

abbrev pub processed_row : ℕ → ℕ → ℕ → List Fact
processed_row n i p = cond (ltb i n) [] (equal p 0 ∷ [])

-- a total of counts, added exactly, and the work messages under way
unfoldable pub total : List ℕ → ℕ
total ks = sum_of (λ i k. k) ks

unfoldable pub work_under_way : List Slot → ℕ
work_under_way ys = sum_of (λ j y. one_if (is_work y.kind)) ys

-- M-105: "the created total equals the processed total plus work under way"
abbrev pub balance_row : Sheet → List Fact
balance_row b = equal (total b.created) (total b.processed + work_under_way b.slots) ∷ []

pub record Sound (b : Sheet) : Type 0 where
  pub s1_sizes : Claims (sizes b)
  pub s1_parents : Each (parent_row b.n) b.parents
  pub s2_units : Each (unit_row_on b) b.units
  pub s3_slots : Each (slot_row_on b) b.slots
  pub s4_pending : Each (pending_row b) b.units
  pub s5_s6_debt : Claims (debt_row b)
  pub counts_created : Each (created_row b.n) b.created
  pub counts_processed : Each (processed_row b.n) b.processed
  pub counts_balance : Claims (balance_row b)

-- the same rows, tested
abbrev pub sound_row : Sheet → List Fact
sound_row b =
    holds (tests (sizes b))
    ∷ holds (each (parent_row b.n) b.parents)
    ∷ holds (each (unit_row_on b) b.units)
    ∷ holds (each (slot_row_on b) b.slots)
    ∷ holds (each (pending_row b) b.units)
    ∷ holds (tests (debt_row b))
    ∷ holds (each (created_row b.n) b.created)
    ∷ holds (each (processed_row b.n) b.processed)
    ∷ holds (tests (balance_row b))
    ∷ []

unfoldable pub sound : Sheet → Bool
sound b = tests (sound_row b)
