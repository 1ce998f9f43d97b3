-- A board as a row of entries, each of four numbers.
use Rattle.std.specs.Prelude.{false, cond, List, [], ◌∷◌, ℕ, ◌-◌, get_or, ltb, Option, Some, None}
use Rattle.rules.specs.Facts.{one_if}
use Rattle.rules.specs.Records.{blank_unit, blank_slot}
use Rattle.rules.specs.declared.State.{State}
use Rattle.rules.specs.declared.State.TheVariants.{Idle, Active, Waiting}
use Rattle.rules.specs.declared.Kind.{Kind}
use Rattle.rules.specs.declared.Kind.TheVariants.{Empty, Work, Return, Request, Supply}
use Rattle.rules.specs.declared.UnitRecord.{UnitRecord}
use Rattle.rules.specs.declared.Slot.{Slot}
use Rattle.rules.specs.declared.Round.{Round}
use Rattle.rules.specs.declared.Round.TheVariants.{One, Two}
use Rattle.rules.specs.declared.Rounds.{Rounds}
use Rattle.rules.specs.declared.Board.{Board}

-- states, kinds and rounds by their places among their words
abbrev pub state_place : State → ℕ
state_place Idle = 0
state_place Active = 1
state_place Waiting = 2

abbrev pub kind_place : Kind → ℕ
kind_place Empty = 0
kind_place Work = 1
kind_place Return = 2
kind_place Request = 3
kind_place Supply = 4

abbrev pub round_place : Option Round → ℕ
round_place None = 0
round_place (Some One) = 1
round_place (Some Two) = 2

abbrev pub unit_cells : UnitRecord → List ℕ
unit_cells x = state_place x.state ∷ x.weight ∷ x.countdown ∷ one_if x.suspended ∷ []

abbrev pub slot_cells : Slot → List ℕ
slot_cells y = kind_place y.kind ∷ y.from ∷ y.to ∷ y.weight ∷ []

-- 64 marks, then the open round with the totals
abbrev pub marks_entry : Rounds → ℕ → List ℕ
marks_entry k i = cond (ltb i 64) (one_if (get_or k.visited i false) ∷ 0 ∷ 0 ∷ 0 ∷ []) (round_place k.round ∷ k.processed ∷ k.created ∷ 0 ∷ [])

-- 64 counts, then those of the rounds
abbrev pub rounds_entry : Board → ℕ → List ℕ
rounds_entry b i = cond (ltb i 64) (get_or b.created i 0 ∷ get_or b.processed i 0 ∷ 0 ∷ 0 ∷ []) (marks_entry b.rounds (i - 64))

-- 64 parents, 64 units, 256 slots, then those of counts and rounds
abbrev pub entry_of : Board → ℕ → List ℕ
entry_of b i =
    cond (ltb i 64) (get_or b.parents i 0 ∷ 0 ∷ 0 ∷ 0 ∷ [])
    (cond (ltb i 128) (unit_cells (get_or b.units (i - 64) blank_unit))
    (cond (ltb i 384) (slot_cells (get_or b.slots (i - 128) blank_slot))
    (rounds_entry b (i - 384))))
