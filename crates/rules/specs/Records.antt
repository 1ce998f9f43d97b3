-- The records that src/lib.rt declares, passed on under one name each, and words for them: what a state or a kind is, blank entries, and the
-- greatest numbers.
use Rattle.std.specs.Prelude.{Bool, true, false, ℕ}
pub use Rattle.rules.specs.declared.State.{State}
pub use Rattle.rules.specs.declared.State.TheVariants.{Idle, Active, Waiting}
pub use Rattle.rules.specs.declared.Kind.{Kind}
pub use Rattle.rules.specs.declared.Kind.TheVariants.{Empty, Work, Return, Request, Supply}
pub use Rattle.rules.specs.declared.UnitRecord.{UnitRecord}
pub use Rattle.rules.specs.declared.Slot.{Slot}
pub use Rattle.rules.specs.declared.Round.{Round}
pub use Rattle.rules.specs.declared.Round.TheVariants.{One, Two}
pub use Rattle.rules.specs.declared.Rounds.{Rounds}
pub use Rattle.rules.specs.declared.Board.{Board}
pub use Rattle.rules.specs.declared.StepRecord.{StepRecord}
pub use Rattle.rules.specs.declared.Action.{Action}
pub use Rattle.rules.specs.declared.Action.TheVariants.{Unknown, Start, Send, Request as RequestStep, Deliver, Rest, Tick, Release, Move}
pub use Rattle.rules.specs.declared.Effect.{Effect}
pub use Rattle.rules.specs.declared.Effect.TheVariants.{OnUnit, OnSlot, OnBoth, OnParent}
pub use Rattle.rules.specs.declared.Counts.{Counts}
pub use Rattle.rules.specs.declared.Change.{Change}
pub use Rattle.rules.specs.declared.Outcome.{Outcome}
pub use Rattle.rules.specs.declared.Verdict.{Verdict}
pub use Rattle.rules.specs.declared.Verdict.TheVariants.{Finished, Working}
pub use Rattle.rules.specs.declared.Finding.{Finding}
pub use Rattle.rules.specs.declared.Finding.TheVariants.{NoVerdict, AllQuiet, Unsettled}
pub use Rattle.rules.specs.declared.Visited.{Visited}
pub use Rattle.rules.specs.declared.Batch.{Batch}
pub use Rattle.rules.specs.declared.Shared.{Shared}

abbrev pub is_idle : State → Bool
is_idle Idle = true
is_idle Active = false
is_idle Waiting = false

abbrev pub is_active : State → Bool
is_active Idle = false
is_active Active = true
is_active Waiting = false

abbrev pub is_waiting : State → Bool
is_waiting Idle = false
is_waiting Active = false
is_waiting Waiting = true

abbrev pub is_empty : Kind → Bool
is_empty Empty = true
is_empty Work = false
is_empty Return = false
is_empty Request = false
is_empty Supply = false

abbrev pub is_work : Kind → Bool
is_work Empty = false
is_work Work = true
is_work Return = false
is_work Request = false
is_work Supply = false

abbrev pub is_return : Kind → Bool
is_return Empty = false
is_return Work = false
is_return Return = true
is_return Request = false
is_return Supply = false

abbrev pub is_request : Kind → Bool
is_request Empty = false
is_request Work = false
is_request Return = false
is_request Request = true
is_request Supply = false

-- blank entries: idle, empty, all zero
abbrev pub blank_unit : UnitRecord
blank_unit = record { weight = 0; countdown = 0; state = Idle; suspended = false }

abbrev pub blank_slot : Slot
blank_slot = record { weight = 0; from = 0; to = 0; kind = Empty }

-- 2^24, the weight that a start or a grant brings into the board
abbrev pub grant : ℕ
grant = 16777216

-- 2^40, the most that the debt may be
abbrev pub ceiling : ℕ
ceiling = 1099511627776

-- 2^32 - 1, the most that a created count may be (M-105)
abbrev pub full : ℕ
full = 4294967295
