-- The numbers that refuse a call.
use Rattle.std.specs.Prelude.{ℕ, Result, Ok, Err}
pub use Rattle.refusals.specs.declared.Refusal.{Refusal}
pub use Rattle.refusals.specs.declared.Refusal.TheVariants.{BoardSize, ParentOrder, NoSuchUnit, NoSuchSlot, ShortAnswers, NoSuchKind, LineTooLong, UnknownWord, WrongFieldCount, NoNumber, BoardLine, ScriptTooLong, NoRoom, PaddedNumber, NotSound, NotActive, Suspended, TooLight, SlotFilled, SlotEmpty, PastCeiling, DebtLeft, NotWaiting, CountdownOver, CountdownRuns, CanShare, StillActive, NotToVisit, CountFull, CensusSize, ParentNotLower, WorkLeft, NoFreeSlot, ShortList}

abbrev pub number : Refusal → ℕ
number BoardSize = 11
number ParentOrder = 12
number NoSuchUnit = 13
number NoSuchSlot = 14
number ShortAnswers = 15
number NoSuchKind = 16
number LineTooLong = 21
number UnknownWord = 22
number WrongFieldCount = 23
number NoNumber = 24
number BoardLine = 25
number ScriptTooLong = 26
number NoRoom = 27
number PaddedNumber = 28
number NotSound = 30
number NotActive = 31
number Suspended = 32
number TooLight = 33
number SlotFilled = 34
number SlotEmpty = 35
number PastCeiling = 36
number DebtLeft = 37
number NotWaiting = 38
number CountdownOver = 39
number CountdownRuns = 40
number CanShare = 41
number StillActive = 42
number NotToVisit = 43
number CountFull = 44
number CensusSize = 46
number ParentNotLower = 47
number WorkLeft = 48
number NoFreeSlot = 49
number ShortList = 50

-- the number of an answer: 0 where the call is accepted
abbrev pub number_of : {A : Type 0} → Result A Refusal → ℕ
number_of (Ok _) = 0
number_of (Err k) = number k
