-- What the numbers of refusals have in common.
use Rattle.std.proofs.Common.{◌≡◌, refl, ℕ, ◌≤◌, ◌<◌, arith, true, false, Result, Ok, Err, is_ok}
use Rattle.refusals.specs.Numbers.{number, number_of}
use Rattle.refusals.specs.declared.Refusal.{Refusal}
use Rattle.refusals.specs.declared.Refusal.TheVariants.{BoardSize, ParentOrder, NoSuchUnit, NoSuchSlot, ShortAnswers, NoSuchKind, LineTooLong, UnknownWord, WrongFieldCount, NoNumber, BoardLine, ScriptTooLong, NoRoom, PaddedNumber, NotSound, NotActive, Suspended, TooLight, SlotFilled, SlotEmpty, PastCeiling, DebtLeft, NotWaiting, CountdownOver, CountdownRuns, CanShare, StillActive, NotToVisit, CountFull, CensusSize, ParentNotLower, WorkLeft, NoFreeSlot, ShortList}

-- each is above 0, which is the number of no refusal, and has two digits at most
abbrev pub TwoDigits : ℕ → Type 0
TwoDigits k = (1 ≤ k) × (k < 100)

pub two_digits : (k : Refusal) → TwoDigits (number k)
two_digits BoardSize = omega arith
two_digits ParentOrder = omega arith
two_digits NoSuchUnit = omega arith
two_digits NoSuchSlot = omega arith
two_digits ShortAnswers = omega arith
two_digits NoSuchKind = omega arith
two_digits LineTooLong = omega arith
two_digits UnknownWord = omega arith
two_digits WrongFieldCount = omega arith
two_digits NoNumber = omega arith
two_digits BoardLine = omega arith
two_digits ScriptTooLong = omega arith
two_digits NoRoom = omega arith
two_digits PaddedNumber = omega arith
two_digits NotSound = omega arith
two_digits NotActive = omega arith
two_digits Suspended = omega arith
two_digits TooLight = omega arith
two_digits SlotFilled = omega arith
two_digits SlotEmpty = omega arith
two_digits PastCeiling = omega arith
two_digits DebtLeft = omega arith
two_digits NotWaiting = omega arith
two_digits CountdownOver = omega arith
two_digits CountdownRuns = omega arith
two_digits CanShare = omega arith
two_digits StillActive = omega arith
two_digits NotToVisit = omega arith
two_digits CountFull = omega arith
two_digits CensusSize = omega arith
two_digits ParentNotLower = omega arith
two_digits WorkLeft = omega arith
two_digits NoFreeSlot = omega arith
two_digits ShortList = omega arith

-- so has every answer, but that of an accepted call is 0
pub answer_short : {A : Type 0} (r : Result A Refusal) → number_of r < 100
answer_short (Ok x) = omega arith
answer_short (Err k) = (two_digits k).1

pub refused_above_zero : (k : Refusal) → number k ≡ 0 → ⊥
refused_above_zero k e = omega (arith, (two_digits k).0, e)

-- an answer is accepted exactly where its number is 0
pub accepted_ok : {A : Type 0} (r : Result A Refusal) → number_of r ≡ 0 → is_ok r ≡ true
accepted_ok (Ok x) e = refl
accepted_ok (Err k) e = absurd (refused_above_zero k e)

pub refused_not_ok : {A : Type 0} (r : Result A Refusal) → (number_of r ≡ 0 → ⊥) → is_ok r ≡ false
refused_not_ok (Ok x) n = absurd (n refl)
refused_not_ok (Err k) n = refl

pub accepted_is : (r : Result (Unit {0}) Refusal) → number_of r ≡ 0 → r ≡ Ok tt
accepted_is (Ok tt) e = refl
accepted_is (Err k) e = absurd (refused_above_zero k e)
