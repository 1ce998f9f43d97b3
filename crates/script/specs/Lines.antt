-- Reading a line of a script, handed over without its byte 10.
use Rattle.std.specs.Prelude.{Bool, true, false, cond, Result, Ok, Err, List, [], ◌∷◌, map, ℕ, zero, suc, ◌-◌, length, get_or, drop}
use Rattle.refusals.specs.Numbers.{number_of}
use Rattle.refusals.specs.declared.Refusal.{Refusal}
use Rattle.refusals.specs.declared.Refusal.TheVariants.{LineTooLong, UnknownWord, WrongFieldCount, BoardLine as WrongPlace}
use Rattle.rules.specs.Facts.{Fact, Check, check, at_most, equal, holds, judge}
use Rattle.rules.specs.Actions.{action_of, kinds}
use Rattle.rules.specs.Letters.{letters, record_from}
use Rattle.rules.specs.declared.StepRecord.{StepRecord}
use Rattle.rules.specs.declared.Action.{Action}
use Rattle.fields.specs.Fields.{field_of, field_count}
use Rattle.numbers.specs.Numbers.{fields_of, values, FieldCheck, field_checks, padded, room}
use Rattle.script.specs.Words.{word_number}
use Rattle.script.specs.declared.BoardLine.{BoardLine}
use Rattle.script.specs.declared.Line.{Line}
use Rattle.script.specs.declared.Line.TheVariants.{Opens, Asks}

-- the fields behind the word
abbrev pub arguments : List ℕ → List (List ℕ)
arguments l = drop 1 (fields_of l)

-- ---- what a line says
-- board has M, d, then 0 or more parents; a step has its letters
abbrev pub right_count : ℕ → ℕ → Fact
right_count zero fields = at_most 3 fields
right_count (suc k) fields = equal fields (suc (length (letters (action_of (suc k)))))

-- 25 first line not board, or board later
abbrev pub right_place : Bool → ℕ → Fact
right_place true w = equal w 0
right_place false w = at_most 1 w

-- what is asked of the number fields
abbrev pub check_of : FieldCheck → Check
check_of c = check (holds c.passes) c.refusal

-- 21 line over 255 bytes, 22 unknown word, 25, 23 wrong count of fields, then 28 (M-101) and 24 of the number fields: in this order
abbrev pub line_checks : Bool → List ℕ → List Check
line_checks first l =
    check (at_most (length l) 255) LineTooLong
    ∷ check (at_most (word_number (field_of 0 l)) kinds) UnknownWord
    ∷ check (right_place first (word_number (field_of 0 l))) WrongPlace
    ∷ check (right_count (word_number (field_of 0 l)) (field_count l)) WrongFieldCount
    ∷ map check_of (field_checks (arguments l))

-- a step record of a kind from its letters' values, with 0 in the fields that the kind has no letter for
abbrev pub record_by : ℕ → List ℕ → Action → StepRecord
record_by k vs a = record_from k 0 (letters a) vs

-- M, d and the number of parents, or a step
abbrev pub line_by : ℕ → List ℕ → Line
line_by zero vs = Opens (get_or vs 0 0) (get_or vs 1 0) (length vs - 2)
line_by (suc k) vs = Asks (record_by (suc k) vs (action_of (suc k)))

unfoldable pub reading : Bool → List ℕ → Result Line Refusal
reading first l = judge Err (line_checks first l) (Ok (line_by (word_number (field_of 0 l)) (values (arguments l))))

-- the parents of a board line
unfoldable pub parents_of : List ℕ → List ℕ
parents_of l = drop 2 (values (arguments l))

abbrev pub is_opening : Result Line Refusal → Bool
is_opening (Ok (Opens m d n)) = true
is_opening (Ok (Asks r)) = false
is_opening (Err k) = false

-- a first line with its parents, and zeros behind them; it has parents only where it opens a board
unfoldable pub board_line : List ℕ → BoardLine
board_line l = record { reading = reading true l; parents = padded room (cond (is_opening (reading true l)) (parents_of l) []) }

-- the step of a line where one is due: a board line is refused by 25
abbrev pub step_of : Line → Result StepRecord Refusal
step_of (Opens m d n) = Err WrongPlace
step_of (Asks r) = Ok r

abbrev pub step_by : Result Line Refusal → Result StepRecord Refusal
step_by (Ok l) = step_of l
step_by (Err k) = Err k

-- the number that refuses a line where a step is due: 25 for a board line, 0 for a step
abbrev pub refusal_by : Result Line Refusal → ℕ
refusal_by x = number_of (step_by x)
