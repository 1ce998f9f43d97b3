-- The listing of a whole script, from its bytes to the listing's bytes.
use Rattle.std.specs.Prelude.{true, false, Result, Ok, Err, List, [], ◌∷◌, ◌++◌, ℕ, suc, length, drop}
use Rattle.refusals.specs.Numbers.{number_of}
use Rattle.refusals.specs.declared.Refusal.{Refusal}
use Rattle.refusals.specs.declared.Refusal.TheVariants.{BoardLine, ScriptTooLong}
use Rattle.rules.specs.Facts.{Check, check, at_most, judge}
use Rattle.rules.specs.Opening.{refused_by, opening}
use Rattle.rules.specs.Steps.{step}
use Rattle.rules.specs.declared.Board.{Board}
use Rattle.rules.specs.declared.Outcome.{Outcome}
use Rattle.rules.specs.declared.StepRecord.{StepRecord}
use Rattle.fields.specs.Fields.{up_to}
use Rattle.numbers.specs.Lines.{lines_of}
use Rattle.script.specs.Lines.{reading, parents_of, step_by}
use Rattle.script.specs.declared.Line.{Line as ScriptLine}
use Rattle.script.specs.declared.Line.TheVariants.{Opens, Asks}
use Rattle.texts.specs.Texts.{heading, board_text, refused_text}

-- ---- the start of a script: the outcome of its first line
-- the first line opens the board, by its parents ps, or the listing is one refused line. (A step there has been refused by 25)
abbrev pub first_outcome : List ℕ → Result ScriptLine Refusal → Outcome
first_outcome ps (Ok (Opens m d n)) = opening m d ps
first_outcome ps (Ok (Asks r)) = refused_by BoardLine
first_outcome ps (Err k) = refused_by k

-- 26 script over 65,535 bytes, before all; 25 first line missing: a script of no byte has none
abbrev pub script_checks : List ℕ → List Check
script_checks s = check (at_most (length s) 65535) ScriptTooLong ∷ check (at_most 1 (length s)) BoardLine ∷ []

unfoldable pub start_outcome : List ℕ → Outcome
start_outcome s = judge refused_by (script_checks s) (first_outcome (parents_of (up_to 10 s)) (reading true (up_to 10 s)))

-- ---- the lines behind it
-- a step is taken on the board; a bad line leaves the board as it was. (A board line has been refused by 25)
abbrev pub step_outcome : Board → Result StepRecord Refusal → Outcome
step_outcome b (Ok r) = step b r
step_outcome b (Err k) = record { answer = Err k; board = b }

abbrev pub later_outcome : Board → List ℕ → Outcome
later_outcome b l = step_outcome b (step_by (reading false l))

-- ---- the listing
-- a line of it: the script line's number, its answer, and the board after it
pub record Line : Type 0 where
  pub number : ℕ
  pub answer : ℕ
  pub board : Board

unfoldable pub text_of : List Line → List ℕ
text_of [] = []
text_of (l ∷ ls) = board_text l.number l.answer l.board ++ text_of ls

-- from number n and board b on, for the script lines ls
unfoldable pub later_lines : ℕ → Board → List (List ℕ) → List Line
later_lines n b [] = []
later_lines n b (l ∷ ls) = record { number = n; answer = number_of (later_outcome b l).answer; board = (later_outcome b l).board } ∷ later_lines (suc n) (later_outcome b l).board ls

-- all lines, where the board line opens the board b
abbrev pub opened_lines : Board → List (List ℕ) → List Line
opened_lines b ls = record { number = 0; answer = 0; board = b } ∷ later_lines 1 b ls

-- else one refused line
abbrev pub text_by : Result (Unit {0}) Refusal → List Line → List ℕ
text_by (Ok _) ls = text_of ls
text_by (Err k) ls = refused_text k

abbrev pub opened_text : Outcome → List (List ℕ) → List ℕ
opened_text o ls = text_by o.answer (opened_lines o.board ls)

unfoldable pub listing : List ℕ → List ℕ
listing s = heading ++ opened_text (start_outcome s) (drop 1 (lines_of s))
