-- The texts of a listing: its heading and its lines, each ended by byte 10.
use Rattle.std.specs.Prelude.{List, [], ◌∷◌, ◌++◌, ℕ, Result, Ok, Err}
use Rattle.refusals.specs.declared.Refusal.{Refusal}
use Rattle.refusals.specs.Numbers.{number}
use Rattle.rules.specs.Finished.{verdict}
use Rattle.rules.specs.declared.Board.{Board}
use Rattle.rules.specs.declared.Verdict.{Verdict}
use Rattle.rules.specs.declared.Verdict.TheVariants.{Working, Finished}
use Rattle.decimal.specs.Spelling.{spelled}
use Rattle.fields.specs.Fields.{tab}

-- "step", "answer", "debt", "state", parted by tabs
abbrev pub heading : List ℕ
heading = 115 ∷ 116 ∷ 101 ∷ 112 ∷ tab ∷ 97 ∷ 110 ∷ 115 ∷ 119 ∷ 101 ∷ 114 ∷ tab ∷ 100 ∷ 101 ∷ 98 ∷ 116 ∷ tab ∷ 115 ∷ 116 ∷ 97 ∷ 116 ∷ 101 ∷ 10 ∷ []

-- "finished", "working", "refused"
abbrev pub finished_word : List ℕ
finished_word = 102 ∷ 105 ∷ 110 ∷ 105 ∷ 115 ∷ 104 ∷ 101 ∷ 100 ∷ []

abbrev pub working_word : List ℕ
working_word = 119 ∷ 111 ∷ 114 ∷ 107 ∷ 105 ∷ 110 ∷ 103 ∷ []

abbrev pub refused_word : List ℕ
refused_word = 114 ∷ 101 ∷ 102 ∷ 117 ∷ 115 ∷ 101 ∷ 100 ∷ []

-- the cause of a refusal, of any type, is not told
abbrev pub state_word : {E : Type 0} → Result Verdict E → List ℕ
state_word (Ok Working) = working_word
state_word (Ok Finished) = finished_word
state_word (Err k) = refused_word

-- script line, answer, debt and a word, parted by tabs
unfoldable pub line_with : ℕ → ℕ → ℕ → List ℕ → List ℕ
line_with n k debt word = spelled n ++ ((tab ∷ spelled k) ++ ((tab ∷ spelled debt) ++ (tab ∷ word ++ 10 ∷ [])))

abbrev pub line_text : {E : Type 0} → ℕ → ℕ → ℕ → Result Verdict E → List ℕ
line_text n k debt v = line_with n k debt (state_word v)

-- a listing line: the board is the one after the script line
abbrev pub board_text : ℕ → ℕ → Board → List ℕ
board_text n k b = line_text n k b.debt (verdict b)

-- the line of a script whose first line is refused, or that is too long: 0, the number, 0 and the word refused
abbrev pub refused_text : Refusal → List ℕ
refused_text k = line_text 0 (number k) 0 (Err k)
