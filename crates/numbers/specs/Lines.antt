-- The lines of a text.
use Rattle.std.specs.Prelude.{◌≡◌, List, [], ◌∷◌, ℕ, zero, suc, ◌-◌, length, drop}
use Rattle.fields.specs.Fields.{up_to, past, count_of, end_from}
use Rattle.numbers.specs.declared.LineAt.{LineAt}

-- lines ended by byte 10; a last line may lack it, and after a last byte 10 no further line begins. A line has at least one byte of the
-- text, its own or its byte 10, so the text's length is turns enough
unfoldable pub lines_within : ℕ → List ℕ → List (List ℕ)
lines_within zero s = []
lines_within (suc k) [] = []
lines_within (suc k) (c ∷ cs) = up_to 10 (c ∷ cs) ∷ lines_within k (past 10 (c ∷ cs))

abbrev pub lines_of : List ℕ → List (List ℕ)
lines_of s = lines_within (length s) s

-- each line has its byte 10: there are as many of these as lines
abbrev pub all_ended : List ℕ → Type 0
all_ended s = length (lines_of s) ≡ count_of 10 s

-- behind the line at a place
abbrev pub behind : ℕ → List ℕ → ℕ
behind at s = length s - length (past 10 (drop at s))

-- where the line at a place ends, and the place behind it
abbrev pub line_at : ℕ → List ℕ → LineAt
line_at at s = record { end = end_from 10 at s; next = behind at s }
