-- The line that the program writes, at the start of a buffer.
use Rattle.std.specs.Prelude.{◌≡◌, List, [], ◌∷◌, ◌++◌, ℕ, length, Result, Ok, Err}
use Rattle.std.proofs.lemmas.List.Edits.{sets}
use Rattle.refusals.specs.declared.Refusal.{Refusal}
use Rattle.refusals.specs.Numbers.{number}
use Rattle.decimal.specs.Spelling.{spelled}
use Rattle.sheetdrain.specs.Drains.{script_drain}

-- "at most ", " steps more" with the byte that ends the line, "refused by "
abbrev pub at_most_text : List ℕ
at_most_text = 97 ∷ 116 ∷ 32 ∷ 109 ∷ 111 ∷ 115 ∷ 116 ∷ 32 ∷ []

abbrev pub steps_more_text : List ℕ
steps_more_text = 32 ∷ 115 ∷ 116 ∷ 101 ∷ 112 ∷ 115 ∷ 32 ∷ 109 ∷ 111 ∷ 114 ∷ 101 ∷ 10 ∷ []

abbrev pub refused_by_text : List ℕ
refused_by_text = 114 ∷ 101 ∷ 102 ∷ 117 ∷ 115 ∷ 101 ∷ 100 ∷ 32 ∷ 98 ∷ 121 ∷ 32 ∷ []

-- a number between two texts
abbrev pub between : List ℕ → ℕ → List ℕ → List ℕ
between first n last = first ++ (spelled n ++ last)

-- the line for what the length call answers
abbrev pub line_of : Result ℕ Refusal → List ℕ
line_of (Ok n) = between at_most_text n steps_more_text
line_of (Err k) = between refused_by_text (number k) (10 ∷ [])

-- the line for a script
abbrev pub script_line : List ℕ → List ℕ
script_line s = line_of (script_drain s)

-- what a writer of a text promises: r is how many bytes that is, and the buffer is left with them at its start and the rest as it was
abbrev pub Puts : List ℕ → List ℕ → ℕ → List ℕ → Type 0
Puts text line r left = (r ≡ length text) × (left ≡ sets line 0 text)
