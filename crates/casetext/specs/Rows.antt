-- What programs that execute cases write alike: a row of numbers, and what finished tells.
use Rattle.std.specs.Prelude.{List, [], ◌∷◌, ◌++◌, ℕ, take, Result, Ok, Err}
use Rattle.refusals.specs.declared.Refusal.{Refusal}
use Rattle.rules.specs.declared.Verdict.{Verdict}
use Rattle.rules.specs.declared.Verdict.TheVariants.{Working, Finished}
use Rattle.decimal.specs.Spelling.{spelled}
use Rattle.fields.specs.Fields.{tab}
use Rattle.texts.specs.Texts.{finished_word, working_word}

-- numbers, each behind a tab, and the line's end
unfoldable pub cells_text : List ℕ → List ℕ
cells_text [] = 10 ∷ []
cells_text (n ∷ ns) = (tab ∷ spelled n) ++ cells_text ns

-- numbers parted by tabs, and the line's end
abbrev pub cells_row : ℕ → List ℕ → List ℕ
cells_row first ns = spelled first ++ cells_text ns

-- "working", "finished", or the number that refuses
abbrev pub verdict_text : Result Verdict ℕ → List ℕ
verdict_text (Ok Working) = working_word
verdict_text (Ok Finished) = finished_word
verdict_text (Err k) = spelled k

-- the bytes that a writer put at the start of a buffer, none where it was refused
abbrev pub bytes_put : Result ℕ Refusal → List ℕ → List ℕ
bytes_put (Ok n) out = take n out
bytes_put (Err k) out = []
