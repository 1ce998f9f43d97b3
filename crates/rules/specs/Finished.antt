-- Finished: what is told of a board, and what it is to mean.
use Rattle.std.specs.Prelude.{[], ◌∷◌, Result, Ok, Err}
use Rattle.refusals.specs.declared.Refusal.{Refusal}
use Rattle.refusals.specs.declared.Refusal.TheVariants.{NotSound}
use Rattle.rules.specs.Facts.{check, holds, judge}
use Rattle.rules.specs.Boards.{view}
use Rattle.rules.specs.Sound.{sound}
use Rattle.rules.specs.Sheets.Finished.{Complete as CompleteSheet, told_from}
use Rattle.rules.specs.Records.{Board, Verdict}

-- "Finished .. is told from the debt of a sound board; an unsound one gets 30"
unfoldable pub verdict : Board → Result Verdict Refusal
verdict b = judge Err (check (holds (sound b)) NotSound ∷ []) (Ok (told_from b.debt))

-- every unit is idle and every slot empty
abbrev pub Complete : Board → Type 0
Complete b = CompleteSheet (view b)
