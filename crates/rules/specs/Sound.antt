-- A sound board: its sheet is sound, and so are its counting rounds (M-105).
use Rattle.std.specs.Prelude.{Bool, List, [], ◌∷◌}
use Rattle.rules.specs.Facts.{Fact, holds, tests}
use Rattle.rules.specs.Rounds.{SoundRounds, rounds_row}
use Rattle.rules.specs.Boards.{view, seen_of}
use Rattle.rules.specs.Sheets.Sound.{Sound as SoundSheet, sound as sheet_sound}
use Rattle.rules.specs.Records.{Board}

pub record Sound (b : Board) : Type 0 where
  pub sheet : SoundSheet (view b)
  pub rounds : SoundRounds (seen_of (view b)) b.rounds

-- the same, tested
abbrev pub sound_row : Board → List Fact
sound_row b = holds (sheet_sound (view b)) ∷ holds (tests (rounds_row (seen_of (view b)) b.rounds)) ∷ []

unfoldable pub sound : Board → Bool
sound b = tests (sound_row b)
