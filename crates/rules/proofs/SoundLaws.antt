-- Soundness of a board: its test and its claims agree.
use mathlib.Core.Path.{◌≡◌}
use mathlib.Core.Bool.{true}
use Rattle.rules.specs.Boards.{view, seen_of}
use Rattle.rules.specs.Sound.{Sound, sound_row, sound}
use Rattle.rules.proofs.FactLaws.{claims, claims_tested}
use Rattle.rules.proofs.RoundSound.{rounds_claims, rounds_tested}
pub use Rattle.rules.proofs.Sheets.SoundLaws.{row_past, row_of, below_or_not}
use Rattle.rules.proofs.Sheets.SoundLaws as of-sheets
use Rattle.rules.specs.Records.{Board}

pub sound_claims : (b : Board) → sound b ≡ true → Sound b
unfolding sound
sound_claims b e =
    let t = claims (sound_row b) e in
    record { sheet = of-sheets.sound_claims (view b) t.0; rounds = rounds_claims (seen_of (view b)) b.rounds t.1.0 }

pub sound_tested : (b : Board) → Sound b → sound b ≡ true
unfolding sound
sound_tested b h = claims_tested (sound_row b) (of-sheets.sound_tested (view b) h.sheet, (rounds_tested (seen_of (view b)) b.rounds h.rounds, tt))
