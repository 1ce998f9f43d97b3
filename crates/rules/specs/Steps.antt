-- A step on a board: its sheet's step, and an accepted start drops the counting rounds (M-105).
use Rattle.std.specs.Prelude.{cond, ◌&&◌, [], ◌∷◌, Result, Err, is_ok}
use Rattle.refusals.specs.declared.Refusal.{Refusal}
use Rattle.refusals.specs.declared.Refusal.TheVariants.{NotSound}
use Rattle.rules.specs.Facts.{check, holds, judge}
use Rattle.rules.specs.Actions.{action_of, is_action}
use Rattle.rules.specs.Rounds.{no_round}
use Rattle.rules.specs.Boards.{view, board_of}
use Rattle.rules.specs.Sound.{sound}
use Rattle.rules.specs.Sheets.Sheet.{Outcome as SheetOutcome}
use Rattle.rules.specs.Sheets.Steps.{sound_step as sheet_sound_step}
use Rattle.rules.specs.Records.{Action, Start, Rounds, Board, StepRecord, Outcome}

-- "A start drops the rounds without verdict"
abbrev pub rounds_kept : Result (Unit {0}) Refusal → Action → Rounds → Rounds
rounds_kept answer a k = cond (is_ok answer && is_action Start a) no_round k

-- a step's outcome on the sheet, as one on the board whose rounds are k
abbrev pub on_board : Rounds → Action → SheetOutcome → Outcome
on_board k a o = record { answer = o.answer; board = board_of o.sheet (rounds_kept o.answer a k) }

-- a step on a board known to be sound
unfoldable pub sound_step : Board → StepRecord → Outcome
sound_step b r = on_board b.rounds (action_of r.kind) (sheet_sound_step (view b) r)

-- a step on any board: "30 precedes all"
unfoldable pub step : Board → StepRecord → Outcome
step b r = judge (λ k. record { answer = Err k; board = b }) (check (holds (sound b)) NotSound ∷ []) (sound_step b r)
