-- The three sorts of boards that a census counts (M-106).
use Rattle.std.specs.Prelude.{Bool, true, false, not, ◌&&◌, Result, Ok, Err}
use Rattle.refusals.specs.declared.Refusal.{Refusal}
use Rattle.rules.specs.Finished.{verdict}
use Rattle.rules.specs.Busy.{is_busy}
use Rattle.rules.specs.declared.Board.{Board}
use Rattle.rules.specs.declared.Verdict.{Verdict}
use Rattle.rules.specs.declared.Verdict.TheVariants.{Working, Finished}

abbrev pub says_finished : Result Verdict Refusal → Bool
says_finished (Ok Working) = false
says_finished (Ok Finished) = true
says_finished (Err k) = false

-- "the board is finished"
unfoldable pub is_finished : Board → Bool
is_finished b = says_finished (verdict b)

-- "the rest"
abbrev pub is_other : Board → Bool
is_other b = not (is_finished b) && not (is_busy b)
