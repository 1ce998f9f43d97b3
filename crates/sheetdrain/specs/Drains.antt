-- What the program tells of a script.
use Rattle.std.specs.Prelude.{List, ℕ, Result, Ok, Err}
use Rattle.refusals.specs.declared.Refusal.{Refusal}
use Rattle.rules.specs.declared.Board.{Board}
use Rattle.listing.specs.Endings.{end_outcome}
use Rattle.drains.specs.Calls.{length_answer}

-- the length of the longest drain from the board after the script's last line; where its first line is refused, that refusal
abbrev pub drain_by : Result (Unit {0}) Refusal → Board → Result ℕ Refusal
drain_by (Ok _) b = length_answer b
drain_by (Err k) b = Err k

unfoldable pub script_drain : List ℕ → Result ℕ Refusal
script_drain s = drain_by (end_outcome s).answer (end_outcome s).board
