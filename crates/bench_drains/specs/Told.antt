-- The board to measure on, and what is told of its longest drain as one number.
use Rattle.std.specs.Prelude.{List, ℕ, ◌+◌, Result, Ok, Err}
use Rattle.rules.specs.Opening.{opening}
use Rattle.rules.specs.Lists.{after}
use Rattle.rules.specs.declared.Board.{Board}
use Rattle.refusals.specs.declared.Refusal.{Refusal}
use Rattle.refusals.specs.Numbers.{number}
use Rattle.bench.specs.Records.{records_in}

-- the board that is opened, after a list of steps
unfoldable pub stepped_board : ℕ → ℕ → List ℕ → List ℕ → Board
stepped_board m d ps xs = after (opening m d ps).board (records_in xs)

-- the length, or the number that refused to tell it, from 4294967296 on
abbrev pub drain_told : Result ℕ Refusal → ℕ
drain_told (Ok n) = n
drain_told (Err k) = 4294967296 + number k
