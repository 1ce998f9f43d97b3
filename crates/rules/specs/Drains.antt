-- Drains of a board: its sheet's, by steps on the board.
use Rattle.std.specs.Prelude.{List, ℕ}
use Rattle.rules.specs.Events.{DrainOf}
use Rattle.rules.specs.Boards.{view}
use Rattle.rules.specs.Lists.{steps}
use Rattle.rules.specs.Sheets.Lists.{undrained_count}
use Rattle.rules.specs.Sheets.Drains.{Quiet as QuietSheet, drain_bound as sheet_drain_bound}
use Rattle.rules.specs.Records.{Board, StepRecord}

-- no unit is active and no work is under way
abbrev pub Quiet : Board → Type 0
Quiet b = QuietSheet (view b)

abbrev pub Drain : Board → List StepRecord → Type 0
Drain b rs = DrainOf steps (λ c. undrained_count (view c)) b rs

abbrev pub drain_bound : Board → ℕ
drain_bound b = sheet_drain_bound (view b)
