-- Lists on a board: of steps, and of events, which are steps, beginnings and visits (M-105).
use Rattle.std.specs.Prelude.{Bool, List, [], ◌∷◌, ℕ}
use Rattle.rules.specs.Events.{Events, after_all, all_answers, accepts}
use Rattle.refusals.specs.Numbers.{number_of}
use Rattle.rules.specs.Sheets.Sheet.{Sheet}
use Rattle.rules.specs.Boards.{view}
use Rattle.rules.specs.Steps.{step}
use Rattle.rules.specs.Visits.{begin, visit}
use Rattle.rules.specs.Records.{Board, StepRecord}

-- steps: each gets the board that the step before it returned; after a refusal that is the same board
abbrev pub steps : Events Board StepRecord
steps = record { next = λ b r. (step b r).board; answer = λ b r. number_of (step b r).answer }

abbrev pub after : Board → List StepRecord → Board
after b rs = after_all steps b rs

abbrev pub answers : Board → List StepRecord → List ℕ
answers b rs = all_answers steps b rs

abbrev pub accepted : Board → StepRecord → Bool
accepted b r = accepts steps b r

-- ---- events
pub data Event : Type 0 where
  takes : StepRecord → Event
  begins : Event
  visits : ℕ → Event

abbrev pub next_by : Board → Event → Board
next_by b (takes r) = (step b r).board
next_by b begins = (begin b).board
next_by b (visits u) = (visit b u).board

abbrev pub answer_by : Board → Event → ℕ
answer_by b (takes r) = number_of (step b r).answer
answer_by b begins = number_of (begin b).answer
answer_by b (visits u) = number_of (visit b u).finding

abbrev pub events : Events Board Event
events = record { next = next_by; answer = answer_by }

-- steps as events
unfoldable pub taking : List StepRecord → List Event
taking [] = []
taking (r ∷ rs) = takes r ∷ taking rs

-- what an event counts for, by a count of steps on sheets; a beginning and a visit count for nothing
abbrev pub count_by : (Sheet → StepRecord → ℕ) → Board → Event → ℕ
count_by count b (takes r) = count (view b) r
count_by count b begins = 0
count_by count b (visits u) = 0
