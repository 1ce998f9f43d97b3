-- Worked cases of the definitions: rows of one table, and a board that is stuck.
use Rattle.std.specs.Prelude.{◌≡◌, true, false, ℕ, length, replicate, Ok}
use Rattle.refusals.specs.Numbers.{number, number_of}
use mathlib.Core.List.{List, [], ◌∷◌}
use Rattle.rules.specs.Facts.{judge}
use Rattle.rules.specs.Records.{blank_unit, blank_slot, ceiling, Active, Work, Request, Action, Start, Send, UnitRecord, Slot, Board, StepRecord, Verdict, Working, Finished}
use Rattle.rules.specs.Sound.{Sound}
use Rattle.rules.specs.Opening.{idle_board, opening}
use Rattle.rules.specs.Effects.{share, message, record_checks}
use Rattle.rules.specs.Sheets.Steps.{changed}
use Rattle.rules.specs.Sheets.Longest.{longest_length, longest_list}
use Rattle.rules.specs.Rounds.{no_round}
use Rattle.rules.specs.Boards.{view, board_of}
use Rattle.rules.specs.Steps.{step}
use Rattle.rules.specs.Lists.{after, answers}
use Rattle.rules.specs.Finished.{verdict}
use Rattle.rules.specs.Drains.{Quiet, Drain, drain_bound}

-- ---- steps as they are asked for
abbrev pub asks : ℕ → ℕ → ℕ → ℕ → StepRecord
asks k u v s = record { kind = k; unit = u; other = v; slot = s }

abbrev pub start : ℕ → StepRecord
start u = asks 1 u 0 0

abbrev pub send : ℕ → ℕ → ℕ → StepRecord
send u v s = asks 2 u v s

abbrev pub request : ℕ → ℕ → StepRecord
request u s = asks 3 u 0 s

abbrev pub deliver : ℕ → StepRecord
deliver s = asks 4 0 0 s

abbrev pub rest : ℕ → StepRecord
rest u = asks 5 u 0 0

abbrev pub tick : ℕ → StepRecord
tick u = asks 6 u 0 0

abbrev pub release : ℕ → ℕ → StepRecord
release u s = asks 7 u 0 s

abbrev pub move : ℕ → ℕ → StepRecord
move u p = asks 8 u p 0

-- ---- a row: a share, the number by which a step is refused on its records (0 for none), an opening's answer, or an accepted opening and a list of steps with their answers and the verdict after
-- them, or with a drain after them and the bound that it has there, or with the longest drain after them by a free slot
pub data Row : Type 0 where
  shares : ℕ → ℕ → Row
  judges : ℕ → UnitRecord → Slot → ℕ → Action → ℕ → Row
  opens : ℕ → ℕ → List ℕ → ℕ → Row
  runs : ℕ → ℕ → List ℕ → List StepRecord → List ℕ → Verdict → Row
  bound_is : ℕ → ℕ → List ℕ → List StepRecord → List StepRecord → ℕ → Row
  longest : ℕ → ℕ → List ℕ → List StepRecord → ℕ → List StepRecord → Row

-- a drain from b, and the bound
pub record Drained (b : Board) (rs : List StepRecord) (bound : ℕ) : Type 0 where
  pub quiet : Quiet b
  pub drain : Drain b rs
  pub bounds : drain_bound b ≡ bound

-- the longest drain from b by the slot s, and its length
pub record LongestShown (b : Board) (s : ℕ) (rs : List StepRecord) : Type 0 where
  pub listed : longest_list (view b) s ≡ rs
  pub long : longest_length (view b) ≡ length rs

-- one that has as many steps as the bound
abbrev pub attains : ℕ → ℕ → List ℕ → List StepRecord → List StepRecord → Row
attains m d ps rs ds = bound_is m d ps rs ds (length ds)

abbrev pub Right : Row → Type 0
Right (shares w given) = share w ≡ given
Right (judges debt x y made a k) = judge number (record_checks debt x y made a) 0 ≡ k
Right (opens m d ps k) = number_of (opening m d ps).answer ≡ k
Right (runs m d ps rs ks v) = (number_of (opening m d ps).answer ≡ 0) × (answers (opening m d ps).board rs ≡ ks) × (verdict (after (opening m d ps).board rs) ≡ Ok v)
Right (bound_is m d ps rs ds k) = (number_of (opening m d ps).answer ≡ 0) × (Drained (after (opening m d ps).board rs) ds k)
Right (longest m d ps rs s ds) = (number_of (opening m d ps).answer ≡ 0) × (LongestShown (after (opening m d ps).board rs) s ds)

abbrev pub AllRight : List Row → Type 0
AllRight [] = Unit {0}
AllRight (row ∷ rows) = Right row × AllRight rows

-- unit 1 of three gets 16,384 and sends 1,024 of it on to unit 2, which sends ten times: that leaves it weight 1
abbrev pub to_weight_one : List StepRecord → List StepRecord
to_weight_one more =
    start 0
    ∷ send 0 1 0
    ∷ deliver 0
    ∷ send 1 2 0
    ∷ deliver 0
    ∷ send 2 0 0
    ∷ send 2 0 1
    ∷ send 2 0 2
    ∷ send 2 0 3
    ∷ send 2 0 4
    ∷ send 2 0 5
    ∷ send 2 0 6
    ∷ send 2 0 7
    ∷ send 2 0 8
    ∷ send 2 0 9
    ∷ more

abbrev pub all_accepted : ℕ → List ℕ → List ℕ
all_accepted n more = mathlib.Core.List.◌++◌ (replicate n 0) more

-- the whole case, up to the rest of unit 1 and after it
abbrev pub whole_to_rest : List StepRecord
whole_to_rest = start 0 ∷ send 0 1 0 ∷ rest 0 ∷ deliver 0 ∷ rest 1 ∷ []

abbrev pub whole_case : List StepRecord
whole_case = start 0 ∷ send 0 1 0 ∷ rest 0 ∷ deliver 0 ∷ rest 1 ∷ release 1 1 ∷ tick 1 ∷ release 1 1 ∷ deliver 1 ∷ []

-- a chain of three, d = 2: units 1 and 2 rest, and the return of unit 2 reaches unit 1 when that has ticked so often
abbrev pub to_return : ℕ → List StepRecord → List StepRecord
to_return ticks more = start 2 ∷ send 2 1 0 ∷ deliver 0 ∷ rest 1 ∷ rest 2 ∷ tick 2 ∷ tick 2 ∷ release 2 0 ∷ mathlib.Core.List.◌++◌ (replicate ticks (tick 1)) (deliver 0 ∷ more)

-- with countdown 2 unit 1 is released after two ticks and not before
abbrev pub from_two : List StepRecord
from_two = release 1 0 ∷ tick 1 ∷ release 1 0 ∷ tick 1 ∷ tick 1 ∷ release 1 0 ∷ deliver 0 ∷ []

-- units 1 and 2 rest, having worked at once
abbrev pub both_rest : List StepRecord
both_rest = start 1 ∷ send 1 2 0 ∷ deliver 0 ∷ rest 1 ∷ rest 2 ∷ []

-- d = 1, units 2 and 3 under unit 1: unit 3 waits with countdown 0, and the return of unit 2 to unit 1 is under way in slot 0
abbrev pub return_and_wait : List StepRecord
return_and_wait = start 2 ∷ send 2 3 0 ∷ deliver 0 ∷ rest 2 ∷ rest 3 ∷ tick 2 ∷ tick 3 ∷ release 2 0 ∷ []

abbrev pub active : ℕ → UnitRecord
active w = record { weight = w; countdown = 0; state = Active; suspended = false }

unfoldable pub rows : List Row
rows =
    shares 2 1
    ∷ shares 3 1
    ∷ shares 2047 1023
    ∷ shares 2048 1024
    ∷ shares 2050 1024
    ∷ shares 4095 1024
    ∷ shares 1048575 1024
    ∷ shares 1048576 16384
    ∷ shares 1048577 16384
    ∷ shares 16777216 16384
    ∷ judges 0 blank_unit blank_slot 4294967294 Start 0
    ∷ judges 0 blank_unit blank_slot 4294967295 Start 44
    ∷ judges 1 blank_unit blank_slot 4294967295 Start 37
    ∷ judges 2 (active 2) blank_slot 4294967294 Send 0
    ∷ judges 2 (active 2) blank_slot 4294967295 Send 44
    ∷ judges 3 (active 2) (message Work 0 0 1) 4294967295 Send 34
    ∷ judges 1 (active 1) blank_slot 4294967295 Send 33
    ∷ runs 11 0 (0 ∷ 1 ∷ []) (to_weight_one (send 2 0 10 ∷ [])) (all_accepted 15 (33 ∷ [])) Working
    ∷ runs 11 0 (0 ∷ 1 ∷ []) (to_weight_one (send 2 0 9 ∷ send 1 0 9 ∷ [])) (all_accepted 15 (33 ∷ 34 ∷ [])) Working
    ∷ runs 1 0 [] (start 0 ∷ start 0 ∷ []) (0 ∷ 37 ∷ []) Working
    ∷ runs 1 0 (0 ∷ []) (start 0 ∷ send 0 1 0 ∷ deliver 0 ∷ rest 1 ∷ release 1 0 ∷ []) (all_accepted 5 []) Working
    ∷ runs 1 0 [] (start 0 ∷ rest 0 ∷ []) (0 ∷ 0 ∷ []) Finished
    ∷ runs 11 0 (0 ∷ 1 ∷ []) (to_weight_one (request 2 10 ∷ rest 2 ∷ [])) (all_accepted 16 (32 ∷ [])) Working
    ∷ opens 1 0 (1 ∷ []) 12
    ∷ runs 2 1 (0 ∷ []) whole_case (0 ∷ 0 ∷ 0 ∷ 0 ∷ 0 ∷ 40 ∷ 0 ∷ 0 ∷ 0 ∷ []) Finished
    ∷ runs 1 2 (0 ∷ 1 ∷ []) (start 2 ∷ rest 2 ∷ tick 2 ∷ tick 2 ∷ release 2 0 ∷ deliver 0 ∷ from_two) (all_accepted 6 (40 ∷ 0 ∷ 40 ∷ 0 ∷ 39 ∷ 0 ∷ 0 ∷ [])) Finished
    ∷ runs 1 2 (0 ∷ 1 ∷ []) (to_return 0 from_two) (all_accepted 9 (40 ∷ 0 ∷ 40 ∷ 0 ∷ 39 ∷ 0 ∷ 0 ∷ [])) Finished
    ∷ runs 1 2 (0 ∷ 1 ∷ []) (to_return 1 (release 1 0 ∷ tick 1 ∷ tick 1 ∷ release 1 0 ∷ deliver 0 ∷ [])) (all_accepted 10 (40 ∷ 0 ∷ 39 ∷ 0 ∷ 0 ∷ [])) Finished
    ∷ runs 1 2 (0 ∷ 1 ∷ []) (to_return 2 (release 1 0 ∷ deliver 0 ∷ [])) (all_accepted 13 []) Finished
    ∷ bound_is 2 1 (0 ∷ []) whole_to_rest (tick 1 ∷ release 1 1 ∷ deliver 1 ∷ []) 4
    ∷ bound_is 1 1 (0 ∷ 0 ∷ []) both_rest (tick 1 ∷ release 1 0 ∷ deliver 0 ∷ tick 2 ∷ release 2 0 ∷ deliver 0 ∷ []) 8
    ∷ attains 2 0 (0 ∷ 1 ∷ []) (start 2 ∷ rest 2 ∷ release 2 0 ∷ move 2 0 ∷ []) (deliver 0 ∷ release 1 0 ∷ deliver 0 ∷ [])
    ∷ runs 2 0 (0 ∷ 1 ∷ []) (start 2 ∷ move 1 0 ∷ move 0 0 ∷ move 2 2 ∷ move 2 3 ∷ move 3 0 ∷ move 3 3 ∷ move 2 0 ∷ rest 2 ∷ move 2 1 ∷ release 2 0 ∷ move 2 0 ∷ deliver 0 ∷ release 1 1 ∷ deliver 1 ∷ move 1 0 ∷ [])
    (0 ∷ 0 ∷ 47 ∷ 47 ∷ 47 ∷ 13 ∷ 13 ∷ 0 ∷ 0 ∷ 0 ∷ 0 ∷ 0 ∷ 0 ∷ 0 ∷ 0 ∷ 0 ∷ []) Finished
    ∷ longest 1 0 (0 ∷ 1 ∷ []) both_rest 0 (release 1 0 ∷ deliver 0 ∷ release 2 0 ∷ deliver 0 ∷ release 1 0 ∷ deliver 0 ∷ [])
    ∷ bound_is 1 0 (0 ∷ 1 ∷ []) both_rest (release 2 0 ∷ deliver 0 ∷ release 1 0 ∷ deliver 0 ∷ []) 10
    ∷ longest 2 1 (0 ∷ []) whole_to_rest 0 (tick 1 ∷ release 1 0 ∷ deliver 0 ∷ [])
    ∷ longest 2 1 (0 ∷ 1 ∷ 1 ∷ []) return_and_wait 1 (release 3 1 ∷ deliver 1 ∷ tick 1 ∷ release 1 1 ∷ deliver 1 ∷ deliver 0 ∷ tick 1 ∷ release 1 1 ∷ deliver 1 ∷ [])
    ∷ longest 1 0 (0 ∷ 1 ∷ []) [] 0 []
    ∷ []

-- ---- a sound board on which every step is refused: its one unit is suspended, and its request would pass 2^40. It is active, so no drain begins here
unfoldable pub stuck_board : Board
stuck_board =
    board_of (changed (view (idle_board 1 1 0 (replicate 64 0)))
    (replicate 64 0)
    (record { weight = ceiling; countdown = 0; state = Active; suspended = true } ∷ replicate 63 blank_unit)
    (message Request 0 0 0 ∷ replicate 255 blank_slot)
    ceiling
    (replicate 64 0)
    (replicate 64 0)) no_round

pub record Stuck (b : Board) : Type 0 where
  pub is_sound : Sound b
  pub not_finished : verdict b ≡ Ok Working
  pub refused : (r : StepRecord) → number_of (step b r).answer ≡ 0 → ⊥
  pub grant_refused : number_of (step b (deliver 0)).answer ≡ 36
