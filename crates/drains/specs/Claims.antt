-- What the calls promise beside their answers: that what they show is a longest drain.
use Rattle.std.specs.Prelude.{◌≡◌, List, ℕ, length, take, Result, Ok}
use Rattle.refusals.specs.declared.Refusal.{Refusal}
use Rattle.rules.specs.Longest.{LongestDrain}
use Rattle.rules.specs.declared.Board.{Board}
use Rattle.rules.specs.declared.StepRecord.{StepRecord}
use Rattle.drains.specs.Calls.{list_answer, list_left}

-- a longest drain from b has k steps
pub record HasLength (b : Board) (k : ℕ) : Type 0 where
  pub list : List StepRecord
  pub longest : LongestDrain b list
  pub long : length list ≡ k

-- where k steps are told, the first k entries are a longest drain from b
abbrev pub ShowsLongest : Board → Result ℕ Refusal → List StepRecord → Type 0
ShowsLongest b r list = (k : ℕ) → r ≡ Ok k → LongestDrain b (take k list)

-- the call on the board b with a lent list gives r and leaves the list `left`
pub record ListMeets (b : Board) (list : List StepRecord) (r : Result ℕ Refusal) (left : List StepRecord) : Type 0 where
  pub gives : r ≡ list_answer b (length list)
  pub leaves : left ≡ list_left b list
  pub shows : ShowsLongest b r left
