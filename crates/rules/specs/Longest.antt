-- What is claimed of the longest drain (M-109), of every sound board with no unit active and no work under way.
use Rattle.std.specs.Prelude.{◌≡◌, List, ℕ, ◌≤◌, ◌<◌, length, Ok}
use Rattle.rules.specs.Sheets.Sheet.{slot_at}
use Rattle.rules.specs.Sheets.Longest.{longest_length, longest_list}
use Rattle.rules.specs.Boards.{view}
use Rattle.rules.specs.Sound.{Sound}
use Rattle.rules.specs.Lists.{after}
use Rattle.rules.specs.Finished.{verdict}
use Rattle.rules.specs.Drains.{Quiet, Drain, drain_bound}
use Rattle.rules.specs.Records.{Empty, Board, StepRecord, Finished}

-- rs is a longest drain from b: it has the length, "every other such list is no longer", and after it the board is finished
pub record LongestDrain (b : Board) (rs : List StepRecord) : Type 0 where
  pub is_drain : Drain b rs
  pub exact : length rs ≡ longest_length (view b)
  pub longest : (qs : List StepRecord) → Drain b qs → length qs ≤ length rs
  pub finishes : verdict (after b rs) ≡ Ok Finished
  -- M-108's bound is no less
  pub bounded : length rs ≤ drain_bound b

-- the list is one, by any free slot
unfoldable pub ListIsLongest : Type 0
ListIsLongest = (b : Board) (s : ℕ) → Sound b → Quiet b → s < b.m → (slot_at (view b) s).kind ≡ Empty → LongestDrain b (longest_list (view b) s)
