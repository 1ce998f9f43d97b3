-- What the loops count.
use Rattle.std.specs.Prelude.{List, [], ◌∷◌, ℕ, ◌+◌, Result, Ok, Err}
use Rattle.rules.specs.Facts.{one_if}
use Rattle.rules.specs.Sound.{sound}
use Rattle.rules.specs.Lists.{after, answers}
use Rattle.rules.specs.Runs.{zeros}
use Rattle.rules.specs.declared.Board.{Board}
use Rattle.rules.specs.declared.StepRecord.{StepRecord}
use Rattle.refusals.specs.declared.Refusal.{Refusal}
use Rattle.bench.specs.Trees.{tree_board}
use Rattle.bench.specs.declared.walks.Walked.{Walked}

-- how many steps of a list are accepted, from a fresh board on
abbrev pub accepted_of : ℕ → ℕ → ℕ → List StepRecord → ℕ
accepted_of n m d rs = zeros (answers (tree_board n m d) rs)

-- the board after a list and how many of its steps are accepted
unfoldable pub walk_of : Board → List StepRecord → Walked
walk_of b rs = record { board = after b rs; count = zeros (answers b rs) }

-- how many steps a run or a batch accepted: none where it is refused
abbrev pub zeros_of : Result ℕ Refusal → ℕ
zeros_of (Ok n) = n
zeros_of (Err k) = 0

-- a board with its delay set
abbrev pub with_delay : Board → ℕ → Board
with_delay b d = record {
  n = b.n;
  m = b.m;
  delay = d;
  debt = b.debt;
  parents = b.parents;
  units = b.units;
  slots = b.slots;
  created = b.created;
  processed = b.processed;
  rounds = b.rounds;
}

-- with how many of the delays the board is sound
unfoldable pub sound_with : Board → List ℕ → ℕ
sound_with b [] = 0
sound_with b (d ∷ ds) = one_if (sound (with_delay b d)) + sound_with b ds
