-- The boards to measure on: fresh, with the units in a binary tree.
use Rattle.std.specs.Prelude.{List, [], ◌∷◌, ℕ, zero, suc, ◌-◌, ◌/◌, take}
use Rattle.rules.specs.Opening.{opening}
use Rattle.rules.specs.declared.Board.{Board}

-- the parents of k units from unit i + 1 on: the parent of unit i is (i - 1) / 2
abbrev pub parents_from : ℕ → ℕ → List ℕ
parents_from i zero = []
parents_from i (suc k) = i / 2 ∷ parents_from (suc i) k

-- the parents of units 1 to 63
abbrev pub tree : List ℕ
tree = parents_from 0 63

-- what opening n units of the tree gives: refused where m or d is out of range, and never more than 64 units
unfoldable pub tree_board : ℕ → ℕ → ℕ → Board
tree_board n m d = (opening m d (take (n - 1) tree)).board
