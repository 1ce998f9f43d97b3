-- Depth: 0 for unit 0, else one more than the parent's, found by going to the parent until unit 0.
use Rattle.std.specs.Prelude.{List, ℕ, zero, suc, max, get_or}
use Rattle.rules.specs.Sheets.Sheet.{Sheet}

-- within so many turns: the unit's own number is enough, since a parent has a lower one
unfoldable pub depth_within : ℕ → List ℕ → ℕ → ℕ
depth_within zero ps u = 0
depth_within (suc k) ps zero = 0
depth_within (suc k) ps (suc u) = suc (depth_within k ps (get_or ps (suc u) 0))

unfoldable pub depth : List ℕ → ℕ → ℕ
depth ps u = depth_within u ps u

-- the largest depth among the units below i
unfoldable pub deepest : List ℕ → ℕ → ℕ
deepest ps zero = 0
deepest ps (suc i) = max (deepest ps i) (depth ps i)

-- the greatest depth, among units 0 to n - 1
abbrev pub greatest_depth : Sheet → ℕ
greatest_depth b = deepest b.parents b.n
