-- The call that tells a unit's depth.
use Rattle.std.specs.Prelude.{[], ◌∷◌, ℕ, Result, Ok, Err}
use Rattle.refusals.specs.declared.Refusal.{Refusal}
use Rattle.refusals.specs.declared.Refusal.TheVariants.{NotSound, NoSuchUnit}
use Rattle.rules.specs.Facts.{check, below, holds, judge}
use Rattle.rules.specs.Sound.{sound}
use Rattle.rules.specs.Sheets.Depths.{depth}
use Rattle.rules.specs.Records.{Board}

-- "a call tells it [30, 13]"
unfoldable pub depth_answer : Board → ℕ → Result ℕ Refusal
depth_answer b u = judge Err (check (holds (sound b)) NotSound ∷ check (below u b.n) NoSuchUnit ∷ []) (Ok (depth b.parents u))
