-- Finished: what is told of a sheet, and what it is to mean.
use Rattle.std.specs.Prelude.{◌≡◌, cond, [], ◌∷◌, ℕ, eqb, Result, Ok, Err}
use Rattle.refusals.specs.declared.Refusal.{Refusal}
use Rattle.refusals.specs.declared.Refusal.TheVariants.{NotSound}
use Rattle.rules.specs.Facts.{check, holds, judge}
use Rattle.rules.specs.Sheets.Sheet.{Sheet, unit_at, slot_at}
use Rattle.rules.specs.Sheets.Sound.{sound}
use Rattle.rules.specs.Records.{Idle, Empty, Verdict, Working, Finished}

-- "Finished means debt 0"
abbrev pub told_from : ℕ → Verdict
told_from debt = cond (eqb debt 0) Finished Working

-- ".. and is told from the debt of a sound board"; an unsound one gets 30
unfoldable pub verdict : Sheet → Result Verdict Refusal
verdict b = judge Err (check (holds (sound b)) NotSound ∷ []) (Ok (told_from b.debt))

-- every unit is idle and every slot empty
pub record Complete (b : Sheet) : Type 0 where
  pub idle : (i : ℕ) → (unit_at b i).state ≡ Idle
  pub empty : (j : ℕ) → (slot_at b j).kind ≡ Empty
