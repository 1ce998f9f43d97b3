-- Script lines in batches: so many lines from a place on, and those lines as step records.
-- For private contracts only; a reader of the claim may skip this.
use Rattle.std.specs.Prelude.{false, cond, Option, Result, List, [], ◌∷◌, ℕ, zero, suc, length, drop, leb}
use Rattle.std.specs.Result.{result_unwrap_or, result_err}
use Rattle.refusals.specs.declared.Refusal.{Refusal}
use Rattle.rules.specs.declared.StepRecord.{StepRecord}
use Rattle.steps.specs.NoStep.{no_step}
use Rattle.fields.specs.Fields.{up_to}
use Rattle.numbers.specs.Lines.{behind}
use Rattle.script.specs.Lines.{reading, step_by}

-- at most k lines from a place on, and the place behind them
unfoldable pub lines_at : ℕ → ℕ → List ℕ → List (List ℕ)
lines_at zero at s = []
lines_at (suc k) at s = cond (leb (length s) at) [] (up_to 10 (drop at s) ∷ lines_at k (behind at s) s)

unfoldable pub place_after : ℕ → ℕ → List ℕ → ℕ
place_after zero at s = at
place_after (suc k) at s = cond (leb (length s) at) at (place_after k (behind at s) s)

-- a line as a step record: a bad line is one of kind 0, which every board refuses and which leaves it as it was
abbrev pub record_of : Result StepRecord Refusal → StepRecord
record_of x = result_unwrap_or x no_step

-- what refuses it: nothing refuses a step here
abbrev pub refusal_of : Result StepRecord Refusal → Option Refusal
refusal_of x = result_err x

unfoldable pub records_of : List (List ℕ) → List StepRecord
records_of [] = []
records_of (l ∷ ls) = record_of (step_by (reading false l)) ∷ records_of ls

unfoldable pub refusals_of : List (List ℕ) → List (Option Refusal)
refusals_of [] = []
refusals_of (l ∷ ls) = refusal_of (step_by (reading false l)) ∷ refusals_of ls
