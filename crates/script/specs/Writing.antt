-- Writing a step as a line of a script, without leading zeros.
use Rattle.std.specs.Prelude.{Result, Err, List, [], ◌∷◌, ◌++◌, ℕ, get_or}
use Rattle.refusals.specs.declared.Refusal.{Refusal}
use Rattle.refusals.specs.declared.Refusal.TheVariants.{NoSuchKind}
use Rattle.rules.specs.Facts.{check, holds, judge}
use Rattle.rules.specs.Actions.{action_of, is_known}
use Rattle.rules.specs.Letters.{letters, values_of}
use Rattle.rules.specs.declared.StepRecord.{StepRecord}
use Rattle.rules.specs.declared.Action.{Action}
use Rattle.placing.specs.Placing.{wrote, written}
use Rattle.numbers.specs.Numbers.{tabbed}
use Rattle.script.specs.Words.{words}

-- the values of a step's letters, in the order in which they are written
abbrev pub letters_of : StepRecord → Action → List ℕ
letters_of r a = values_of r (letters a)

-- the line without its byte 10, and with it
unfoldable pub step_line : StepRecord → List ℕ
step_line r = get_or words r.kind [] ++ tabbed (letters_of r (action_of r.kind))

abbrev pub step_text : StepRecord → List ℕ
step_text r = step_line r ++ 10 ∷ []

-- no step's line is longer, its byte 10 included
abbrev pub longest_step : ℕ
longest_step = 23

-- 16 kind outside 1 to 8 (M-108), before 27
unfoldable pub step_wrote : StepRecord → ℕ → List ℕ → Result ℕ Refusal
step_wrote r at out = judge Err (check (holds (is_known (action_of r.kind))) NoSuchKind ∷ []) (wrote (step_text r) at out)

unfoldable pub step_written : StepRecord → ℕ → List ℕ → List ℕ
step_written r at out = judge (λ k. out) (check (holds (is_known (action_of r.kind))) NoSuchKind ∷ []) (written (step_text r) at out)
