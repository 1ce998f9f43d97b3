-- A step that is written and read back: "read back, unused fields are 0".
use Rattle.std.specs.Prelude.{◌≡◌, true, false, Ok, List, ℕ, ◌-◌, take, drop}
use Rattle.rules.specs.Actions.{action_of, is_known}
use Rattle.rules.specs.Letters.{used}
use Rattle.rules.specs.Guarantee.{Fits16}
use Rattle.rules.specs.declared.StepRecord.{StepRecord}
use Rattle.script.specs.Lines.{reading}
use Rattle.script.specs.Writing.{step_line, step_wrote, step_written}
use Rattle.script.specs.declared.Line.TheVariants.{Asks}

-- the line of a step; and what stands in a buffer that the step was written to, from its place on and without its byte 10
pub record ReadsBack (r : StepRecord) : Type 0 where
  pub line : reading false (step_line r) ≡ Ok (Asks (used r))
  pub buffer : (at n : ℕ) (out : List ℕ) → step_wrote r at out ≡ Ok n → reading false (take (n - 1) (drop at (step_written r at out))) ≡ Ok (Asks (used r))

abbrev pub RoundTrip : Type 0
RoundTrip = (r : StepRecord) → is_known (action_of r.kind) ≡ true → Fits16 r → ReadsBack r
