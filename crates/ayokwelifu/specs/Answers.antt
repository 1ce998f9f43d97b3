-- How an answer goes to a caller in another language: as its number, and what was asked for in lent cells, which a refusal leaves.
use Rattle.std.specs.Prelude.{ℕ, Result, Ok, Err}
use Rattle.refusals.specs.declared.Refusal.{Refusal}
use Rattle.rules.specs.declared.StepRecord.{StepRecord}
use Rattle.script.specs.declared.Line.{Line}
use Rattle.script.specs.declared.Line.TheVariants.{Opens, Asks}

-- what the cell holds after the call, where it held old
abbrev pub cell_after : ℕ → Result ℕ Refusal → ℕ
cell_after old (Ok n) = n
cell_after old (Err k) = old

-- what the four cells hold after the call, where they held old
abbrev pub step_after : StepRecord → Result Line Refusal → StepRecord
step_after old (Ok (Opens m d parents)) = old
step_after old (Ok (Asks r)) = r
step_after old (Err k) = old
