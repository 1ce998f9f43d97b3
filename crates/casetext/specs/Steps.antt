-- The record of a step that is named: its kind's number, and 0 in the fields that the kind has no letter for.
use Rattle.std.specs.Prelude.{ℕ}
use Rattle.rules.specs.declared.StepRecord.{StepRecord}
use Rattle.casetext.specs.declared.steps.Step.{Step}
use Rattle.casetext.specs.declared.steps.Step.TheVariants.{Start, Send, Request, Deliver, Rest, Tick, Release, Move, Unknown}

abbrev pub fields : ℕ → ℕ → ℕ → ℕ → StepRecord
fields k u v s = record { kind = k; unit = u; other = v; slot = s }

abbrev pub record_of : Step → StepRecord
record_of (Start u) = fields 1 u 0 0
record_of (Send u v s) = fields 2 u v s
record_of (Request u s) = fields 3 u 0 s
record_of (Deliver s) = fields 4 0 0 s
record_of (Rest u) = fields 5 u 0 0
record_of (Tick u) = fields 6 u 0 0
record_of (Release u s) = fields 7 u 0 s
record_of (Move u p) = fields 8 u p 0
record_of (Unknown k) = fields k 0 0 0
