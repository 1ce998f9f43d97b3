-- The record of kind 0, which is no step: what an array of step records reads past its end.
use Rattle.rules.specs.declared.StepRecord.{StepRecord}

abbrev pub no_step : StepRecord
no_step = record { kind = 0; unit = 0; other = 0; slot = 0 }
