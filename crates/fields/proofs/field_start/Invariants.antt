-- The start of the field, counted from here on, is the start on the whole line.
use Rattle.std.proofs.Common.{◌≡◌, ◌+◌, ◌-◌, ◌≤◌, length, drop}
use Rattle.fields.specs.Fields.{field_start}
use Rattle.fields.proofs.field_start.Given as goal

abbrev pub invariant-loop : goal.invariant-loop
invariant-loop l = record { within : l.at ≤ length l.line; start : l.at + field_start (l.k - l.counter) (drop l.at l.line) ≡ field_start l.k l.line }
