-- At each turn, what is left of the field from here gives what the whole gives.
use Rattle.std.proofs.Common.{◌≡◌, ◌≤◌, drop}
use Rattle.decimal.specs.Reading.{number_of}
use Rattle.decimal.proofs.ReadLaws.{read_from}
use Rattle.decimal.proofs.read_number.Given as goal

abbrev pub invariant-loop-c : goal.invariant-loop-c
invariant-loop-c l = record { small : l.value ≤ 65535; same : number_of l.field ≡ read_from l.value (drop l.c-index l.field) }
