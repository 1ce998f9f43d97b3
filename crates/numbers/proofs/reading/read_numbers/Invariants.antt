-- What is found so far are the numbers of the fields so far, and what is left of them stands from here on.
use Rattle.std.proofs.Common.{◌+◌, ◌-◌, ◌≤◌, ◌≡◌, length, take, drop}
use Rattle.numbers.specs.Numbers.{fields_at}
use Rattle.numbers.proofs.PassLaws.{Pass}
use Rattle.numbers.proofs.reading.read_numbers.Given as goal

abbrev pub invariant-loop-at : goal.invariant-loop-at
invariant-loop-at l =
    record {
      few : l.count ≤ l.at;
      left : drop l.count (fields_at l.from l.line) ≡ fields_at l.at l.line;
      pass : Pass (take l.count (fields_at l.from l.line)) l.list l.count l.padded l.refusal;
    }

abbrev pub decreases-loop-at : goal.decreases-loop-at
decreases-loop-at l = length l.line + 1 - l.at
