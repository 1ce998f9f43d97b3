-- Writing the numbers that are left from here gives what writing all of them gives.
use Rattle.std.proofs.Common.{◌≡◌, ◌+◌, length, drop}
use Rattle.std.proofs.lemmas.List.Edits.{sets}
use Rattle.numbers.specs.Numbers.{tabbed}
use Rattle.script.proofs.writing.put_tabbed.Given as goal

abbrev pub invariant-loop-n : goal.invariant-loop-n
invariant-loop-n l =
    record {
      long : length l.out ≡ length l.fn.out;
      place : l.to + length (tabbed (drop l.n-index l.ns)) ≡ l.at + length (tabbed l.ns);
      stored : sets l.out l.to (tabbed (drop l.n-index l.ns)) ≡ sets l.fn.out l.at (tabbed l.ns);
    }
