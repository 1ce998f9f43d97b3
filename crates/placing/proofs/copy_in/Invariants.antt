-- At each turn, storing what is left of the text from here gives what storing the whole gives.
use Rattle.std.proofs.Common.{◌≡◌, ◌+◌, ◌-◌, length, drop}
use Rattle.std.proofs.lemmas.List.Edits.{sets}
use Rattle.placing.proofs.copy_in.Given as goal

abbrev pub invariant-loop-i : goal.invariant-loop-i
invariant-loop-i l =
    record {
      long : length l.out ≡ length l.fn.out;
      left : sets l.out (l.at + l.i) (drop l.i l.text) ≡ sets l.fn.out l.at l.text;
    }
