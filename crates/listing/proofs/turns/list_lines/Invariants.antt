-- What is written from here on is written from the beginning on.
use Rattle.std.proofs.Common.{length, ◌-◌}
use Rattle.listing.proofs.turns.LineLaws.{LinesTurn}
use Rattle.listing.proofs.turns.list_lines.Given as goal

abbrev pub invariant-loop-p : goal.invariant-loop-p
invariant-loop-p l = LinesTurn l.fn.p l.script l.fn.out l.p l.out

abbrev pub decreases-loop-p : goal.decreases-loop-p
decreases-loop-p l = length l.script - l.p.next.at
