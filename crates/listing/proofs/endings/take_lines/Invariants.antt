-- The lines from here on leave what the whole leaves.
use Rattle.std.proofs.Common.{length, ◌-◌}
use Rattle.listing.proofs.endings.EndingLaws.{EndTurn}
use Rattle.listing.proofs.endings.take_lines.Given as goal

abbrev pub invariant-loop-p : goal.invariant-loop-p
invariant-loop-p l = EndTurn l.fn.p l.script l.p

abbrev pub decreases-loop-p : goal.decreases-loop-p
decreases-loop-p l = length l.script - l.p.at
