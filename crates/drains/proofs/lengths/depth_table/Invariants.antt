-- The depths of the units passed are in the table.
use Rattle.drains.proofs.lengths.LengthLaws.{DepthsTo}
use Rattle.drains.proofs.lengths.depth_table.Given as goal

abbrev pub invariant-loop-i : goal.invariant-loop-i
invariant-loop-i l = DepthsTo l.parents l.i l.depths
