-- The lines gathered and those that are left are the lines of the whole.
use Rattle.std.proofs.Common.{◌-◌}
use Rattle.listing.proofs.gathering.GatherLaws.{GatherTurn}
use Rattle.listing.proofs.gathering.gather.Given as goal

abbrev pub invariant-loop-count : goal.invariant-loop-count
invariant-loop-count l = GatherTurn l.script l.from l.most l.steps l.refusals l.at l.count

abbrev pub decreases-loop-count : goal.decreases-loop-count
decreases-loop-count l = l.most - l.count
