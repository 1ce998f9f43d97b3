-- Some of the journey is written, and the rest is that from the unit.
use Rattle.drains.proofs.journeys.WayLaws.{OnWay}
use Rattle.drains.proofs.journeys.Way.write_journey.Given as goal

abbrev pub invariant-loop-unit : goal.invariant-loop-unit
invariant-loop-unit l = OnWay l.self.delay l.self.parents l.self.free l.fn.left l.fn.unit l.fn.at l.fn.list l.left l.unit l.at l.list

abbrev pub decreases-loop-unit : goal.decreases-loop-unit
decreases-loop-unit l = l.unit
