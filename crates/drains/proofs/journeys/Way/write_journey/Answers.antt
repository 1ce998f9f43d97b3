-- The wait at a unit that is not unit 0, and then the journey from its parent.
use Rattle.std.proofs.Common.{arith}
use Rattle.drains.proofs.journeys.WayLaws.{wait_room, wait_on, way_ends}
use Rattle.drains.proofs.journeys.Way.write_journey.Goals as goal

pub write_wait-at-requires : goal.write_wait-at-requires
write_wait-at-requires c = omega (arith, wait_room _ _ _ c.args.self.now.lower c.loop-unit.invariant (omega (arith, c.loop-unit-test.true)) c.requires.room, c.loop-unit.auto.list)

pub loop-unit-preserved : goal.loop-unit-preserved
loop-unit-preserved c = rw c.from.ensures (wait_on _ _ _ c.args.self.now.lower c.loop-unit.invariant (omega (arith, c.loop-unit-test.true)) c.write_wait-at.ensures)

pub returns : goal.returns
returns c = way_ends _ _ _ c.loop-unit.invariant c.loop-unit-test.false
