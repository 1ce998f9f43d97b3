-- Source by source.
use Rattle.std.proofs.Common.{arith}
use Rattle.drains.proofs.journeys.ListLaws.{none_written, next_room, next_written}
use Rattle.drains.proofs.journeys.Way.write_all.Goals as goal

pub loop-i-init : goal.loop-i-init
loop-i-init g c = none_written _ _ _

pub write_steps-at-requires-clause-room : goal.write_steps-at-requires-clause-room
write_steps-at-requires-clause-room g c =
    omega (arith, next_room _ c.args.sources.now c.loop-i.i c.index-sources-i.result c.loop-i-test.true c.index-sources-i.is c.loop-i.invariant c.requires.room, c.loop-i.auto.list)

pub loop-i-preserved : goal.loop-i-preserved
loop-i-preserved g c = next_written _ c.args.sources.now c.loop-i.i c.index-sources-i.result c.loop-i-test.true c.index-sources-i.is c.loop-i.invariant c.write_steps-at.ensures
