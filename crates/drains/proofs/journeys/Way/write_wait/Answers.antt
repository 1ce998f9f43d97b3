-- The ticks, then the release, then the delivery.
use Rattle.std.proofs.Common.{arith}
use Rattle.drains.proofs.journeys.WritingLaws.{writes_then, writes_filled}
use Rattle.drains.proofs.journeys.Way.write_wait.Goals as goal

pub returns : goal.returns
returns c =
    let ticks = writes_filled c.args.at c.args.left c.from.result _ c.step.result c.args.list.now c.fill.new.self c.from.ensures (omega arith) (omega (arith, c.requires)) (c.fill.ensures.after (λ y e. e)) in
    writes_then (rw c.step.ensures at ticks) (writes_then (rw c.step-2.ensures at c.put-released.ensures) (rw c.step-3.ensures at c.put.ensures))
