-- Batches one after another write what all pieces that fit write.
use native.Mathlib.Omega.{arith}
use Rattle.listing.proofs.turns.LineLaws.{takes_lines, advances_last, advances_none, lines_go}
use Rattle.listing.proofs.turns.list_lines.Goals as goal

pub returns-then-p-to : goal.returns-then-p-to
returns-then-p-to c = c.loop-p.invariant.gives c.turn-p.result _ (advances_last c.turn-p.ensures (omega arith) c.if-p-to.true)

pub loop-p-smaller : goal.loop-p-smaller
loop-p-smaller c = takes_lines c.turn-p.ensures c.if-p-to.false

pub loop-p-preserved : goal.loop-p-preserved
loop-p-preserved c = lines_go c.loop-p.invariant c.loop-p-test.true c.turn-p.ensures

pub returns : goal.returns
returns c = c.loop-p.invariant.gives c.loop-p.p c.loop-p.out (advances_none c.loop-p.p c.args.script.now c.loop-p.out c.loop-p-test.false)
