-- At each turn, the lines from here on leave what the whole leaves.
use Rattle.listing.proofs.endings.EndingLaws.{end_goes, end_less, end_ends}
use Rattle.listing.proofs.endings.take_lines.Goals as goal

pub loop-p-smaller : goal.loop-p-smaller
loop-p-smaller c = end_less c.loop-p.invariant c.loop-p-test.true c.take_batch-p.ensures

pub loop-p-preserved : goal.loop-p-preserved
loop-p-preserved c = end_goes c.loop-p.invariant c.loop-p-test.true c.take_batch-p.ensures

pub returns : goal.returns
returns c = end_ends c.loop-p.invariant c.loop-p-test.false
