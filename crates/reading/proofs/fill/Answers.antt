-- `fill`: a read that gave bytes goes on from those that were counted.
use Rattle.std.proofs.Common.{refl, arith}
use Rattle.reading.proofs.InputLaws.{reads_on}
use Rattle.reading.proofs.fill.Goals as goal

pub loop-count-preserved : goal.loop-count-preserved
loop-count-preserved g c = record {
  within = omega (arith, c.in-Ok.ensures.reads.within);
  bytes = reads_on _ _ _ c.loop-count.count c.in-Ok.behind c.loop-count.buf c.read_more-read.new.buf (omega (arith, c.in-Ok.ensures.reads.within)) c.in-Ok.ensures.reads.kept c.loop-count.invariant.bytes c.in-Ok.ensures.bytes.0;
  counted = refl;
}
