-- A turn fills in one more record; after the last nothing is left.
use Rattle.std.proofs.Common.{◌∙◌, arith}
use Rattle.std.specs.Slice.Iter.{chunks_exact_rest}
use Rattle.std.specs.Iterator.Adapters.{enumerate_source}
use Rattle.bench.proofs.batches.FillLaws.{fill_goes, fill_ends}
use Rattle.bench.proofs.batches.records_of.Goals as goal

pub loop-i-preserved : goal.loop-i-preserved
loop-i-preserved c =
    let next = c.in-Some.ensures.steps in record {
      size = next.0.0 ∙ c.loop-i.invariant.size;
      turn = fill_goes c.loop-i.invariant.turn c.in-Some.four.now (chunks_exact_rest (enumerate_source c.next.new.self)) next.0.1.0 (next.0.1.1 ∙ c.loop-i.invariant.size) next.1 next.2 c.record_of.ensures;
    }

pub returns : goal.returns
returns c = fill_ends c.loop-i.invariant.turn (omega (arith, c.in-None.ensures.steps.0.1.0, c.loop-i.invariant.size))
