-- The records that are filled in and those of the numbers that are left are all.
use Rattle.std.proofs.Common.{◌≡◌}
use Rattle.std.specs.Iterator.Adapters.{enumerate_source, enumerate_count}
use Rattle.std.specs.Slice.Iter.{chunks_exact_rest, chunks_exact_size}
use Rattle.bench.proofs.batches.FillLaws.{FillTurn}
use Rattle.bench.proofs.batches.records_of.Given as goal

abbrev pub invariant-loop-i : goal.invariant-loop-i
invariant-loop-i l = record {
  size : chunks_exact_size (enumerate_source l.i-iterator) ≡ 4;
  turn : FillTurn l.numbers l.records (enumerate_count l.i-iterator) (chunks_exact_rest (enumerate_source l.i-iterator));
}
