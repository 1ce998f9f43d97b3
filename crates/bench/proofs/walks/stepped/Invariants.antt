-- What is left from each turn on gives what the whole gives.
use Rattle.std.proofs.Common.{◌≡◌}
use Rattle.std.specs.Slice.Iter.{chunks_exact_rest, chunks_exact_size}
use Rattle.bench.proofs.WalkLaws.{WalkTurn}
use Rattle.bench.proofs.walks.stepped.Given as goal

abbrev pub invariant-loop-four : goal.invariant-loop-four
invariant-loop-four l = record {
  size : chunks_exact_size l.four-iterator ≡ 4;
  turn : WalkTurn l.fn.board l.list l.board l.count (chunks_exact_rest l.four-iterator);
}
