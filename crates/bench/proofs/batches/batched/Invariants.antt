-- What is left from each batch on gives what the whole gives.
use Rattle.std.proofs.Common.{◌≡◌, ◌*◌}
use Rattle.std.specs.Slice.Iter.{chunks_rest, chunks_size}
use Rattle.rules.specs.Runs.{batch_most}
use Rattle.bench.proofs.WalkLaws.{WalkTurn}
use Rattle.bench.proofs.batches.batched.Given as goal

abbrev pub invariant-loop-numbers : goal.invariant-loop-numbers
invariant-loop-numbers l = record {
  size : chunks_size l.numbers-iterator ≡ 4 * batch_most;
  turn : WalkTurn l.fn.board l.list l.board l.count (chunks_rest l.numbers-iterator);
}
