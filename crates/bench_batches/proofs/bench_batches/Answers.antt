-- The walk's count, on the board that was opened.
use Rattle.bench.proofs.WalkLaws.{walk_counted}
use Rattle.bench_batches.proofs.bench_batches.Goals as goal

pub returns : goal.returns
returns c = walk_counted _ _ _ _ c.batched.ensures c.tree_board.ensures
