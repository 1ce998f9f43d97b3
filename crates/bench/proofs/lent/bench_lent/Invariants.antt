-- The steps that are left give what the whole list gives, on the board as it is.
use Rattle.bench.specs.Trees.{tree_board}
use Rattle.bench.proofs.lent.TurnLaws.{LentTurn}
use Rattle.bench.proofs.lent.bench_lent.Given as goal

abbrev pub invariant-loop-record : goal.invariant-loop-record
invariant-loop-record l = LentTurn (tree_board l.n l.m l.d) l.steps l.board l.count l.record-index
