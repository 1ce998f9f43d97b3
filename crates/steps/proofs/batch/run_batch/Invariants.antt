use Rattle.steps.proofs.BatchLaws.{Turn, filled, noughts}
use Rattle.steps.proofs.batch.run_batch.Given as goal

abbrev pub invariant-loop-i : goal.invariant-loop-i
invariant-loop-i l = Turn (filled l.fn.b l.r-items 0 0 noughts noughts) l.fn.b l.r-items l.b l.zeros l.i l.answers l.debts
