-- What is left from each turn on gives what the whole gives.
use Rattle.std.proofs.Common.{◌≡◌, drop}
use Rattle.steps.proofs.AnswersLaws.{told}
use Rattle.steps.proofs.BatchLaws.{noughts}
use Rattle.steps.proofs.answers.answers_on.Given as goal

abbrev pub invariant-loop-i : goal.invariant-loop-i
invariant-loop-i l = told l.fn.b (drop l.i l.r-items) l.i l.answers ≡ told l.fn.b l.r-items 0 noughts
