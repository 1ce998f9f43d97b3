-- The measure is the number of steps left. What was added up so far is what the choices passed count for.
use Rattle.std.proofs.Common.{◌-◌, length}
use Rattle.census.proofs.counting.TurnLaws.{Turn}
use Rattle.census.proofs.counting.+ends.Given as goal

abbrev pub decreases-ends : goal.decreases-ends
decreases-ends l = l.left

abbrev pub invariant-loop-choice : goal.invariant-loop-choice
invariant-loop-choice l = record {
  callable : (goal.iterator-loop-choice).can_next l.choice-iterator;
  finite : (goal.iterator-loop-choice).is_finite l.choice-iterator;
  turn : Turn l.b (l.left - 1) l.sum l.refused (length l.yielded);
}
