-- What holds once i units are passed.
use Rattle.board.proofs.counts.CountLaws.{CountsSeen}
use Rattle.board.proofs.counts.counts_fit.Given as goal

abbrev pub invariant-loop-i : goal.invariant-loop-i
invariant-loop-i l = CountsSeen l.b l.made l.done l.marked_made l.marked_done l.i
