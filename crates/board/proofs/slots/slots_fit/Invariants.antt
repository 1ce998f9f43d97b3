-- What holds once j slots are passed.
use Rattle.rules.specs.Boards.{view}
use Rattle.board.proofs.SlotLaws.{SlotsSeen}
use Rattle.board.proofs.slots.slots_fit.Given as goal

abbrev pub invariant-loop-j : goal.invariant-loop-j
invariant-loop-j l = SlotsSeen (view l.b) l.left l.work l.pending l.j
