-- What holds once i units are passed.
use Rattle.rules.specs.Boards.{view}
use Rattle.board.proofs.UnitLaws.{UnitsSeen}
use Rattle.board.proofs.units.units_fit.Given as goal

abbrev pub invariant-loop-i : goal.invariant-loop-i
invariant-loop-i l = UnitsSeen (view l.b) l.slots.left l.slots.pending l.left l.i
