-- The room that is left and the cells that are left differ as the whole room and all cells do.
use Rattle.std.proofs.Common.{◌≡◌, ◌+◌, length, drop}
use Rattle.casetext.specs.Rows.{cells_text}
use Rattle.casetext.proofs.cells_fit.Given as goal

abbrev pub invariant-loop-n : goal.invariant-loop-n
invariant-loop-n l = length (cells_text l.cells) + l.left ≡ length (cells_text (drop l.n-index l.cells)) + l.room
