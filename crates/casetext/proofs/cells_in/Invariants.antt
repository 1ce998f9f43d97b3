-- Storing the cells that are left from here gives what storing all gives.
use Rattle.std.proofs.Common.{◌≡◌, ◌+◌, length, drop}
use Rattle.std.proofs.lemmas.List.Edits.{sets}
use Rattle.casetext.specs.Rows.{cells_text}
use Rattle.casetext.proofs.cells_in.Given as goal

abbrev pub invariant-loop-n : goal.invariant-loop-n
invariant-loop-n l =
    (l.to + length (cells_text (drop l.n-index l.cells)) ≡ l.at + length (cells_text l.cells))
    × (sets l.out l.to (cells_text (drop l.n-index l.cells)) ≡ sets l.fn.out l.at (cells_text l.cells))
