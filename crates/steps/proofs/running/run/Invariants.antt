-- The board is sound, and the debts are those that a batch would have written.
use Rattle.std.proofs.Common.{ℕ, List, [], ◌≡◌, true}
use Rattle.rules.specs.Sound.{sound}
use Rattle.steps.proofs.BatchLaws.{Turn, filled}
use Rattle.steps.proofs.running.run.Given as goal

abbrev pub invariant-loop-i : goal.invariant-loop-i
invariant-loop-i l = (sound l.b ≡ true) × (debts : List ℕ) × Turn (filled l.fn.b l.steps 0 0 l.fn.answers []) l.fn.b l.steps l.b l.zeros l.i l.answers debts
