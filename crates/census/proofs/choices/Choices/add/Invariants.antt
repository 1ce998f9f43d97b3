-- So many of the steps are listed behind the others.
use Rattle.std.proofs.Common.{take}
use Rattle.census.specs.Choices.{steps_in}
use Rattle.census.proofs.choices.ListedLaws.{Added}
use Rattle.census.proofs.choices.Choices.add.Given as goal

abbrev pub invariant-loop-i : goal.invariant-loop-i
invariant-loop-i l = Added (steps_in l.ranges) (take l.fn.self.count l.fn.self.steps) l.fn.self.count l.i l.self.count l.self.steps
