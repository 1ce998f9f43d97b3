-- The sum of the sources passed.
use Rattle.std.proofs.Common.{◌^◌}
use Rattle.drains.proofs.lengths.LengthLaws.{SoFar}
use Rattle.drains.proofs.lengths.Distances.sum.Given as goal

abbrev pub invariant-loop-i : goal.invariant-loop-i
invariant-loop-i g l = SoFar (λ i x. g.S.Source.steps_length l.self i x) l.sources (2 ^ 34) l.i l.sum
