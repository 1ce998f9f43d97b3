-- The steps of the kinds passed are listed.
use Rattle.census.proofs.choices.ListedLaws.{KindsListed}
use Rattle.census.proofs.choices.Choices.of_sizes.Given as goal

abbrev pub invariant-loop-kind : goal.invariant-loop-kind
invariant-loop-kind l = KindsListed l.n l.m l.kind-index l.choices.count l.choices.steps
