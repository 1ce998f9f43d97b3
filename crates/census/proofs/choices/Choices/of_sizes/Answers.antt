-- Kind by kind.
use Rattle.std.proofs.Common.{get_or, ◌∙◌, arith}
use Rattle.std.proofs.lemmas.List.{get_or_default}
use Rattle.rules.specs.declared.Action.TheVariants.{Unknown, Release}
use Rattle.census.specs.Choices.{seven_kinds}
use Rattle.census.specs.Claims.{ChoicesNumber}
use Rattle.census.proofs.ChoiceLaws.{choices_number}
use Rattle.census.proofs.choices.ListedLaws.{no_kinds, one_kind, all_kinds}
use Rattle.census.proofs.choices.Choices.of_sizes.Goals as goal

pub loop-kind-init : goal.loop-kind-init
loop-kind-init c = no_kinds _ _ _

pub loop-kind-preserved : goal.loop-kind-preserved
loop-kind-preserved c =
    one_kind c.loop-kind.invariant c.loop-kind-test.true c.requires.0 c.requires.1 (get_or seven_kinds c.loop-kind.kind-index Unknown) (get_or_default seven_kinds c.loop-kind.kind-index Unknown Release c.loop-kind-test.true)
    (rw c.ranges-in-loop-kind.ensures at c.add.ensures.count) (rw c.ranges-in-loop-kind.ensures at c.add.ensures.steps)

pub returns-clause-count : goal.returns-clause-count
unfolding ChoicesNumber
returns-clause-count c = (all_kinds c.loop-kind.invariant (omega arith)).0 ∙ choices_number c.args.n c.args.m

pub returns-clause-steps : goal.returns-clause-steps
returns-clause-steps c = (all_kinds c.loop-kind.invariant (omega arith)).1
