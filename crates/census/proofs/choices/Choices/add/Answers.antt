-- Step by step.
use Rattle.std.proofs.Common.{◌≡◌, ◌<◌, ◌++◌, length, take, ap, ◌∙◌, arith, rules}
use lib.Seq.{take_all}
use Rattle.census.specs.Choices.{steps_in}
use Rattle.census.proofs.choices.RangeLaws.{steps_in_length}
use Rattle.census.proofs.choices.ListedLaws.{none_added, one_added, few_steps}
use Rattle.census.proofs.choices.Choices.add.Goals as goal

pub loop-i-init : goal.loop-i-init
loop-i-init c = none_added _ _ _

pub offset_bounds-self-self : goal.offset_bounds-self-self
offset_bounds-self-self c =
    let within : c.loop-i.self.count < 512 = omega (arith, c.loop-i.invariant.counted, c.loop-i-test.true, c.requires.room, few_steps c.args.ranges c.requires.small) in
    search rules

pub bounds-self-self : goal.bounds-self-self
bounds-self-self c = omega (arith, c.loop-i.invariant.counted, c.loop-i-test.true, c.requires.room, few_steps c.args.ranges c.requires.small)

pub loop-i-preserved : goal.loop-i-preserved
loop-i-preserved c =
    let long : length c.loop-i.self.steps ≡ 512 = search rules in
    one_added c.loop-i.invariant (omega (arith, c.loop-i-test.true, steps_in_length c.args.ranges)) (omega (arith, long, c.loop-i.invariant.counted, c.loop-i-test.true, c.requires.room, few_steps c.args.ranges c.requires.small)) c.step_in.ensures

pub returns-clause-count : goal.returns-clause-count
returns-clause-count c = omega (arith, c.loop-i.invariant.counted, c.loop-i.auto.i-end, c.loop-i-test.false)

pub returns-clause-steps : goal.returns-clause-steps
returns-clause-steps c =
    c.loop-i.invariant.listed ∙ ap (λ (rs : _). take c.args.self.now.count c.args.self.now.steps ++ rs) (take_all c.loop-i.i (steps_in c.args.ranges) (omega (arith, c.loop-i-test.false, steps_in_length c.args.ranges)))
