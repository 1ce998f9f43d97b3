-- A turn writes the answer of its step, which takes the step off what is left.
use Rattle.refusals.specs.Numbers.{number_of}
use Rattle.std.proofs.Common.{arith, rules, List, ◌≡◌, ◌≤◌, sym, ap, ◌∙◌, length, length-take, take, slice_index_or}
use Rattle.rules.specs.Steps.{step}
use Rattle.rules.specs.Runs.{padded}
use Rattle.rules.specs.declared.StepRecord.{StepRecord}
use Rattle.steps.specs.AnswersOn.{answers_on}
use Rattle.steps.specs.NoStep.{no_step}
use Rattle.steps.proofs.BatchLaws.{asked_steps}
use Rattle.steps.proofs.StepLaws.{unsound_meets}
use Rattle.steps.proofs.AnswersLaws.{told_turn, told_end, told_all}
use Rattle.steps.proofs.answers.answers_on.Goals as goal
use Rattle.steps.proofs.answers.answers_on.Goals.{then-sound, else-sound}

pub loop-i-preserved : goal.loop-i-preserved
loop-i-preserved c =
    let asked = take c.min.result c.args.steps in
    let r = slice_index_or asked c.loop-i.i no_step in
    let answered : c.if-sound.answer ≡ (step c.args.b r).answer =
    elim c.if-sound.branch [
      | then-sound w ↦ w.answer-is ∙ w.answer_on-answer.ensures
      | else-sound w ↦ w.answer-is ∙ (unsound_meets c.args.b r (sym c.is_sound-sound.ensures ∙ w.if-sound.false)).answer
    ] in
    told_turn c.args.b asked c.loop-i.i c.loop-i.answers _ c.loop-i-test.true (c.number_of.ensures ∙ ap number_of answered) ∙ c.loop-i.invariant

pub returns : goal.returns
returns c =
    let asked = take c.min.result c.args.steps in
    let few : length asked ≤ 512 = omega (arith, length-take c.min.result c.args.steps, c.min.ensures) in
    sym (told_end c.args.b asked c.loop-i.i c.loop-i.answers c.loop-i-test.false) ∙ c.loop-i.invariant ∙ told_all c.args.b asked few
    ∙ ap (λ (rs : List StepRecord). padded (answers_on c.args.b rs)) (asked_steps c.args.steps c.args.count c.min.result (search rules) c.min.ensures)
