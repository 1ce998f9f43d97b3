-- Each turn takes one step off what is left; after the last the run is there.
use Rattle.std.proofs.Common.{arith, sym, ap, ◌∙◌}
use mir.Val.{bool_byte as from_bool}
use Rattle.steps.proofs.BatchLaws.{turned, ended}
use Rattle.steps.proofs.RunLaws.{run_unsound, run_short, run_whole}
use Rattle.steps.proofs.running.run.Goals as goal

pub returns-then-not-is_sound : goal.returns-then-not-is_sound
returns-then-not-is_sound c = run_unsound _ _ _ (sym c.is_sound.ensures ∙ c.if-not-is_sound.true)

pub returns-then-steps-answers : goal.returns-then-steps-answers
returns-then-steps-answers c = run_short _ _ _ (sym c.is_sound.ensures ∙ c.if-not-is_sound.false) c.if-steps-answers.true

pub loop-i-preserved : goal.loop-i-preserved
loop-i-preserved c =
    let t = turned _ _ _ _ _ _ _ _ c.loop-i.invariant.2 _ _ _ _ c.loop-i-test.true c.advance-answer.ensures c.number_of.ensures (omega (arith, c.from-zeros.ensures ∙ ap from_bool c.is_ok.ensures.value)) in
    (t.stays_sound (sym c.is_sound.ensures ∙ c.if-not-is_sound.false), _, t)

pub returns : goal.returns
returns c = run_whole _ _ _ _ _ _ _ (sym c.is_sound.ensures ∙ c.if-not-is_sound.false) c.if-steps-answers.false (ended _ _ _ _ _ _ _ _ c.loop-i.invariant.2 c.loop-i-test.false)
