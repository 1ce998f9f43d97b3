-- A sound board is advanced, and one that is not sound is left.
use Rattle.std.proofs.Common.{sym, ◌∙◌}
use Rattle.steps.proofs.StepLaws.{step_meets, unsound_meets}
use Rattle.steps.proofs.step.Goals as goal

pub returns-then-is_sound : goal.returns-then-is_sound
returns-then-is_sound c = step_meets _ _ _ (sym c.advance-answer.ensures)

pub returns-else-is_sound : goal.returns-else-is_sound
returns-else-is_sound c = unsound_meets _ _ (sym c.is_sound.ensures ∙ c.if-is_sound.false)
