-- The change stored is the step, with the rounds as the test leaves them.
use Rattle.std.proofs.Common.{true, false, ◌&&◌, refl, ap, ◌∙◌, is_ok}
use Rattle.rules.specs.Actions.{is_action}
use Rattle.rules.specs.declared.Action.{Action}
use Rattle.rules.specs.declared.Action.TheVariants.{Start}
use Rattle.steps.proofs.Changing.{rounds_left}
use Rattle.steps.proofs.advancing.advance.Goals as goal

pub returns-then-drops_rounds : goal.returns-then-drops_rounds
returns-then-drops_rounds c = rounds_left _ _ _ _ c.change_on.ensures.change _ true _ (c.drops_rounds.ensures ∙ ap (λ (a : Action). is_ok c.change_on.result.1.answer && is_action Start a) c.from.ensures) c.if-drops_rounds.true refl

pub returns-else-drops_rounds : goal.returns-else-drops_rounds
returns-else-drops_rounds c = rounds_left _ _ _ _ c.change_on.ensures.change _ false _ (c.drops_rounds.ensures ∙ ap (λ (a : Action). is_ok c.change_on.result.1.answer && is_action Start a) c.from.ensures) c.if-drops_rounds.false refl
