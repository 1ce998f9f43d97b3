-- The change stored at its places is the step.
use Rattle.steps.proofs.Changing.{stored_step}
use Rattle.steps.proofs.advancing.change_on.Goals as goal

pub returns-clause-change : goal.returns-clause-change
returns-clause-change c = stored_step _ _ c.requires _ c.from-a.ensures _ c.of-at.ensures.slot c.of-at.ensures.unit _ c.at.ensures _ c.change.ensures
