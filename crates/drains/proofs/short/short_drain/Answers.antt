-- It is what a lent list of so many entries is left as.
use Rattle.std.proofs.Common.{ap, ◌∙◌}
use Rattle.std.proofs.lemmas.List.{length-replicate}
use Rattle.rules.specs.Runs.{batch_most}
use Rattle.steps.specs.NoStep.{no_step}
use Rattle.drains.specs.Calls.{list_answer, short_drain}
use Rattle.drains.proofs.short.short_drain.Goals as goal

pub returns-clause-told : goal.returns-clause-told
unfolding short_drain
returns-clause-told c =
    let m = c.longest_drain-longest.ensures in
    λ i. record { longest = (m.gives ∙ ap (list_answer c.args.b) (length-replicate batch_most no_step)) i; steps = m.leaves i }
