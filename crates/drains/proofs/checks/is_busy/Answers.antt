-- The two tests are the definition's.
use Rattle.std.proofs.Common.{refl, sym, ◌∙◌}
use Rattle.rules.proofs.BusyLaws.{busy_by}
use Rattle.drains.proofs.checks.is_busy.Goals as goal

pub returns-then-some_active : goal.returns-then-some_active
returns-then-some_active c = c.if-some_active.true ∙ sym (busy_by _ (sym c.some_active.ensures ∙ c.if-some_active.true) refl)

pub returns-else-some_active : goal.returns-else-some_active
returns-else-some_active c = c.some_work.ensures ∙ sym (busy_by _ (sym c.some_active.ensures ∙ c.if-some_active.false) refl)
