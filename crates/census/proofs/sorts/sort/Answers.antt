-- The board's sort, by the tests that led to each return.
use Rattle.std.proofs.Common.{◌≡◌, true, sym, ◌∙◌, refl}
use Rattle.rules.specs.Busy.{is_busy}
use Rattle.rules.proofs.BusyLaws.{busy_by}
use Rattle.census.proofs.SortLaws.{sort_finished, sort_unfinished}
use Rattle.census.proofs.sorts.sort.Goals as goal
use Rattle.census.proofs.sorts.sort.Goals.{then-some_active-via-then-some_active, then-some_active-via-else-some_active+then-some_work}

pub returns-then-b-eq0 : goal.returns-then-b-eq0
returns-then-b-eq0 c = sym (sort_finished c.args.b.now c.requires c.if-b-eq0.true)

pub returns-then-some_active : goal.returns-then-some_active
returns-then-some_active c =
    let busy : is_busy c.args.b.now ≡ true =
    elim c.then-some_active.branch [
      | then-some_active-via-then-some_active w ↦ busy_by _ (sym c.some_active.ensures ∙ w.if-some_active.true) refl
      | then-some_active-via-else-some_active+then-some_work w ↦ busy_by _ (sym c.some_active.ensures ∙ w.if-some_active.false) (sym w.some_work.ensures ∙ w.if-some_work.true)
    ] in
    sym (sort_unfinished c.args.b.now c.requires c.if-b-eq0.false true busy)

pub returns : goal.returns
returns c =
    sym (sort_unfinished c.args.b.now c.requires c.if-b-eq0.false _
    (busy_by _ (sym c.some_active.ensures ∙ c.if-some_active.false) (sym c.some_work.ensures ∙ c.if-some_work.false)))
