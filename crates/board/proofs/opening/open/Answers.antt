-- By what the checks of the opening answer.
use Rattle.std.proofs.Common.{sym, ◌∙◌, add-one}
use Rattle.rules.specs.Opening.{fresh, blank_board}
use Rattle.board.proofs.opening.OpeningLaws.{opened, left_blank}
use Rattle.board.proofs.opening.open.Goals as goal

pub returns-then-is_ok : goal.returns-then-is_ok
unfolding fresh blank_board
returns-then-is_ok c =
    let a = c.args in
    rw (add-one, c.blank-board.ensures, c.parent_entries-board.ensures) (sym (opened a.m a.d a.parents.now _ (sym c.may_open-answer.ensures) (sym c.is_ok.ensures.value ∙ c.if-is_ok.true)))

pub returns-else-is_ok : goal.returns-else-is_ok
returns-else-is_ok c =
    let a = c.args in
    rw c.blank-board.ensures (sym (left_blank a.m a.d a.parents.now _ (sym c.may_open-answer.ensures) (sym c.is_ok.ensures.value ∙ c.if-is_ok.false)))
