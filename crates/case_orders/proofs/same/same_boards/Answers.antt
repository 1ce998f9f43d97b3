-- `==` asks field after field.
use Rattle.std.proofs.lemmas.Bool.Decides.{Decides-at}
use Rattle.case_orders.proofs.SameLaws.{boards_same}
use Rattle.case_orders.proofs.same.same_boards.Goals as goal

pub returns : goal.returns
returns c = Decides-at _ _ c.eq.ensures (boards_same _ _)
