-- A line that opens a board has no more parents than there is room for.
use Rattle.std.proofs.Common.{◌≡◌, Ok, rules, arith}
use Rattle.script.specs.declared.Line.TheVariants.{Opens}
use Rattle.script.proofs.ParentLaws.{board_parents}
use Rattle.case_orders.proofs.building.built.Goals as goal

pub shared_ref_as_front-parents : goal.shared_ref_as_front-parents
shared_ref_as_front-parents c =
    let says : c.read_board-read.result.reading ≡ Ok (Opens c.in-Ok-Opens.m c.in-Ok-Opens.d c.in-Ok-Opens.count) = search rules in
    omega (arith, c.from.ensures, (board_parents c.args.line.now c.read_board-read.ensures says).0)
