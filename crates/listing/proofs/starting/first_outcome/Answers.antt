-- In each arm the line says what the arm's case is.
use mathlib.Core.Path.{◌≡◌, sym, ap, ◌∙◌}
use native.Mathlib.Omega.{arith}
use Rattle.std.proofs.Common.{rules, Ok}
use Rattle.rules.specs.Opening.{opening}
use Rattle.script.specs.Lines.{parents_of}
use Rattle.script.specs.declared.Line.TheVariants.{Opens, Asks}
use Rattle.script.proofs.ParentLaws.{board_reading, board_parents}
use Rattle.listing.specs.Scripts.{first_outcome}
use Rattle.listing.proofs.starting.first_outcome.Goals as goal

pub shared_ref_as_front-open : goal.shared_ref_as_front-open
shared_ref_as_front-open c =
    let says : c.read_board-b.result.reading ≡ Ok (Opens c.in-Ok-Opens.m c.in-Ok-Opens.d c.in-Ok-Opens.count) = search rules in
    omega (arith, (board_parents c.args.line.now c.read_board-b.ensures says).0, c.from.ensures)

pub returns-in-Ok-Opens : goal.returns-in-Ok-Opens
returns-in-Ok-Opens c =
    let says : c.read_board-b.result.reading ≡ Ok (Opens c.in-Ok-Opens.m c.in-Ok-Opens.d c.in-Ok-Opens.count) = search rules in
    rw c.from.ensures at c.open.ensures
    ∙ ap (opening c.in-Ok-Opens.m c.in-Ok-Opens.d) (board_parents c.args.line.now c.read_board-b.ensures says).1
    ∙ ap (first_outcome (parents_of c.args.line.now)) (sym says ∙ board_reading c.args.line.now c.read_board-b.ensures)

pub returns-in-Ok-Asks : goal.returns-in-Ok-Asks
returns-in-Ok-Asks c =
    let says : c.read_board-b.result.reading ≡ Ok (Asks c.in-Ok-Asks.field-0-0) = search rules in
    c.refused.ensures ∙ ap (first_outcome (parents_of c.args.line.now)) (sym says ∙ board_reading c.args.line.now c.read_board-b.ensures)

pub returns-in-Err : goal.returns-in-Err
returns-in-Err c = c.refused-in-Err.ensures ∙ ap (first_outcome (parents_of c.args.line.now)) (sym c.in-Err.is ∙ board_reading c.args.line.now c.read_board-b.ensures)
