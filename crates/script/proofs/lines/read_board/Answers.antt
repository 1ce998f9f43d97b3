-- `read_board`: whether the line opens a board or not.
use mathlib.Core.Path.{◌≡◌, sym, ap, ◌∙◌}
use mathlib.Core.Bool.{true, false}
use Rattle.std.proofs.Common.{rules}
use Rattle.script.specs.Lines.{is_opening}
use Rattle.script.proofs.ParentLaws.{board_opens, board_refused}
use Rattle.script.proofs.lines.read_board.Goals as goal

pub returns-in-Ok-Opens : goal.returns-in-Ok-Opens
returns-in-Ok-Opens c =
    let e : is_opening c.read_line-reading.result ≡ true = search rules in
    board_opens c.args.line.now (sym (ap is_opening c.read_line-reading.ensures) ∙ e) c.parents_of-parents.ensures c.read_line-reading.ensures

pub returns-in_default : goal.returns-in_default
returns-in_default c =
    let e : is_opening c.read_line-reading.result ≡ false = search rules in
    board_refused c.args.line.now (sym (ap is_opening c.read_line-reading.ensures) ∙ e) c.read_line-reading.ensures

pub returns-in_default-2 : goal.returns-in_default-2
returns-in_default-2 c =
    let e : is_opening c.read_line-reading.result ≡ false = search rules in
    board_refused c.args.line.now (sym (ap is_opening c.read_line-reading.ensures) ∙ e) c.read_line-reading.ensures
