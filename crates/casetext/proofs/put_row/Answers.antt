-- Where the row fits, its first number is stored and then its cells.
use Rattle.std.proofs.Common.{ℕ, ◌-◌, ◌<◌, ◌≤◌, Ok, Err, length, refl, sym, ap, ◌∙◌, arith}
use Rattle.std.proofs.lemmas.Result.{err_from_is_err_and}
use borrow.Author.Tests.{leb-true, leb-false}
use Rattle.placing.proofs.WriteLaws.{refuses, places}
use Rattle.decimal.specs.Spelling.{spelled}
use Rattle.decimal.proofs.SpellLaws.{spelled_length}
use Rattle.texts.proofs.TextLaws.{has_room}
use Rattle.casetext.specs.Rows.{cells_text}
use Rattle.casetext.proofs.RowLaws.{row_length, row_stored}
use Rattle.casetext.proofs.put_row.Goals as goal

pub returns-in_err-room_for : goal.returns-in_err-room_for
returns-in_err-room_for c =
    let p = err_from_is_err_and c.from_residual.result c.from_residual.ensures.1 in
    let short = c.in_err-room_for.ensures in
    refuses _ _ _ (omega (arith, short.1, row_length c.args.first c.args.cells.now, c.digit_count-k.ensures)) (p.1 ∙ ap Err (p.2 ∙ short.0)) refl

pub returns-then-not-cells_fit : goal.returns-then-not-cells_fit
returns-then-not-cells_fit c =
    let short : length c.args.out.now - c.args.at - c.digit_count-k.result < length (cells_text c.args.cells.now) = leb-false _ _ (sym c.cells_fit.ensures ∙ c.if-not-cells_fit.true) in
    refuses _ _ _ (omega (arith, row_length c.args.first c.args.cells.now, c.digit_count-k.ensures, short)) refl refl

pub unwrap-requires : goal.unwrap-requires
unwrap-requires c = has_room (spelled c.args.first) c.args.at c.args.out.now _ c.put_number.ensures.0 refl (omega (arith, c.in_ok-room_for.ensures, spelled_length c.args.first, c.digit_count-k.ensures))

pub returns : goal.returns
returns c =
    let roomy : length (cells_text c.args.cells.now) ≤ length c.args.out.now - c.args.at - c.digit_count-k.result = leb-true _ _ (sym c.cells_fit.ensures ∙ c.if-not-cells_fit.false) in
    let room = c.in_ok-room_for.ensures in
    let k = c.digit_count-k.ensures in
    let len = row_length c.args.first c.args.cells.now in
    places _ _ _ (omega (arith, len, k, room, roomy)) (ap (λ (m : ℕ). Ok m) (omega (arith, len, k, c.cells_in-end.ensures.end)))
    (row_stored c.args.first c.args.cells.now c.args.at _ c.args.out.now (omega (arith, k)) (omega (arith, room)) c.put_number.ensures.1 c.cells_in-end.ensures.bytes)
