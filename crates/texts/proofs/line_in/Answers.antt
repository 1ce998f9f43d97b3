-- `line_in`: the line is as long as its parts and their tabs, and where it fits, its parts are stored one behind the other.
use Rattle.std.proofs.Common.{ℕ, ◌+◌, ◌∷◌, Ok, Err, length, refl, ap, ◌∙◌, arith}
use Rattle.std.proofs.lemmas.Result.{err_from_is_err_and}
use Rattle.placing.proofs.WriteLaws.{refuses, places, written_length}
use Rattle.decimal.specs.Spelling.{spelled}
use Rattle.decimal.proofs.SpellLaws.{spelled_length}
use Rattle.fields.specs.Fields.{tab}
use Rattle.texts.proofs.TextLaws.{has_room, line_length, line_stored}
use Rattle.texts.proofs.line_in.Goals as goal

pub returns-in_err-room_for : goal.returns-in_err-room_for
returns-in_err-room_for c =
    let a = c.args in
    let p = err_from_is_err_and c.from_residual.result c.from_residual.ensures.1 in
    let short = c.in_err-room_for.ensures in
    refuses _ _ _ (omega (arith, short.1, line_length a.number a.answer a.debt a.word.now, c.digit_count-first.ensures, c.digit_count.ensures, c.digit_count-2.ensures)) (p.1 ∙ ap Err (p.2 ∙ short.0)) refl

pub unwrap-requires : goal.unwrap-requires
unwrap-requires c = has_room (spelled c.args.number) 0 c.args.out.now _ c.put_number.ensures.0 refl (omega (arith, c.in_ok-room_for.ensures, spelled_length c.args.number, c.digit_count-first.ensures))

pub unwrap-requires-2 : goal.unwrap-requires-2
unwrap-requires-2 c =
    has_room (tab ∷ spelled c.args.answer) c.digit_count-first.result c.args.out.now _ c.put_tabbed_number.ensures.0 (ap length c.put_number.ensures.1 ∙ written_length _ _ _)
    (omega (arith, c.in_ok-room_for.ensures, spelled_length c.args.answer, c.digit_count.ensures))

pub unwrap-requires-3 : goal.unwrap-requires-3
unwrap-requires-3 c =
    has_room (tab ∷ spelled c.args.debt) (c.digit_count-first.result + 1 + c.digit_count.result) c.args.out.now _ c.put_tabbed_number-2.ensures.0
    (ap length c.put_tabbed_number.ensures.1 ∙ written_length _ _ _ ∙ ap length c.put_number.ensures.1 ∙ written_length _ _ _)
    (omega (arith, c.in_ok-room_for.ensures, spelled_length c.args.debt, c.digit_count-2.ensures))

pub returns : goal.returns
returns c =
    let a = c.args in
    let first = c.digit_count-first.ensures in
    let second = c.digit_count.ensures in
    let third = c.digit_count-2.ensures in
    let len = line_length a.number a.answer a.debt a.word.now in
    let room = c.in_ok-room_for.ensures in
    places _ _ _ (omega (arith, len, first, second, third, room)) (ap (λ (m : ℕ). Ok m) (omega (arith, len, first, second, third)))
    (line_stored a.number a.answer a.debt a.word.now a.out.now _ _ _ (omega (arith, len, first, second, third, room)) first (omega (arith, second)) (omega (arith, third))
    c.put_number.ensures.1 c.put_tabbed_number.ensures.1 c.put_tabbed_number-2.ensures.1 c.put_last_word.ensures)
