-- `put_between`: its parts are stored one behind the other, and all of them fit.
use Rattle.std.proofs.Common.{◌∙◌, ap, refl, length, arith}
use Rattle.placing.proofs.WriteLaws.{written_length}
use Rattle.decimal.specs.Spelling.{spelled}
use Rattle.decimal.proofs.CountLaws.{count_most}
use Rattle.decimal.proofs.SpellLaws.{spelled_length}
use Rattle.texts.proofs.TextLaws.{has_room}
use Rattle.sheetdrain.proofs.LineLaws.{between_length, between_stored}
use Rattle.sheetdrain.proofs.lines.put_between.Goals as goal

pub overflow_add-to : goal.overflow_add-to
overflow_add-to c = omega (arith, c.digit_count.ensures, count_most c.args.n, c.requires)

pub unwrap-requires : goal.unwrap-requires
unwrap-requires c = has_room c.args.first.now 0 c.args.line.now c.args.line.now c.put_bytes.ensures.0 refl (omega (arith, c.requires))

pub unwrap-requires-2 : goal.unwrap-requires-2
unwrap-requires-2 c =
    let kept = ap length c.put_bytes.ensures.1 ∙ written_length c.args.first.now 0 c.args.line.now in
    has_room (spelled c.args.n) (length c.args.first.now) c.args.line.now c.put_bytes.new.out c.put_number.ensures.0 kept (omega (arith, spelled_length c.args.n, count_most c.args.n, c.requires))

pub unwrap-requires-3 : goal.unwrap-requires-3
unwrap-requires-3 c =
    let kept = ap length c.put_number.ensures.1 ∙ written_length (spelled c.args.n) (length c.args.first.now) c.put_bytes.new.out ∙ ap length c.put_bytes.ensures.1 ∙ written_length c.args.first.now 0 c.args.line.now in
    has_room c.args.last.now _ c.args.line.now c.put_number.new.out c.put_bytes-2.ensures.0 kept (omega (arith, c.digit_count.ensures, count_most c.args.n, c.requires))

pub overflow_add-result : goal.overflow_add-result
overflow_add-result c = omega (arith, c.digit_count.ensures, count_most c.args.n, c.requires)

pub returns : goal.returns
returns c =
    let all = between_length c.args.first.now c.args.n c.args.last.now in (
      omega (arith, c.digit_count.ensures, all),
      between_stored c.args.first.now c.args.n c.args.last.now c.args.line.now (omega (arith, all, count_most c.args.n, c.requires)) refl (omega (arith, c.digit_count.ensures))
          c.put_bytes.ensures.1 c.put_number.ensures.1 c.put_bytes-2.ensures.1,
    )
