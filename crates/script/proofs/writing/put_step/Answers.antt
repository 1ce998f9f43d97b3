-- `put_step`: the word and the letters fit, and with byte 10 behind them they are the text.
use mathlib.Core.Path.{sym, ◌∙◌}
use native.Mathlib.Omega.{arith}
use Rattle.script.proofs.LineLaws.{word_written, letters_fit, text_made}
use Rattle.script.proofs.writing.put_step.Goals as goal

pub unwrap-from-requires : goal.unwrap-from-requires
unwrap-from-requires c =
    rw (c.put_bytes.ensures.0, word_written c.args.r c.requires.0 c.requires.1 (record { kind = omega arith; unit = omega arith; other = omega arith; slot = omega arith }) c.step_word.ensures c.args.out.now c.requires.2)

pub put_letters-end-requires : goal.put_letters-end-requires
put_letters-end-requires c =
    letters_fit c.args.r c.requires.0 c.requires.1 (record { kind = omega arith; unit = omega arith; other = omega arith; slot = omega arith }) c.step_word.ensures c.args.out.now c.requires.2
    (sym c.put_bytes.ensures.0 ∙ c.unwrap-from.ensures) c.put_bytes.ensures.1

pub bounds-out-end : goal.bounds-out-end
bounds-out-end c =
    let t =
    text_made c.args.r c.requires.0 c.requires.1 (record { kind = omega arith; unit = omega arith; other = omega arith; slot = omega arith }) c.step_word.ensures c.args.out.now c.requires.2
    (sym c.put_bytes.ensures.0 ∙ c.unwrap-from.ensures) c.put_bytes.ensures.1 c.put_letters-end.ensures.0 c.put_letters-end.ensures.1 in
    t.inside

pub overflow_add-result : goal.overflow_add-result
overflow_add-result c =
    let t =
    text_made c.args.r c.requires.0 c.requires.1 (record { kind = omega arith; unit = omega arith; other = omega arith; slot = omega arith }) c.step_word.ensures c.args.out.now c.requires.2
    (sym c.put_bytes.ensures.0 ∙ c.unwrap-from.ensures) c.put_bytes.ensures.1 c.put_letters-end.ensures.0 c.put_letters-end.ensures.1 in
    omega (arith, t.inside)

pub returns : goal.returns
returns c =
    let t =
    text_made c.args.r c.requires.0 c.requires.1 (record { kind = omega arith; unit = omega arith; other = omega arith; slot = omega arith }) c.step_word.ensures c.args.out.now c.requires.2
    (sym c.put_bytes.ensures.0 ∙ c.unwrap-from.ensures) c.put_bytes.ensures.1 c.put_letters-end.ensures.0 c.put_letters-end.ensures.1 in
    record { whole = t.whole; bytes = t.put; fits = t.fits }
