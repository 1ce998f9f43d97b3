-- `read_number`: the laws of a byte that is a digit, and of one that is not or makes the value too large.
use Rattle.std.proofs.Common.{get_or, sym, ◌∙◌, rules, arith}
use Rattle.std.proofs.lemmas.Result.{err_from_is_err_and}
use Rattle.decimal.proofs.ReadLaws.{read_empty, read_start, read_end, read_next, with_small}
use Rattle.decimal.proofs.read_number.Goals as goal

pub returns-then-is_empty : goal.returns-then-is_empty
returns-then-is_empty c = sym (read_empty _ (search rules))

pub loop-c-init : goal.loop-c-init
loop-c-init c = record { small = omega arith; same = read_start _ (search rules) }

pub loop-c-preserved : goal.loop-c-preserved
loop-c-preserved c =
    record {
      small = with_small c.loop-c.value (get_or c.args.field.now c.loop-c.c-index 0) c.in_ok-value.ensures;
      same = c.loop-c.invariant.same ∙ read_next _ _ _ c.loop-c-test.true c.in_ok-value.ensures;
    }

pub returns-in_err-value : goal.returns-in_err-value
returns-in_err-value c =
    let left = err_from_is_err_and c.from_residual.result c.from_residual.ensures.1 in
    rw (left.1, left.2) (sym (c.loop-c.invariant.same ∙ read_next _ _ _ c.loop-c-test.true c.in_err-value.ensures))

pub returns : goal.returns
returns c = sym (c.loop-c.invariant.same ∙ read_end _ _ _ c.loop-c-test.false c.loop-c.invariant.small)
