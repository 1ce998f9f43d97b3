-- The depth is one more than the parent's, which is lower, so it fits.
use Rattle.std.proofs.Common.{◌<◌, ℕ, suc, get_or, sym, ap, ◌∙◌, add-one, arith}
use Rattle.rules.specs.Sheets.Depths.{depth, depth_within}
use Rattle.rules.proofs.Sheets.DepthLaws.{depth_parent, depth_by_number}
use Rattle.board.proofs.depths.+depth_along.Goals as goal

pub returns-then-u-eq0 : goal.returns-then-u-eq0
unfolding depth depth_within
returns-then-u-eq0 t c = sym (ap (λ (u : ℕ). depth c.args.parents.now u) c.if-u-eq0.true)

pub overflow_add-result : goal.overflow_add-result
overflow_add-result t c =
    let lower : get_or c.args.parents.now c.args.u 0 < c.args.u = c.requires.by_index c.args.u (omega arith) (omega arith) in
    let above = rw c.from.ensures at c.depth_along.ensures in
    omega (arith, depth_by_number c.args.parents.now (get_or c.args.parents.now c.args.u 0))

pub returns : goal.returns
returns t c =
    let above = rw c.from.ensures at c.depth_along.ensures in
    add-one _ ∙ ap suc above ∙ sym (depth_parent c.args.parents.now c.args.u (omega arith) c.requires.by_index)
