-- A parent has a lower number, and its depth is at most that.
use Rattle.std.proofs.Common.{refl, get_or, arith, rules}
use Rattle.rules.proofs.Sheets.DepthLaws.{depth_by_number}
use Rattle.drains.proofs.lengths.LengthLaws.{first_depth, next_depth}
use Rattle.drains.proofs.lengths.depth_table.Goals as goal

pub loop-i-init : goal.loop-i-init
loop-i-init c = first_depth _ _ (search rules) refl

pub overflow_add-depths : goal.overflow_add-depths
overflow_add-depths c =
    let ps = c.args.parents.now in
    let p = get_or ps c.loop-i.i 0 in
    let l = c.requires c.loop-i.i c.loop-i.invariant.begun (omega arith) in
    rw c.from.ensures (omega (arith, l, c.loop-i.invariant.are p l, depth_by_number ps p))

pub loop-i-preserved : goal.loop-i-preserved
loop-i-preserved c = rw c.from.ensures (next_depth c.args.parents.now c.loop-i.depths c.loop-i.i c.requires c.loop-i.invariant (omega arith))
