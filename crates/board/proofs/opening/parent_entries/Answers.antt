-- The parents are copied behind unit 0's entry.
use Rattle.std.proofs.Common.{◌≡◌, ◌+◌, ◌-◌, length, arith}
use Rattle.board.proofs.opening.OpeningLaws.{placed}
use Rattle.board.proofs.opening.parent_entries.Goals as goal

pub returns : goal.returns
returns c =
    let long : length c.args.parents.now + 1 - 1 ≡ length c.args.parents.now = omega arith in
    placed c.args.parents.now _ _ c.copy_from_slice.ensures.after long
