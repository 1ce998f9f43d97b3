-- The record is the definition's.
use Rattle.std.proofs.Common.{refl}
use Rattle.rules.specs.Opening.{blank_board}
use Rattle.board.proofs.opening.blank.Goals as goal

pub returns : goal.returns
unfolding blank_board
returns c = refl
