-- The unit number falls, since a parent has a lower one.
use Rattle.board.proofs.depths.+depth_along.Given as goal

abbrev pub decreases-depth_along : goal.decreases-depth_along
decreases-depth_along l = l.u
