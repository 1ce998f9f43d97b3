-- The count is on the board after the list.
use Rattle.std.proofs.Common.{ap, ◌∙◌}
use Rattle.rules.specs.declared.Board.{Board}
use Rattle.bench.specs.Counts.{sound_with}
use Rattle.bench.proofs.WalkLaws.{walk_board}
use Rattle.bench.proofs.bench_soundness.Goals as goal

pub returns : goal.returns
returns c = c.sound_count.ensures ∙ ap (λ (b : Board). sound_with b c.args.delays.now) (walk_board _ _ _ _ c.stepped.ensures c.tree_board.ensures)
