-- The board of the walk over the list, from the board that was opened.
use Rattle.std.proofs.Common.{ap, ◌∙◌}
use Rattle.rules.specs.Lists.{after}
use Rattle.rules.specs.declared.Outcome.{Outcome}
use Rattle.bench.specs.Records.{records_in}
use Rattle.bench.specs.Counts.{walk_of}
use Rattle.bench.specs.declared.walks.Walked.{Walked}
use Rattle.bench_drains.specs.Told.{stepped_board}
use Rattle.bench_drains.proofs.board_after.Goals as goal

pub returns : goal.returns
unfolding stepped_board walk_of
returns c = ap (λ (w : Walked). w.board) c.batched.ensures ∙ ap (λ (o : Outcome). after o.board (records_in c.args.steps.now)) c.open.ensures
