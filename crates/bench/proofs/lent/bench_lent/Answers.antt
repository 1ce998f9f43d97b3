-- A turn leaves what its step leaves; after the last nothing is left.
use Rattle.std.proofs.Common.{ap, ◌∙◌, arith}
use mir.Val.{bool_byte}
use Rattle.bench.proofs.WalkLaws.{ok_one}
use Rattle.bench.proofs.lent.TurnLaws.{lent_goes, lent_ends}
use Rattle.bench.proofs.lent.bench_lent.Goals as goal

pub loop-record-preserved : goal.loop-record-preserved
loop-record-preserved c = lent_goes c.loop-record.invariant c.loop-record-test.true c.step_lent.ensures.answer c.step_lent.ensures.board (c.from-count.ensures ∙ ap bool_byte c.is_ok.ensures.value ∙ ok_one _)

pub returns : goal.returns
returns c = lent_ends c.loop-record.invariant (omega arith)
