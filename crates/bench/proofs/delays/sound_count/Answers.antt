-- A turn tries one more delay; after the last nothing is left.
use Rattle.std.proofs.Common.{◌∙◌, arith}
use Rattle.bench.proofs.WalkLaws.{byte_one}
use Rattle.bench.proofs.delays.DelayLaws.{turn_goes, turn_ends}
use Rattle.bench.proofs.delays.sound_count.Goals as goal

pub loop-delay-preserved : goal.loop-delay-preserved
loop-delay-preserved c = turn_goes c.loop-delay.invariant (omega arith) c.is_sound.ensures (c.from-count.ensures ∙ byte_one _)

pub returns : goal.returns
returns c = turn_ends c.loop-delay.invariant (omega arith)
