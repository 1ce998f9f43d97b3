-- What is left from each turn on gives what the whole gives.
use Rattle.bench.proofs.delays.DelayLaws.{DelayTurn}
use Rattle.bench.proofs.delays.sound_count.Given as goal

abbrev pub invariant-loop-delay : goal.invariant-loop-delay
invariant-loop-delay l = DelayTurn l.fn.board l.delays l.board l.count l.delay-index
