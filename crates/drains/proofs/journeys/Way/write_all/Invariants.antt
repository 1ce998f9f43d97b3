-- The steps of the sources passed are written.
use Rattle.std.proofs.Common.{take}
use Rattle.rules.specs.Sheets.Longest.{join_of}
use Rattle.drains.specs.Writing.{Writes}
use Rattle.drains.proofs.journeys.Way.write_all.Given as goal

abbrev pub invariant-loop-i : goal.invariant-loop-i
invariant-loop-i g l = Writes (join_of (λ i x. g.S.Source.steps l.self i x) (take l.i l.sources)) l.fn.at l.fn.list l.list l.at
