-- `list`: what was handed over are the first bytes of the listing, and what the output has got, and the cursor stands behind them. Each turn
-- leaves fewer.
use Rattle.std.proofs.Common.{◌≡◌, length, take}
use Rattle.std.specs.Io.KnownBytes.{Appends}
use Rattle.listing.specs.Scripts.{listing}
use Rattle.listing.proofs.PieceLaws.{turns_left}
use Rattle.sheetboard.proofs.OutputLaws.{Handing}
use Rattle.sheetboard.proofs.list.Given as goal

abbrev pub invariant-loop-out : goal.invariant-loop-out
invariant-loop-out g l = record {
  room : length l.out ≡ 32768;
  handing : Handing l.script l.c l.to.handed;
  bytes : Appends (g.W.Write.contents l.initial.to.writer) (g.W.Write.contents l.to.writer) (take l.to.handed (listing l.script));
}

abbrev pub decreases-loop-out : goal.decreases-loop-out
decreases-loop-out g l = turns_left l.c l.script
