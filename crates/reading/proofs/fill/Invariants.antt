-- `fill`: the bytes counted are within the buffer, and the first that the reader had left, and the last read told their number; each turn but
-- the last counts more.
use Rattle.std.proofs.Common.{◌≡◌, ◌-◌, ◌≤◌, IfOk, length, take}
use Rattle.std.specs.Io.KnownBytes.{Consumes}
use Rattle.reading.proofs.fill.Given as goal

abbrev pub invariant-loop-count : goal.invariant-loop-count
invariant-loop-count g l = record {
  within : l.count ≤ length l.buf;
  bytes : Consumes (g.R.Read.remaining l.initial.input) (g.R.Read.remaining l.input) (take l.count l.buf);
  counted : IfOk l.read (λ n. n ≡ l.count);
}

abbrev pub decreases-loop-count : goal.decreases-loop-count
decreases-loop-count g l = length l.buf - l.count
