-- What the reading of the input says of its buffer: how many bytes it read and, where the bytes that the reader has left are known, which.
use Rattle.std.specs.Prelude.{ℕ, ◌≤◌, ◌<◌, List, length, take, Result, Ok, Err}
use Rattle.std.specs.Io.KnownBytes.{Consumes, IsAtEnd}
use Rattle.std.specs.declared.option.Option.{Option}
use Rattle.std.specs.declared.io.Error.{Error}

-- the bytes read are at least and at most so many; of a failed reading nothing is said
abbrev pub ReadBetween : ℕ → ℕ → Result ℕ Error → Type 0
ReadBetween least most (Ok n) = (least ≤ n) × (n ≤ most)
ReadBetween least most (Err e) = Unit {0}

-- the bytes read are the next that the reader had left, and it has none left but where the buffer is full; of a failed reading nothing is said
abbrev pub Gives : Option (List ℕ) → Option (List ℕ) → Result ℕ Error → List ℕ → Type 0
Gives before after (Ok n) buf = Consumes before after (take n buf) × (n < length buf → IsAtEnd after)
Gives before after (Err e) buf = Unit {0}
