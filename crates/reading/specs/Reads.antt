-- One read of the input, behind the bytes that were read before.
-- For private contracts only; a reader of the claim may skip this.
use Rattle.std.specs.Prelude.{◌≡◌, List, ℕ, ◌+◌, ◌-◌, ◌<◌, min, length, take, drop, Result, Ok, Err}
use Rattle.std.specs.Io.KnownBytes.{Consumes, IsAtEnd, Keeps}
use Rattle.std.specs.declared.option.Option.{Option}
use Rattle.std.specs.declared.io.Error.{Error}
use Rattle.reading.specs.Input.{ReadBetween}

-- what a read behind the first `at` bytes of a buffer has answered: why it failed, or where the bytes read now end
abbrev pub told_by : ℕ → ℕ → Result ℕ Error → Result ℕ Error
told_by at room (Ok k) = Ok (at + min k (room - at))
told_by at room (Err e) = Err e

-- a read behind the first `at` bytes of a buffer leaves these as they were, and counts them in
pub record ReadsOn (at : ℕ) (before : List ℕ) (read : Result ℕ Error) (after : List ℕ) : Type 0 where
  pub kept : take at after ≡ take at before
  pub within : ReadBetween at (length before) read

-- the bytes that it puts there are the next that the reader had left, none only where it has none left or there is no room; a read that fails takes none
abbrev pub GivesOn : ℕ → Option (List ℕ) → Option (List ℕ) → Result ℕ Error → List ℕ → Type 0
GivesOn at before after (Ok n) buf = Consumes before after (take (n - at) (drop at buf)) × (n ≡ at → at < length buf → IsAtEnd after)
GivesOn at before after (Err e) buf = Keeps before after
