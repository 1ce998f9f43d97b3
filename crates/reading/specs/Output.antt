-- What reaches the output of a program that makes a text of its whole input, and how a failure is answered.
use Rattle.std.specs.Prelude.{◌≡◌, List, ℕ, take, Result, Ok, Err, OnOk, IfSome}
use Rattle.std.specs.Io.KnownBytes.{Keeps, Appends}
use Rattle.std.specs.declared.option.Option.{Option}
use Rattle.std.specs.declared.io.Error.{Error}
use Rattle.reading.specs.declared.failures.Failure.{Failure}
use Rattle.reading.specs.declared.failures.Failure.TheVariants.{Reading, Writing}

-- the text, where nothing failed; where a read failed, nothing; of a write that failed nothing is said
abbrev pub Arrives : (List ℕ → List ℕ) → Option (List ℕ) → Option (List ℕ) → Option (List ℕ) → Result Unit Failure → Type 0
Arrives text input before after (Ok x) = IfSome input (λ s. Appends before after (text s))
Arrives text input before after (Err (Reading e)) = Keeps before after
Arrives text input before after (Err (Writing e)) = Unit {0}

-- of a reading: the text of the bytes of the buffer that it counted, where nothing failed; of one that failed, nothing
abbrev pub ArrivesCounted : (List ℕ → List ℕ) → Option (List ℕ) → Option (List ℕ) → Result ℕ Error → List ℕ → Result Unit Failure → Type 0
ArrivesCounted text before after (Ok n) buf told = OnOk told (Appends before after (text (take n buf)))
ArrivesCounted text before after (Err e) buf told = Keeps before after

-- a reading that failed is answered with its cause, and one that did not fail is not answered as failed
abbrev pub ToldAsRead : Result ℕ Error → Result Unit Failure → Type 0
ToldAsRead (Ok n) (Ok x) = Unit {0}
ToldAsRead (Ok n) (Err (Writing e)) = Unit {0}
ToldAsRead (Ok n) (Err (Reading e)) = ⊥
ToldAsRead (Err e) told = told ≡ Err (Reading e)
