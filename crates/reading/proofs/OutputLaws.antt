-- What reaches an output of the bytes that were read, and so of the whole input, where its text is theirs.
use Rattle.std.proofs.Common.{◌≡◌, sym, subst, ℕ, ◌+◌, ◌<◌, List, ◌++◌, length, Result, Ok, Err}
use Rattle.std.proofs.lemmas.Option.{IfSome_then}
use Rattle.std.specs.Io.KnownBytes.{Appends}
use Rattle.std.specs.declared.io.Error.{Error}
use Rattle.std.specs.declared.option.Option.{Option}
use Rattle.reading.proofs.InputLaws.{reads_enough}
use Rattle.reading.specs.Input.{ReadBetween, Gives}
use Rattle.reading.specs.Output.{Arrives, ArrivesCounted, ToldAsRead}
use Rattle.reading.specs.declared.failures.Failure.{Failure}
use Rattle.reading.specs.declared.failures.Failure.TheVariants.{Reading, Writing}

-- what reached the output of a reading, into a buffer of one byte more than what is taken alike, reached it of the input
pub read_arrives : (text : List ℕ → List ℕ) (most : ℕ) → ((t rest : List ℕ) → most < length t → text (t ++ rest) ≡ text t) → (input rest before after : Option (List ℕ)) (buf : List ℕ)
    → length buf ≡ most + 1 → (read : Result ℕ Error) (told : Result Unit Failure) → ReadBetween 0 (length buf) read → Gives input rest read buf → ToldAsRead read told
    → ArrivesCounted text before after read buf told → Arrives text input before after told
read_arrives text most same input rest before after buf room (Ok n) (Ok x) within given t h =
    IfSome_then input (reads_enough text most same input rest n buf room within.1 given) (λ s e. subst (Appends before after) e h)
read_arrives text most same input rest before after buf room (Ok n) (Err (Writing e)) within given t h = tt
read_arrives text most same input rest before after buf room (Ok n) (Err (Reading e)) within given t h = absurd t
read_arrives text most same input rest before after buf room (Err e) told within given t h = subst (Arrives text input before after) (sym t) h
