-- The listing of the bytes that were read is that of the whole input: of a script that is too long it tells no more.
use Rattle.std.proofs.Common.{◌≡◌, sym, subst, ℕ, ◌<◌, List, ◌++◌, length, length-append, take, Result, Ok, Err, is_ok, arith}
use Rattle.std.specs.declared.io.Error.{Error}
use Rattle.std.specs.declared.option.Option.{Option}
use Rattle.listing.specs.Scripts.{listing}
use Rattle.listing.proofs.StartLaws.{start_long}
use Rattle.reading.proofs.InputLaws.{reads_enough}
use Rattle.reading.specs.Input.{ReadBetween, Gives}
use Rattle.reading.specs.Output.{ToldAsRead}
use Rattle.reading.specs.declared.failures.Failure.{Failure}
use Rattle.reading.specs.declared.failures.Failure.TheVariants.{Reading, Writing}
use Rattle.sheetboard.specs.Output.{Lists, ListsCounted}

pub listing_cut : (t rest : List ℕ) → 65535 < length t → listing (t ++ rest) ≡ listing t
unfolding listing
listing_cut t rest l =
    let long : 65535 < length (t ++ rest) = omega (arith, length-append t rest) in
    rw (start_long (t ++ rest) long, start_long t l)

-- what was handed over of a reading was handed over of the input
pub lists_read : (input rest : Option (List ℕ)) (buf : List ℕ) (count : ℕ) → length buf ≡ 65536 → (read : Result ℕ Error) (told : Result Unit Failure) → ReadBetween 0 (length buf) read
    → Gives input rest read buf → ToldAsRead read told → ListsCounted read buf (is_ok told) count → Lists input told count
lists_read input rest buf count room (Ok n) (Ok x) within given t h =
    record { read = take n buf; whole = reads_enough listing 65535 listing_cut input rest n buf room within.1 given; handed = h }
lists_read input rest buf count room (Ok n) (Err (Writing e)) within given t h =
    record { read = take n buf; whole = reads_enough listing 65535 listing_cut input rest n buf room within.1 given; handed = h }
lists_read input rest buf count room (Ok n) (Err (Reading e)) within given t h = absurd t
lists_read input rest buf count room (Err e) told within given t h = subst (λ (x : Result Unit Failure). Lists input x count) (sym t) h
