-- What is told of the bytes that were read is what is told of the whole input: of a script that is too long it is 26.
use Rattle.std.proofs.Common.{◌≡◌, ap, ℕ, ◌<◌, List, ◌++◌, length, length-append, arith}
use Rattle.listing.specs.Endings.{end_outcome}
use Rattle.listing.proofs.StartLaws.{start_long}
use Rattle.sheetdrain.specs.Drains.{script_drain}
use Rattle.sheetdrain.specs.Lines.{line_of, script_line}

pub drain_cut : (t rest : List ℕ) → 65535 < length t → script_drain (t ++ rest) ≡ script_drain t
unfolding script_drain end_outcome
drain_cut t rest l =
    let long : 65535 < length (t ++ rest) = omega (arith, length-append t rest) in
    rw (start_long (t ++ rest) long, start_long t l)

pub line_cut : (t rest : List ℕ) → 65535 < length t → script_line (t ++ rest) ≡ script_line t
line_cut t rest l = ap line_of (drain_cut t rest l)
