-- The cells of a row from one on: how long they are, whether they fit, and one stored in front of those behind it.
use mathlib.Core.Path.{◌≡◌, sym, ap, ◌∙◌}
use mathlib.Core.List.{List, [], ◌∷◌, ◌++◌}
use Prim.Native.Nat.{ℕ, zero, suc, ◌+◌, ◌<◌, ◌≤◌}
use native.Mathlib.Omega.{arith}
use lib.Dec.{leb, ltb}
use lib.ListN.{length, get_or, drop, length-append, drop_of_length-le}
use lib.Seq.{sets, drop-cons}
use borrow.Author.Tests.{le-leb, lt-leb, lt-ltb, le-ltb}
use Rattle.placing.specs.Placing.{written}
use Rattle.placing.proofs.WriteLaws.{written_then}
use Rattle.decimal.specs.Spelling.{spelled, digit_count}
use Rattle.decimal.proofs.SpellLaws.{spelled_length}
use Rattle.fields.specs.Fields.{tab}
use Rattle.casetext.specs.Rows.{cells_text, cells_row}

module _ (ns : List ℕ) (i : ℕ) where
  -- cell i, and those behind it
  pub cells_from : i < length ns → cells_text (drop i ns) ≡ (tab ∷ spelled (get_or ns i 0)) ++ cells_text (drop (suc i) ns)
  unfolding cells_text
  cells_from h = ap cells_text (drop-cons ns i 0 h)

  -- behind the last cell the line ends
  pub cells_end : length ns ≤ i → cells_text (drop i ns) ≡ 10 ∷ []
  unfolding cells_text
  cells_end h = ap cells_text (drop_of_length-le ns h)

  pub cells_length : i < length ns → length (cells_text (drop i ns)) ≡ digit_count (get_or ns i 0) + 1 + length (cells_text (drop (suc i) ns))
  cells_length h =
      let n = get_or ns i 0 in
      ap length (cells_from h) ∙ omega (arith, length-append (tab ∷ spelled n) (cells_text (drop (suc i) ns)), spelled_length n)

  -- cell i stored at its place, and then those behind it
  pub cell_stored : (to next : ℕ) (out : List ℕ) {left : List ℕ} → i < length ns → next ≡ to + (digit_count (get_or ns i 0) + 1) → next ≤ length out → left ≡ written (tab ∷ spelled (get_or ns i 0)) to out
      → sets left next (cells_text (drop (suc i) ns)) ≡ sets out to (cells_text (drop i ns))
  cell_stored to next out {left} h e f w =
      let n = get_or ns i 0 in
      let behind : next ≡ to + length (tab ∷ spelled n) = omega (arith, e, spelled_length n) in
      ap (λ (k : ℕ). sets left k (cells_text (drop (suc i) ns))) behind ∙ written_then (tab ∷ spelled n) (cells_text (drop (suc i) ns)) to out (omega (arith, behind, f)) w
      ∙ ap (λ (t : List ℕ). sets out to t) (sym (cells_from h))

-- a row is as long as its first number and its cells
pub row_length : (first : ℕ) (ns : List ℕ) → length (cells_row first ns) ≡ digit_count first + length (cells_text ns)
row_length first ns = length-append (spelled first) (cells_text ns) ∙ omega (arith, spelled_length first)

-- the first number stored, and then the cells
pub row_stored : (first : ℕ) (ns : List ℕ) (at to : ℕ) (out : List ℕ) {left last : List ℕ} → to ≡ at + digit_count first → to ≤ length out → left ≡ written (spelled first) at out → last ≡ sets left to (cells_text ns)
    → last ≡ sets out at (cells_row first ns)
row_stored first ns at to out {left} p h w e =
    let behind : to ≡ at + length (spelled first) = omega (arith, p, spelled_length first) in
    e ∙ ap (λ (k : ℕ). sets left k (cells_text ns)) behind ∙ written_then (spelled first) (cells_text ns) at out (omega (arith, behind, h)) w

-- room for the line's end is left exactly where all fits
pub last_fits : (left all room : ℕ) → all + left ≡ 1 + room → ltb 0 left ≡ leb all room
last_fits zero all room e = le-ltb 0 0 (omega arith) ∙ sym (lt-leb all room (omega (arith, e)))
last_fits (suc left) all room e = lt-ltb 0 (suc left) (omega arith) ∙ sym (le-leb all room (omega (arith, e)))
