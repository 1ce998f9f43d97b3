-- A line's three parts stored one behind the other, how long a line can be, and where it stands.
use mathlib.Core.Path.{◌≡◌, refl, ap, ◌∙◌}
use mathlib.Core.List.{List, [], ◌∷◌, ◌++◌, append_assoc}
use Prim.Native.Nat.{ℕ, ◌+◌, ◌≤◌}
use native.Mathlib.Omega.{arith}
use lib.ListN.{length, take, drop, length-append}
use lib.Seq.{sets, sets-eq, take_at}
use Rattle.std.specs.Prelude.{Result, Ok, Err}
use Rattle.refusals.specs.declared.Refusal.{Refusal}
use Rattle.refusals.specs.Numbers.{number}
use Rattle.placing.specs.Placing.{written}
use Rattle.placing.proofs.WriteLaws.{written_fits}
use Rattle.decimal.specs.Spelling.{spelled, digit_count}
use Rattle.decimal.proofs.SpellLaws.{spelled_length}
use Rattle.decimal.proofs.CountLaws.{count_most}
use Rattle.texts.proofs.TextLaws.{written_then_fits}
use Rattle.sheetdrain.specs.Lines.{at_most_text, steps_more_text, refused_by_text, between, line_of, Puts}

module _ (first : List ℕ) (n : ℕ) (last : List ℕ) where
  pub between_length : length (between first n last) ≡ length first + digit_count n + length last
  between_length = omega (arith, length-append first (spelled n ++ last), length-append (spelled n) last, spelled_length n)

  pub between_stored : (line : List ℕ) {from to : ℕ} {one two three : List ℕ} → length (between first n last) ≤ length line → from ≡ length first → to ≡ from + digit_count n
      → one ≡ written first 0 line → two ≡ written (spelled n) from one → three ≡ written last to two → three ≡ sets line 0 (between first n last)
  between_stored line {from} {to} l p q a b c =
      let digits = spelled_length n in
      let both = length-append first (spelled n) in
      let all = between_length in
      written_then_fits (first ++ spelled n) last 0 to line (omega (arith, p, q, digits, both)) (omega (arith, l, p, q, all))
      (written_then_fits first (spelled n) 0 from line (omega (arith, p)) (omega (arith, l, p, digits, all)) (a ∙ written_fits first 0 line (omega (arith, l, all))) b) c
      ∙ ap (sets line 0) (append_assoc first (spelled n) last)

-- no line is longer
pub told_line_most : (told : Result ℕ Refusal) → length (line_of told) ≤ 44
told_line_most (Ok n) = omega (arith, between_length at_most_text n steps_more_text, count_most n)
told_line_most (Err k) = omega (arith, between_length refused_by_text (number k) (10 ∷ []), count_most (number k))

-- what is handed over of a line that fits, the first `r` bytes of the buffer, is the line
pub line_handed : (text line left : List ℕ) (r : ℕ) → length text ≤ length line → Puts text line r left → take r left ≡ text
line_handed text line left r l p =
    let starts : take (length text) (sets line 0 text) ≡ text =
    rw (sets-eq text line 0 (omega (arith, l))) (take_at text (drop (0 + length text) line) (length text) refl) in
    ap (λ (k : ℕ). take k left) p.0 ∙ ap (take (length text)) p.1 ∙ starts
