-- `line_at`: the place behind a line is behind its byte 10, and the text's end where it has none.
use mathlib.Core.Path.{◌≡◌, ap}
use mathlib.Core.List.{List}
use Prim.Native.Nat.{ℕ, suc, ◌+◌, ◌≤◌, ◌<◌, min}
use native.Mathlib.Omega.{arith}
use borrow.Author.Tests.{leb-true, leb-false}
use lib.ListN.{length, length-drop, drop_of_length-le}
use lib.Dec.{leb}
use Rattle.fields.specs.Fields.{past, end_from}
use Rattle.fields.proofs.Cases.{by_test}
use Rattle.fields.proofs.PartLaws.{past_from, end_at_most, end_last}
use Rattle.numbers.specs.Lines.{behind, line_at}
use Rattle.numbers.proofs.lines.line_at.Goals as goal

-- past the text's end there is none
behind_past : (at : ℕ) (s : List ℕ) → length s ≤ at → behind at s ≡ length s
unfolding past
behind_past at s l = rw (drop_of_length-le s {i = at} l) (omega arith)

-- it is behind the byte that ends the line, where there is one
module _ (at : ℕ) (s : List ℕ) {e : ℕ} (t : e ≡ end_from 10 at s) where
  behind_is : behind at s ≡ min (suc e) (length s)
  behind_is =
      by_test (leb at (length s))
      (λ q. omega (arith, ap length (past_from 10 at s (leb-true at (length s) q)), length-drop (suc (end_from 10 at s)) s, end_at_most 10 at s, t))
      (λ q.
      let past_end : length s ≤ at = omega (arith, leb-false at (length s) q) in
      omega (arith, behind_past at s past_end, end_last 10 at s past_end, t))

  line_is : {n : ℕ} → n ≡ min (suc e) (length s) → record { end = e; next = n } ≡ line_at at s
  line_is q = rw (q, behind_is, t)

  line_ended : e < length s → record { end = e; next = e + 1 } ≡ line_at at s
  line_ended m = line_is (omega (arith, m))

  line_last : length s ≤ e → record { end = e; next = e } ≡ line_at at s
  line_last m = line_is (omega (arith, m, t, end_at_most 10 at s))

pub returns-then-end-text : goal.returns-then-end-text
returns-then-end-text c = line_ended _ _ c.end_from-end.ensures c.if-end-text.true

pub returns : goal.returns
returns c = line_last _ _ c.end_from-end.ensures c.if-end-text.false
