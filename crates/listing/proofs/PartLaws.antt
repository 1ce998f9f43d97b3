-- A part in two: so many pieces, then so many more; and pieces enough.
use mathlib.Core.Path.{◌≡◌, refl, sym, ap, ◌∙◌}
use mathlib.Core.Bool.{Bool, true, false, not, ◌||◌}
use mathlib.Core.List.{List, [], ◌++◌, append_assoc, append-nil}
use Prim.Native.Nat.{ℕ, zero, suc, ◌+◌, ◌-◌, ◌≤◌}
use native.Mathlib.Nat.{zero-add, add_comm, suc-add, sub-zero}
use native.Mathlib.Omega.{arith}
use lib.ListN.{length, length-append}
use lib.Dec.{leb}
use lib.Seq.{sets}
use borrow.Author.Tests.{le-leb, leb-true}
use Rattle.refusals.specs.Numbers.{number_of}
use Rattle.rules.specs.Finished.{verdict}
use Rattle.rules.specs.declared.Outcome.{Outcome}
use Rattle.rules.proofs.FactLaws.{true_not_false}
use Rattle.fields.proofs.Cases.{by_test, by_cond}
use Rattle.std.specs.Prelude.{Result}
use Rattle.refusals.specs.declared.Refusal.{Refusal}
use Rattle.rules.specs.declared.Verdict.{Verdict}
use Rattle.texts.specs.Texts.{heading, state_word, line_text, board_text}
use Rattle.listing.specs.Scripts.{start_outcome}
use Rattle.listing.specs.Parts.{Piece, ended, later_piece, piece, rest_from, stops, before, part_within, part}
use Rattle.texts.proofs.TextLaws.{line_length}
use Rattle.listing.proofs.StartLaws.{start_text}
use Rattle.listing.proofs.PieceLaws.{outcome_at, turns_left, turns_most, piece_fewer, no_turns, rest_piece}
use Rattle.listing.specs.Turns.{cursor_of, WritesPieces}
use Rattle.listing.specs.declared.Cursor.{Cursor}
use Rattle.listing.specs.declared.Cursor.TheVariants.{Beginning, Behind}
use Rattle.listing.specs.declared.turns.Progress.{Progress}

abbrev pub none : Cursor → Piece
none c = record { text = []; next = c }

-- where a part stops it adds nothing, however many pieces are asked for
pub part_stopped : (k : ℕ) (c : Cursor) (s : List ℕ) (room : ℕ) → stops c s room ≡ true → part_within k c s room ≡ none c
unfolding part_within
part_stopped zero c s room e = refl
part_stopped (suc k) c s room e = rw e

-- before the end a part goes on where the next piece fits, and only there
pub goes_on : (c : Cursor) (s : List ℕ) (room : ℕ) → ended c s ≡ false → length (piece c s).text ≤ room → stops c s room ≡ false
goes_on c s room e l = rw (e, le-leb (length (piece c s).text) room l)

went_on : (c : Cursor) (s : List ℕ) (room : ℕ) → stops c s room ≡ false → (ended c s ≡ false) × (length (piece c s).text ≤ room)
went_on c s room = by_tests (ended c s) (leb (length (piece c s).text) room) refl
  where
    by_tests : (t u : Bool) → leb (length (piece c s).text) room ≡ u → t || not u ≡ false → (t ≡ false) × (length (piece c s).text ≤ room)
    by_tests true u e p = absurd (true_not_false p)
    by_tests false true e p = (refl, leb-true (length (piece c s).text) room e)
    by_tests false false e p = absurd (true_not_false p)

-- what holds of every part: it holds of an empty one, and of one with a piece more in front
module _ (s : List ℕ) (P : Cursor → ℕ → Piece → Type 0) (empty : (c : Cursor) (room : ℕ) → P c room (none c))
    (more : (c : Cursor) (room : ℕ) (p : Piece) → ended c s ≡ false → length (piece c s).text ≤ room → P (piece c s).next (room - length (piece c s).text) p → P c room (before (piece c s).text p)) where
  pub part_each : (k : ℕ) (c : Cursor) (room : ℕ) → P c room (part_within k c s room)
  unfolding part_within
  part_each zero c room = empty c room
  part_each (suc k) c room =
      by_cond (P c room) (stops c s room) (λ e. empty c room)
      (λ e. more c room _ (went_on c s room e).0 (went_on c s room e).1 (part_each k (piece c s).next (room - length (piece c s).text)))

-- a part and what is left behind it are what was to come
pub part_rest : (k : ℕ) (c : Cursor) (s : List ℕ) (room : ℕ) → (part_within k c s room).text ++ rest_from (part_within k c s room).next s ≡ rest_from c s
part_rest k c s room =
    part_each s (λ c room p. p.text ++ rest_from p.next s ≡ rest_from c s) (λ c room. refl)
    (λ c room p e l ih. append_assoc (piece c s).text _ _ ∙ ap (λ (x : List ℕ). (piece c s).text ++ x) ih ∙ sym (rest_piece c s e)) k c room

-- what is left of a room after two texts
left_twice : (room : ℕ) (a b : List ℕ) → room - length (a ++ b) ≡ room - length a - length b
left_twice room a b = omega (arith, length-append a b)

-- k pieces and then j more
abbrev more : ℕ → Piece → List ℕ → ℕ → Piece
more j p s room = before p.text (part_within j p.next s (room - length p.text))

more_none : (j : ℕ) (c : Cursor) (s : List ℕ) (room : ℕ) → part_within j c s room ≡ more j (none c) s room
more_none j c s room = ap (λ (i : ℕ). before [] (part_within j c s i)) (sym (sub-zero room))

pub part_split : (k j : ℕ) (c : Cursor) (s : List ℕ) (room : ℕ) → part_within (k + j) c s room ≡ more j (part_within k c s room) s room
unfolding part_within
part_split zero j c s room = ap (λ (i : ℕ). part_within i c s room) (zero-add j) ∙ more_none j c s room
part_split (suc k) j c s room =
    rw (suc-add k j) (by_test (stops c s room) (λ e. rw e (sym (part_stopped j c s room e) ∙ more_none j c s room))
    (λ e. rw (e, left_twice, append_assoc) (ap (before (piece c s).text) (part_split k j (piece c s).next s (room - length (piece c s).text)))))

-- where as many pieces are asked for as a cursor can need, the part stops behind them
pub part_ends : (k : ℕ) (c : Cursor) (s : List ℕ) (room : ℕ) → turns_left c s ≤ k → stops (part_within k c s room).next s (room - length (part_within k c s room).text) ≡ true
unfolding part_within
part_ends zero c s room l = rw (no_turns c s l)
part_ends (suc k) c s room l =
    by_cond (λ (p : Piece). stops p.next s (room - length p.text) ≡ true) (stops c s room) (λ e. ap (λ (r : ℕ). stops c s r) (sub-zero room) ∙ e)
    (λ e. rw left_twice (part_ends k (piece c s).next s (room - length (piece c s).text) (omega (arith, piece_fewer c s (went_on c s room e).0, l))))

-- so more pieces add nothing
pub part_enough : (k j : ℕ) (c : Cursor) (s : List ℕ) (room : ℕ) → turns_left c s ≤ k → part_within (k + j) c s room ≡ part_within k c s room
part_enough k j c s room l =
    let p : Piece = part_within k c s room in
    part_split k j c s room ∙ ap (before p.text) (part_stopped j p.next s (room - length p.text) (part_ends k c s room l))
    ∙ ap (λ (x : List ℕ). record { text = x; next = p.next }) (append-nil p.text)

-- ---- what a part leaves
pub line_some : (n k debt : ℕ) (v : Result Verdict Refusal) → 1 ≤ length (line_text n k debt v)
line_some n k debt v = omega (arith, line_length n k debt (state_word v))

piece_some : (c : Cursor) (s : List ℕ) → 1 ≤ length (piece c s).text
unfolding piece later_piece
piece_some Beginning s =
    let first : Outcome = start_outcome s in
    omega (arith, ap length (start_text s), length-append heading (board_text 0 (number_of first.answer) first.board))
piece_some (Behind p) s =
    let o : Outcome = outcome_at p.at p.board s in
    line_some p.line (number_of o.answer) o.board.debt (verdict o.board)

-- every piece has a byte, so a part without any has no piece
pub part_empty : (k : ℕ) (c : Cursor) (s : List ℕ) (room : ℕ) → length (part_within k c s room).text ≤ 0 → part_within k c s room ≡ none c
part_empty k c s room =
    part_each s (λ c room p. length p.text ≤ 0 → p ≡ none c) (λ c room l. refl)
    (λ c room p e m ih l. absurd (omega (arith, l, piece_some c s, length-append (piece c s).text p.text))) k c room

-- a part leaves no more turns, and fewer where it has a byte
part_turns : (k : ℕ) (c : Cursor) (s : List ℕ) (room : ℕ)
    → (turns_left (part_within k c s room).next s ≤ turns_left c s) × (1 ≤ length (part_within k c s room).text → suc (turns_left (part_within k c s room).next s) ≤ turns_left c s)
part_turns k c s room =
    part_each s (λ c room p. (turns_left p.next s ≤ turns_left c s) × (1 ≤ length p.text → suc (turns_left p.next s) ≤ turns_left c s)) (λ c room. (omega arith, λ m. absurd (omega (arith, m))))
    (λ c room p e l ih. (omega (arith, ih.0, piece_fewer c s e), λ m. omega (arith, ih.0, piece_fewer c s e))) k c room

pub part_fewer_turns : (k : ℕ) (c : Cursor) (s : List ℕ) (room : ℕ) → 1 ≤ length (part_within k c s room).text → suc (turns_left (part_within k c s room).next s) ≤ turns_left c s
part_fewer_turns k c s room = (part_turns k c s room).1

-- a part is no longer than its room
pub part_room : (k : ℕ) (c : Cursor) (s : List ℕ) (room : ℕ) → length (part_within k c s room).text ≤ room
part_room k c s room =
    part_each s (λ c room p. length p.text ≤ room) (λ c room. omega arith) (λ c room p e l ih. omega (arith, l, ih, length-append (piece c s).text p.text)) k c room

-- a part of at least one piece that has no byte stops at once
pub empty_stops : (k : ℕ) (c : Cursor) (s : List ℕ) (room : ℕ) → 1 ≤ k → length (part_within k c s room).text ≤ 0 → stops c s room ≡ true
unfolding part_within
empty_stops zero c s room p = absurd (omega (arith, p))
empty_stops (suc k) c s room p =
    by_cond (λ (x : Piece). length x.text ≤ 0 → stops c s room ≡ true) (stops c s room) (λ e l. e)
    (λ e l. absurd (omega (arith, l, piece_some c s, length-append (piece c s).text (part_within k (piece c s).next s (room - length (piece c s).text)).text)))

-- so many pieces, and then all that fit, are all that fit
pub part_then : (k : ℕ) (c : Cursor) (s : List ℕ) (room : ℕ) → before (part_within k c s room).text (part (part_within k c s room).next s (room - length (part_within k c s room).text)) ≡ part c s room
part_then k c s room =
    sym (part_split k (suc (length s)) c s room) ∙ ap (λ (i : ℕ). part_within i c s room) (add_comm k (suc (length s))) ∙ part_enough (suc (length s)) k c s room (turns_most c s)

-- what a writer of so many pieces writes, by what these are
pub writes_as : {k : ℕ} {p r : Progress} {s out left : List ℕ} (x : Piece) → part_within k (cursor_of p) s (length out - p.to) ≡ x
    → cursor_of r ≡ x.next → r.to ≡ p.to + length x.text → left ≡ sets out p.to x.text → WritesPieces k p s out r left
writes_as {p = p} {out = out} x e c t b = record {
  cursor = c ∙ ap (λ (y : Piece). y.next) (sym e);
  to = t ∙ ap (λ (y : Piece). p.to + length y.text) (sym e);
  buffer = b ∙ ap (λ (y : Piece). sets out p.to y.text) (sym e);
}
