-- How long lines are, and what holds of every cursor that the beginning leads to: its board is sound, so no piece is longer than the longest.
use mathlib.Core.Path.{◌≡◌, sym, ap, subst}
use mathlib.Core.Bool.{false}
use mathlib.Core.List.{List}
use Prim.Native.Nat.{ℕ, zero, suc, ◌≤◌, ◌<◌}
use native.Mathlib.Omega.{arith}
use lib.ListN.{length, drop, length-append}
use lib.Dec.{leb}
use borrow.Author.Tests.{leb-false}
use Rattle.std.specs.Prelude.{Result, Ok, Err}
use Rattle.refusals.specs.Numbers.{number, number_of}
use Rattle.refusals.specs.declared.Refusal.{Refusal}
use Rattle.rules.specs.Records.{ceiling}
use Rattle.rules.specs.declared.StepRecord.{StepRecord}
use Rattle.rules.specs.declared.Board.{Board}
use Rattle.rules.specs.declared.Outcome.{Outcome}
use Rattle.rules.specs.declared.Verdict.{Verdict}
use Rattle.rules.specs.declared.Verdict.TheVariants.{Working, Finished}
use Rattle.rules.specs.Sound.{Sound}
use Rattle.rules.specs.Finished.{verdict}
use Rattle.refusals.proofs.NumberLaws.{two_digits, answer_short}
use Rattle.rules.proofs.EventSound.{step_keeps_sound}
use Rattle.fields.specs.Fields.{up_to}
use Rattle.fields.proofs.Cases.{by_cond}
use Rattle.numbers.specs.Lines.{behind}
use Rattle.script.specs.Lines.{reading, step_by}
use Rattle.decimal.specs.Spelling.{digit_count}
use Rattle.decimal.proofs.CountLaws.{count_bound}
use Rattle.texts.specs.Texts.{heading, refused_word, state_word, line_text, board_text, refused_text}
use Rattle.listing.specs.Scripts.{step_outcome, later_outcome, start_outcome}
use Rattle.listing.specs.Bounds.{longest_piece, longest_line}
use Rattle.listing.specs.Parts.{ended, opened_piece, first_piece, later_piece, piece, part_within}
use Rattle.listing.specs.Batches.{lines_at}
use Rattle.listing.specs.Turns.{start_place}
use Rattle.texts.proofs.TextLaws.{line_length}
use Rattle.listing.proofs.StartLaws.{Started, opened, refused, script_starts, first_text, first_next}
use Rattle.listing.proofs.PartLaws.{part_each}
use Rattle.listing.specs.declared.NextLine.{NextLine}
use Rattle.listing.specs.declared.Cursor.{Cursor}
use Rattle.listing.specs.declared.Cursor.TheVariants.{Beginning, Behind}

-- ---- a line
word_most : (v : Result Verdict Refusal) → length (state_word v) ≤ 8
word_most (Ok Working) = omega arith
word_most (Ok Finished) = omega arith
word_most (Err k) = omega arith

pub line_most : (n k debt : ℕ) (v : Result Verdict Refusal) → n ≤ 4294967295 → k < 100 → debt ≤ ceiling → length (line_text n k debt v) ≤ longest_line
line_most n k debt v p q r =
    omega (arith, line_length n k debt (state_word v), count_bound n 10 (omega arith) (omega arith) (omega arith), count_bound k 2 (omega arith) (omega arith) (omega arith), count_bound debt 13 (omega arith) (omega arith) (omega arith), word_most v)

one_digit : digit_count 0 ≤ 1
one_digit = count_bound 0 1 (omega arith) (omega arith) (omega arith)

-- ---- the outcome of a later line
pub outcome_sound : (b : Board) (x : Result StepRecord Refusal) → Sound b → Sound (step_outcome b x).board
outcome_sound b (Ok r) h = step_keeps_sound b r h
outcome_sound b (Err k) h = h

pub later_most : (n : ℕ) (b : Board) (l : List ℕ) → n ≤ 4294967295 → Sound b → length (board_text n (number_of (later_outcome b l).answer) (later_outcome b l).board) ≤ longest_line
later_most n b l p h =
    line_most n _ _ (verdict (later_outcome b l).board) p (answer_short (later_outcome b l).answer) (outcome_sound b (step_by (reading false l)) h).sheet.s5_s6_debt.1.0

pub lines_most : (k at : ℕ) (s : List ℕ) → length (lines_at k at s) ≤ k
unfolding lines_at
lines_most zero at s = omega arith
lines_most (suc k) at s =
    by_cond (λ (ls : List (List ℕ)). length ls ≤ suc k) (leb (length s) at) (λ e. omega arith) (λ e. omega (arith, lines_most k (behind at s) s))

-- ---- cursors that the beginning leads to
-- a cursor behind the beginning and before the end
pub record Under (p : NextLine) (s : List ℕ) : Type 0 where
  pub short : length s ≤ 65535
  pub line : p.line ≤ 4294967295
  pub is_sound : Sound p.board

abbrev pub Kept : Cursor → List ℕ → Type 0
Kept Beginning s = Unit {0}
Kept (Behind p) s = p.at < length s → Under p s

first_kept : (s : List ℕ) (o : Outcome) → Started s o → Kept (opened_piece s o).next s
first_kept s o x = subst (λ (c : Cursor). Kept c s) (sym (first_next s o x)) (by_start x)
  where
    by_start : Started s o → start_place s o.answer < length s → Under (record { at = start_place s o.answer; line = 1; board = o.board }) s
    by_start (opened l e h d) m = record { short = l; line = omega arith; is_sound = h }
    by_start (refused k e) m = absurd (let p = rw e at m in omega arith)

pub piece_kept : (c : Cursor) (s : List ℕ) → Kept c s → ended c s ≡ false → Kept (piece c s).next s
unfolding piece first_piece later_piece
piece_kept Beginning s h e = first_kept s (start_outcome s) (script_starts s)
piece_kept (Behind p) s h e = λ m.
    let u = h (leb-false (length s) p.at e) in
    record { short = u.short; line = omega arith; is_sound = outcome_sound p.board (step_by (reading false (up_to 10 (drop p.at s)))) u.is_sound }

pub part_kept : (k : ℕ) (c : Cursor) (s : List ℕ) (room : ℕ) → Kept c s → Kept (part_within k c s room).next s
part_kept k c s room = part_each s (λ c room p. Kept c s → Kept p.next s) (λ c room h. h) (λ c room p e l ih h. ih (piece_kept c s h e)) k c room

-- ---- pieces
pub first_most : (s : List ℕ) (o : Outcome) → Started s o → length (opened_piece s o).text ≤ longest_piece
first_most s o (opened l e h d) =
    omega (
      arith,
      ap length (first_text s o (opened l e h d)),
      length-append heading (board_text 0 (number_of o.answer) o.board),
      line_length 0 (number_of o.answer) o.board.debt (state_word (verdict o.board)),
      ap (λ (r : Result (Unit {0}) Refusal). digit_count (number_of r)) e,
      ap digit_count d,
      word_most (verdict o.board),
      one_digit,
    )
first_most s o (refused k e) =
    omega (
      arith,
      ap (λ (x : Outcome). length (opened_piece s x).text) e,
      length-append heading (refused_text k),
      line_length 0 (number k) 0 refused_word,
      one_digit,
      count_bound (number k) 2 (omega arith) (omega arith) (omega (arith, two_digits k)),
    )

pub piece_most : (c : Cursor) (s : List ℕ) → Kept c s → ended c s ≡ false → length (piece c s).text ≤ longest_piece
unfolding piece first_piece later_piece
piece_most Beginning s h e = first_most s (start_outcome s) (script_starts s)
piece_most (Behind p) s h e =
    let u = h (leb-false (length s) p.at e) in
    omega (arith, later_most p.line p.board (up_to 10 (drop p.at s)) u.line u.is_sound)
