-- The pieces from the beginning, joined, are the listing.
use mathlib.Core.Path.{◌≡◌, refl, sym, ap, ◌∙◌}
use mathlib.Core.Bool.{true, false}
use mathlib.Core.List.{List, [], ◌∷◌, ◌++◌, append_assoc, append-nil}
use Prim.Native.Nat.{ℕ, zero, suc, ◌+◌, ◌-◌, ◌≤◌, ◌<◌}
use native.Mathlib.Nat.{not-suc-le-zero}
use native.Mathlib.Omega.{arith}
use lib.ListN.{length, drop, get_or, length-drop, drop_of_length-le}
use lib.Dec.{leb}
use lib.Seq.{drop-cons}
use borrow.Author.Tests.{leb-true, leb-false, le-leb}
use Rattle.std.specs.Prelude.{Result, Ok, Err}
use Rattle.refusals.specs.Numbers.{number_of}
use Rattle.refusals.specs.declared.Refusal.{Refusal}
use Rattle.rules.specs.declared.Board.{Board}
use Rattle.rules.specs.declared.Outcome.{Outcome}
use Rattle.fields.specs.Fields.{up_to, past}
use Rattle.fields.proofs.Cases.{by_test, cond_second}
use Rattle.numbers.proofs.LineLaws.{past_shorter, behind_drop, lines_behind}
use Rattle.numbers.specs.Lines.{lines_within, behind}
use Rattle.texts.specs.Texts.{heading, board_text, refused_text}
use Rattle.listing.specs.Scripts.{later_outcome, start_outcome, text_of, text_by, opened_lines, later_lines, opened_text, listing}
use Rattle.listing.specs.Parts.{beginning, ended, refused_piece, piece_by, first_piece, next_number, later_piece, piece, rest_within, rest_from}
use Rattle.listing.proofs.StartLaws.{start_short, start_next}
use Rattle.listing.specs.declared.Cursor.{Cursor}
use Rattle.listing.specs.declared.Cursor.TheVariants.{Beginning, Behind}

-- a line number below the largest is followed by the next
pub number_next : (n : ℕ) → n < 4294967295 → next_number n ≡ suc n
number_next n l = omega arith

-- ---- a later line
abbrev pub later_cursor : ℕ → ℕ → Board → Cursor
later_cursor at n b = Behind (record { at = at; line = n; board = b })

-- the outcome of the line at a place
abbrev pub outcome_at : ℕ → Board → List ℕ → Outcome
outcome_at at b s = later_outcome b (up_to 10 (drop at s))

abbrev later_text : ℕ → Board → List (List ℕ) → List ℕ
later_text n b ls = text_of (later_lines n b ls)

-- a line takes at least a byte of the script
pub past_fewer : (at : ℕ) (s : List ℕ) → at < length s → suc (length s - behind at s) ≤ length s - at
past_fewer at s l =
    let here : drop at s ≡ get_or s at 0 ∷ drop (suc at) s = drop-cons s at 0 l in
    let short : length (past 10 (drop at s)) ≤ length (drop (suc at) s) = rw here (past_shorter 10 (get_or s at 0) (drop (suc at) s)) in
    omega (arith, length-drop at s, length-drop (suc at) s, short)

lines_next : (k : ℕ) (t : List ℕ) → 1 ≤ length t → lines_within (suc k) t ≡ up_to 10 t ∷ lines_within k (past 10 t)
unfolding lines_within
lines_next k [] l = absurd (not-suc-le-zero l)
lines_next k (c ∷ cs) l = refl

-- what is still to come behind the first line is the text of the lines from the cursor's place on
rest_later : (k at n : ℕ) (b : Board) (s : List ℕ) → at ≤ length s → n + (length s - at) < 4294967295
    → rest_within k (later_cursor at n b) s ≡ later_text n b (lines_within k (drop at s))
unfolding rest_within text_of later_lines lines_within piece later_piece
rest_later zero at n b s l m = refl
rest_later (suc k) at n b s l m =
    by_test (leb (length s) at) (λ e. rw (e, drop_of_length-le s {i = at} (leb-true (length s) at e)))
    (λ e.
    let inside : at < length s = leb-false (length s) at e in
    let o : Outcome = outcome_at at b s in
    rw (e, lines_next k (drop at s) (omega (arith, inside, length-drop at s)), number_next n (omega (arith, m, inside)))
    (ap (λ (x : List ℕ). board_text n (number_of o.answer) o.board ++ x)
    (rest_later k (behind at s) (suc n) o.board s (omega arith) (omega (arith, m, past_fewer at s inside)) ∙ ap (λ (t : List ℕ). later_text (suc n) o.board (lines_within k t)) (behind_drop at s l))))

-- ---- the beginning
-- a refused first line is the whole of what comes
rest_refused : (k : ℕ) (r : Refusal) (s : List ℕ) → (refused_piece s r).text ++ rest_within (suc k) (refused_piece s r).next s ≡ heading ++ refused_text r
unfolding rest_within
rest_refused k r s = rw (le-leb (length s) (length s) (omega arith)) (append-nil (heading ++ refused_text r))

module _ (k : ℕ) (s : List ℕ) (enough : length s ≤ k) where
  rest_opened : (r : Result (Unit {0}) Refusal) (b : Board) → (r ≡ Ok tt → length s ≤ 65535) → (piece_by s b r).text ++ rest_within (suc k) (piece_by s b r).next s ≡ heading ++ text_by r (opened_lines b (lines_within (suc k) (past 10 s)))
  unfolding text_of
  rest_opened (Ok _) b l =
      rw append_assoc (ap (λ (x : List ℕ). heading ++ (board_text 0 0 b ++ x))
      (rest_later (suc k) (behind 0 s) 1 b s (omega arith) (omega (arith, l refl)) ∙ ap (λ (t : List ℕ). later_text 1 b (lines_within (suc k) t)) (behind_drop 0 s (omega arith))))
  rest_opened (Err e) b l = rest_refused k e s

  rest_first : rest_within (suc (suc k)) beginning s ≡ listing s
  unfolding rest_within piece first_piece listing
  rest_first = rest_opened (start_outcome s).answer (start_outcome s).board (start_short s) ∙ ap (λ (ls : List (List ℕ)). heading ++ opened_text (start_outcome s) ls) (lines_behind k s enough)

-- ---- more turns give no more text
-- the turns that a cursor can need
abbrev pub turns_left : Cursor → List ℕ → ℕ
turns_left Beginning s = suc (length s)
turns_left (Behind p) s = length s - p.at

-- a piece that is not behind the end leaves fewer turns
pub piece_fewer : (c : Cursor) (s : List ℕ) → ended c s ≡ false → suc (turns_left (piece c s).next s) ≤ turns_left c s
unfolding piece later_piece
piece_fewer Beginning s e = rw start_next (omega arith)
piece_fewer (Behind p) s e = past_fewer p.at s (leb-false (length s) p.at e)

-- a cursor that can need no turn is behind the end
pub no_turns : (c : Cursor) (s : List ℕ) → turns_left c s ≤ 0 → ended c s ≡ true
no_turns Beginning s l = absurd (not-suc-le-zero l)
no_turns (Behind p) s l = le-leb (length s) p.at (omega arith)

rest_ended : (k : ℕ) (c : Cursor) (s : List ℕ) → ended c s ≡ true → rest_within k c s ≡ []
unfolding rest_within
rest_ended zero c s e = refl
rest_ended (suc k) c s e = rw e

rest_enough : (k j : ℕ) (c : Cursor) (s : List ℕ) → turns_left c s ≤ k → turns_left c s ≤ j → rest_within k c s ≡ rest_within j c s
unfolding rest_within
rest_enough zero j c s p q = sym (rest_ended j c s (no_turns c s p))
rest_enough (suc k) zero c s p q = rest_ended (suc k) c s (no_turns c s q)
rest_enough (suc k) (suc j) c s p q =
    cond_second (ended c s) [] (λ e.
    let fewer = piece_fewer c s e in
    ap (λ (x : List ℕ). (piece c s).text ++ x) (rest_enough k j (piece c s).next s (omega (arith, fewer, p)) (omega (arith, fewer, q))))

-- a cursor behind the beginning can need at most as many turns as the script has bytes
pub turns_most : (c : Cursor) (s : List ℕ) → turns_left c s ≤ suc (length s)
turns_most Beginning s = omega arith
turns_most (Behind p) s = omega arith

-- from the beginning the listing is to come, from a cursor behind the end nothing
pub rest_beginning : (s : List ℕ) → rest_from beginning s ≡ listing s
rest_beginning s = rest_enough (suc (length s)) (suc (suc (length s))) beginning s (omega arith) (omega arith) ∙ rest_first (length s) s (omega arith)

pub rest_end : (c : Cursor) (s : List ℕ) → ended c s ≡ true → rest_from c s ≡ []
rest_end c s e = rest_ended (suc (length s)) c s e

pub rest_piece : (c : Cursor) (s : List ℕ) → ended c s ≡ false → rest_from c s ≡ (piece c s).text ++ rest_from (piece c s).next s
unfolding rest_within
rest_piece c s e =
    rw e (ap (λ (x : List ℕ). (piece c s).text ++ x) (rest_enough (length s) (suc (length s)) (piece c s).next s (omega (arith, piece_fewer c s e, turns_most c s)) (omega (arith, piece_fewer c s e, turns_most c s))))
