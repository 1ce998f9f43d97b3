-- One batch of a part: what it writes is what so many pieces write, or the only piece does not fit.
use mathlib.Core.Path.{◌≡◌, refl, sym, ap, ◌∙◌}
use mathlib.Core.List.{List, []}
use Prim.Native.Nat.{ℕ, ◌+◌, ◌-◌, ◌*◌, ◌≤◌, ◌<◌}
use native.Mathlib.Omega.{arith}
use lib.ListN.{length, take, replicate, length-append}
use lib.Dec.{leb}
use lib.Seq.{sets}
use borrow.Author.Tests.{lt-leb}
use Rattle.std.specs.Prelude.{Option}
use Rattle.refusals.specs.Numbers.{number_of}
use Rattle.refusals.specs.declared.Refusal.{Refusal}
use Rattle.rules.specs.Sound.{Sound}
use Rattle.rules.specs.Lists.{answers}
use Rattle.rules.specs.Runs.{debts, batch_most, padded, batch}
use Rattle.rules.proofs.SoundLaws.{below_or_not}
use Rattle.steps.proofs.BatchLaws.{answers_length, debts_length}
use Rattle.rules.specs.declared.Board.{Board}
use Rattle.rules.specs.declared.StepRecord.{StepRecord}
use Rattle.rules.specs.declared.Batch.{Batch}
use Rattle.fields.proofs.Cases.{by_test}
use Rattle.texts.specs.Texts.{board_text}
use Rattle.listing.specs.Bounds.{longest_line}
use Rattle.listing.specs.Parts.{Piece, later_piece, piece, part_within}
use Rattle.listing.specs.Batches.{lines_at, place_after, records_of, refusals_of}
use Rattle.listing.specs.Turns.{Gathers, Placed, rows_into, cursor_of, batch_size, WritesPieces}
use Rattle.listing.proofs.PieceLaws.{later_cursor, outcome_at}
use Rattle.listing.proofs.PartLaws.{none, part_empty, writes_as}
use Rattle.listing.proofs.LengthLaws.{lines_most}
use Rattle.listing.proofs.BatchLaws.{batch_text, batch_most_lem, batch_piece, part_batched, batch_rows, records_length, refusals_length, batch_done, batch_done_lem, batch_leaves, rows_text, number_after, rows_fit, rows_short, rows_padded}
use Rattle.listing.specs.declared.gathering.Gathered.{Gathered}
use Rattle.listing.specs.declared.rows.Rows.{Rows}
use Rattle.listing.specs.declared.turns.Progress.{Progress}

-- more than one line surely fit
size_fits : (room : ℕ) → 1 < batch_size room → longest_line * batch_size room ≤ room
size_fits room l = omega arith

-- ---- the only piece does not fit
part_short : (at n : ℕ) (b : Board) (s : List ℕ) (room : ℕ) → room < length (batch_text n b (lines_at 1 at s)) → part_within 1 (later_cursor at n b) s room ≡ none (later_cursor at n b)
unfolding part_within lines_at batch_text piece later_piece
part_short at n b s room l =
    by_test (leb (length s) at) (λ e. rw e)
    (λ e.
    let row : List ℕ = board_text n (number_of (outcome_at at b s).answer) (outcome_at at b s).board in
    rw (e, lt-leb (length row) room (omega (arith, rw e at l, length-append row []))))

-- ---- a batch, from what is gathered g, what the core gives d, and what is written w
abbrev room_of : Progress → List ℕ → ℕ
room_of p out = length out - p.to

abbrev turn_size : Progress → List ℕ → ℕ
turn_size p out = batch_size (room_of p out)

abbrev pub turn_lines : Progress → List ℕ → List ℕ → List (List ℕ)
turn_lines p s out = lines_at (turn_size p out) p.next.at s

abbrev turn_text : Progress → List ℕ → List ℕ → List ℕ
turn_text p s out = batch_text p.next.line p.next.board (turn_lines p s out)

abbrev turn_piece : Progress → List ℕ → List ℕ → Piece
turn_piece p s out = part_within (turn_size p out) (cursor_of p) s (room_of p out)

module _ (p : Progress) (s out : List ℕ) (is_sound : Sound p.next.board) (inside : p.to ≤ length out) (fits : p.next.line ≤ 4294967295) where
  -- what the pieces of the batch are, where their text fits
  part_fits : p.to + length (turn_text p s out) ≤ length out → turn_piece p s out ≡ batch_piece (turn_size p out) p.next.at p.next.line p.next.board s
  part_fits l = part_batched (turn_size p out) p.next.at p.next.line p.next.board s (room_of p out) (omega (arith, l))

  -- where it does not, the batch is of one line
  one_line : length out < p.to + length (turn_text p s out) → turn_size p out ≡ 1
  one_line l =
      let most : length (turn_text p s out) ≤ longest_line * turn_size p out = omega (arith, batch_most_lem p.next.line p.next.board (turn_lines p s out) fits is_sound, lines_most (turn_size p out) p.next.at s) in
      below_or_not 1 (turn_size p out) (λ many. absurd (omega (arith, most, l, inside, size_fits (room_of p out) many))) (λ few. omega (arith, few))

  part_none : length out < p.to + length (turn_text p s out) → turn_piece p s out ≡ none (cursor_of p)
  part_none l =
      let one = one_line l in
      ap (λ (k : ℕ). part_within k (cursor_of p) s (room_of p out)) one
      ∙ part_short p.next.at p.next.line p.next.board s (room_of p out) (omega (arith, inside, l, ap (λ (k : ℕ). length (batch_text p.next.line p.next.board (lines_at k p.next.at s))) one))

  module _ (g : Gathered) (gathers : Gathers g (turn_lines p s out) (place_after (turn_size p out) p.next.at s)) (d : Batch) (ran : d ≡ batch p.next.board (take g.count g.steps)) where
    done : d ≡ batch_done p.next.board (records_of (turn_lines p s out))
    done = batch_done_lem p.next.board is_sound g gathers ran

    rows_are : rows_text p.next.line (take g.count g.refusals) d.answers d.debts ≡ turn_text p s out
    rows_are =
        let rs : List StepRecord = records_of (turn_lines p s out) in
        ap (λ (ks : List (Option Refusal)). rows_text p.next.line ks d.answers d.debts) gathers.refusals
        ∙ ap (λ (x : Batch). rows_text p.next.line (refusals_of (turn_lines p s out)) x.answers x.debts) done
        ∙ rows_padded p.next.line (refusals_of (turn_lines p s out)) (answers p.next.board rs) (debts p.next.board rs) _ _ (omega (arith, refusals_length (turn_lines p s out), records_length (turn_lines p s out), answers_length p.next.board rs)) (omega (arith, refusals_length (turn_lines p s out), records_length (turn_lines p s out), debts_length p.next.board rs))
        ∙ batch_rows p.next.line p.next.board (turn_lines p s out) is_sound

    module _ (w : Rows) (left : List ℕ) (wrote : rows_into p.next.line (take g.count g.refusals) d.answers d.debts p.to out ≡ record { line = w.line; to = w.to; left = left }) where
      keys : length (take g.count g.refusals) ≡ length (turn_lines p s out)
      keys = ap length gathers.refusals ∙ refusals_length (turn_lines p s out)

      enough : (xs : List ℕ) → length xs ≡ length (records_of (turn_lines p s out)) → length (turn_lines p s out) ≤ length (padded xs)
      enough xs e = omega (arith, e, length-append xs (replicate (batch_most - length xs) 0), records_length (turn_lines p s out))

      wrote_all : p.to + length (turn_text p s out) ≤ length out → ◌≡◌ {A = Placed} (record { line = w.line; to = w.to; left = left }) (record { line = number_after p.next.line (length (turn_lines p s out)); to = p.to + length (turn_text p s out); left = sets out p.to (turn_text p s out) })
      wrote_all l =
          let rs : List StepRecord = records_of (turn_lines p s out) in
          sym wrote
          ∙ rows_fit p.next.line (take g.count g.refusals) d.answers d.debts p.to out (omega (arith, keys, ap (λ (x : Batch). length x.answers) done, enough (answers p.next.board rs) (answers_length p.next.board rs)))
          (omega (arith, keys, ap (λ (x : Batch). length x.debts) done, enough (debts p.next.board rs) (debts_length p.next.board rs))) (omega (arith, l, ap length rows_are))
          ∙ ap (λ (n : ℕ). record { line = n; to = p.to + length (rows_text p.next.line (take g.count g.refusals) d.answers d.debts); left = sets out p.to (rows_text p.next.line (take g.count g.refusals) d.answers d.debts) }) (ap (number_after p.next.line) keys)
          ∙ ap (λ (t : List ℕ). record { line = number_after p.next.line (length (turn_lines p s out)); to = p.to + length t; left = sets out p.to t }) rows_are

      wrote_none : length out < p.to + length (turn_text p s out) → (w.to ≡ p.to) × (left ≡ out)
      wrote_none l =
          let e = sym wrote ∙ rows_short p.next.line (take g.count g.refusals) d.answers d.debts p.to out (omega (arith, keys, one_line l, lines_most (turn_size p out) p.next.at s)) inside (omega (arith, l, ap length rows_are)) in
          (ap (λ (x : Placed). x.to) e, ap (λ (x : Placed). x.left) e)

      kept : turn_piece p s out ≡ none (cursor_of p) → left ≡ out → WritesPieces (turn_size p out) p s out p left
      kept e f = writes_as (none (cursor_of p)) e refl (omega arith) f

      pub turn_kept : w.to ≡ p.to → WritesPieces (turn_size p out) p s out p left
      unfolding batch_piece
      turn_kept e =
          below_or_not (length out) (p.to + length (turn_text p s out)) (λ l. kept (part_none l) (wrote_none l).1)
          (λ l.
          let is = part_fits l in
          let all = wrote_all l in
          let empty : turn_piece p s out ≡ none (cursor_of p) = part_empty (turn_size p out) (cursor_of p) s (room_of p out) (omega (arith, ap (λ (x : Piece). length x.text) is, ap (λ (x : Placed). x.to) all, e)) in
          kept empty (ap (λ (x : Placed). x.left) all ∙ ap (λ (x : Piece). sets out p.to x.text) (sym is ∙ empty)))

      pub turn_wrote : (w.to ≡ p.to → ⊥) → WritesPieces (turn_size p out) p s out (record { next = record { at = g.at; line = w.line; board = d.board }; to = w.to }) left
      unfolding batch_piece
      turn_wrote n =
          below_or_not (length out) (p.to + length (turn_text p s out)) (λ l. absurd (n (wrote_none l).0))
          (λ l.
          let all = wrote_all l in
          writes_as (batch_piece (turn_size p out) p.next.at p.next.line p.next.board s) (part_fits l) (rw (gathers.place, ap (λ (x : Placed). x.line) all, batch_leaves p.next.board is_sound g gathers ran))
          (ap (λ (x : Placed). x.to) all) (ap (λ (x : Placed). x.left) all))
