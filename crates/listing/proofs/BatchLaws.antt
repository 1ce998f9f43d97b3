-- A batch of script lines: its lines written one behind the other, the pieces that they are, and its lines as step records.
use mathlib.Core.Path.{◌≡◌, refl, sym, ap, ◌∙◌}
use mathlib.Core.Bool.{false}
use mathlib.Core.List.{List, [], ◌∷◌, ◌++◌}
use Prim.Native.Nat.{ℕ, zero, suc, ◌-◌, ◌*◌, ◌≤◌, ◌+◌, ◌<◌}
use native.Mathlib.Omega.{arith}
use native.Mathlib.Nat.{add-zero, not-suc-le-zero, le_of_suc-le-suc}
use borrow.Author.Tests.{le-leb}
use lib.ListN.{length, take, length-append}
use lib.Dec.{leb}
use lib.Seq.{sets, length-sets}
use Rattle.std.specs.Prelude.{Option, Result, Ok, Err}
use Rattle.refusals.specs.Numbers.{number_of}
use Rattle.refusals.specs.declared.Refusal.{Refusal}
use Rattle.refusals.specs.declared.Refusal.TheVariants.{NoSuchKind}
use Rattle.rules.specs.Events.{after_all, all_answers}
use Rattle.rules.specs.Sound.{Sound}
use Rattle.rules.specs.Effects.{record_rule}
use Rattle.rules.specs.Sheets.Sheet.{Outcome as SheetOutcome}
use Rattle.rules.specs.Sheets.Steps.{effect, applied, sound_step as sheet_sound_step}
use Rattle.rules.specs.Boards.{view}
use Rattle.rules.specs.Steps.{on_board, sound_step, step}
use Rattle.rules.specs.declared.Batch.{Batch}
use Rattle.rules.specs.declared.Board.{Board}
use Rattle.rules.specs.declared.Action.TheVariants.{Unknown}
use Rattle.rules.specs.declared.Outcome.{Outcome}
use Rattle.rules.specs.declared.StepRecord.{StepRecord}
use Rattle.rules.specs.Lists.{after, answers}
use Rattle.rules.specs.Runs.{debts, zeros, padded, batch}
use Rattle.rules.proofs.Sheets.Changes.{refused_applied}
use Rattle.rules.proofs.Views.{step_sound}
use Rattle.rules.proofs.EventSound.{step_keeps_sound}
use Rattle.rules.proofs.SoundLaws.{sound_tested}
use Rattle.rules.proofs.FinishedLaws.{verdict_sound}
use Rattle.steps.specs.NoStep.{no_step}
use Rattle.fields.proofs.Cases.{by_test}
use Rattle.numbers.specs.Lines.{behind}
use Rattle.script.specs.Lines.{reading, step_by}
use Rattle.texts.specs.Texts.{board_text}
use Rattle.listing.specs.Scripts.{step_outcome, later_outcome}
use Rattle.listing.specs.Bounds.{longest_line}
use Rattle.listing.specs.Parts.{Piece, next_number, later_piece, piece, before, part_within}
use Rattle.listing.specs.Endings.{board_after}
use Rattle.listing.specs.Batches.{lines_at, place_after, record_of, refusal_of, records_of, refusals_of}
use Rattle.listing.specs.Turns.{Gathers, bytes_of, answer_of, row_text, rows_into}
use Rattle.listing.specs.declared.gathering.Gathered.{Gathered}
use Rattle.listing.proofs.PieceLaws.{later_cursor, outcome_at}
use Rattle.listing.proofs.LengthLaws.{outcome_sound, later_most}
use Rattle.placing.specs.Placing.{written}
use Rattle.placing.proofs.Stores.{sets_append}
use Rattle.placing.proofs.WriteLaws.{wrote_fits, wrote_short, written_fits, written_short}

-- the lines of a batch from what it gives: refusals of bad lines, answers of steps and debts after them
unfoldable pub rows_text : ℕ → List (Option Refusal) → List ℕ → List ℕ → List ℕ
rows_text n [] js ds = []
rows_text n (k ∷ ks) [] ds = []
rows_text n (k ∷ ks) (j ∷ js) [] = []
rows_text n (k ∷ ks) (j ∷ js) (d ∷ ds) = row_text n k j d ++ rows_text (next_number n) ks js ds

-- the number behind so many lines
unfoldable pub number_after : ℕ → ℕ → ℕ
number_after n zero = n
number_after n (suc k) = number_after (next_number n) k

-- where all lines fit, they are written one behind the other
pub rows_fit : (n : ℕ) (ks : List (Option Refusal)) (js ds : List ℕ) (at : ℕ) (out : List ℕ) → length ks ≤ length js → length ks ≤ length ds → at + length (rows_text n ks js ds) ≤ length out
    → rows_into n ks js ds at out ≡ record { line = number_after n (length ks); to = at + length (rows_text n ks js ds); left = sets out at (rows_text n ks js ds) }
unfolding rows_into rows_text number_after
rows_fit n [] js ds at out p q h = ap (λ (m : ℕ). record { line = n; to = m; left = out }) (sym (add-zero at))
rows_fit n (k ∷ ks) [] ds at out p q h = absurd (not-suc-le-zero p)
rows_fit n (k ∷ ks) (j ∷ js) [] at out p q h = absurd (not-suc-le-zero q)
rows_fit n (k ∷ ks) (j ∷ js) (d ∷ ds) at out p q h =
    let row : List ℕ = row_text n k j d in
    let more : List ℕ = rows_text (next_number n) ks js ds in
    let sum : length (row ++ more) ≡ length row + length more = length-append row more in
    let fits : at + length row ≤ length out = omega (arith, h, sum) in
    ap (λ (m : ℕ). rows_into (next_number n) ks js ds (at + m) (written row at out)) (ap bytes_of (wrote_fits row at out fits))
    ∙ ap (λ (x : List ℕ). rows_into (next_number n) ks js ds (at + length row) x) (written_fits row at out fits)
    ∙ rows_fit (next_number n) ks js ds (at + length row) (sets out at row) (le_of_suc-le-suc p) (le_of_suc-le-suc q) (omega (arith, h, sum, length-sets out at row))
    ∙ ap (λ (m : ℕ). record { line = number_after (next_number n) (length ks); to = m; left = sets (sets out at row) (at + length row) more }) (omega (arith, sum))
    ∙ ap (λ (x : List ℕ). record { line = number_after (next_number n) (length ks); to = at + length (row ++ more); left = x }) (sets_append out at row more)

-- where the only line does not fit, nothing is written
pub rows_short : (n : ℕ) (ks : List (Option Refusal)) (js ds : List ℕ) (at : ℕ) (out : List ℕ) → length ks ≤ 1 → at ≤ length out → length out < at + length (rows_text n ks js ds)
    → rows_into n ks js ds at out ≡ record { line = number_after n (length ks); to = at; left = out }
unfolding rows_into rows_text number_after
rows_short n [] js ds at out p l h = refl
rows_short n (k ∷ ks) [] ds at out p l h = absurd (omega (arith, l, h))
rows_short n (k ∷ ks) (j ∷ js) [] at out p l h = absurd (omega (arith, l, h))
rows_short n (k ∷ []) (j ∷ js) (d ∷ ds) at out p l h =
    let row : List ℕ = row_text n k j d in
    let short : length out < at + length row = omega (arith, h, length-append row []) in
    ap (λ (m : ℕ). record { line = next_number n; to = at + m; left = written row at out }) (ap bytes_of (wrote_short row at out short))
    ∙ ap (λ (m : ℕ). record { line = next_number n; to = m; left = written row at out }) (add-zero at)
    ∙ ap (λ (x : List ℕ). record { line = next_number n; to = at; left = x }) (written_short row at out short)
rows_short n (k ∷ i ∷ ks) (j ∷ js) (d ∷ ds) at out p l h = absurd (omega (arith, p))

-- what stands behind the answers and the debts is not written
pub rows_padded : (n : ℕ) (ks : List (Option Refusal)) (js ds xs ys : List ℕ) → length ks ≡ length js → length ks ≡ length ds → rows_text n ks (js ++ xs) (ds ++ ys) ≡ rows_text n ks js ds
unfolding rows_text
rows_padded n [] js ds xs ys p q = refl
rows_padded n (k ∷ ks) [] ds xs ys p q = absurd (omega (arith, p))
rows_padded n (k ∷ ks) (j ∷ js) [] xs ys p q = absurd (omega (arith, q))
rows_padded n (k ∷ ks) (j ∷ js) (d ∷ ds) xs ys p q = ap (λ (x : List ℕ). row_text n k j d ++ x) (rows_padded (next_number n) ks js ds xs ys (omega (arith, p)) (omega (arith, q)))

-- ---- the text of a batch of lines
unfoldable pub batch_text : ℕ → Board → List (List ℕ) → List ℕ
batch_text n b [] = []
batch_text n b (l ∷ ls) = board_text n (number_of (later_outcome b l).answer) (later_outcome b l).board ++ batch_text (next_number n) (later_outcome b l).board ls

pub batch_most_lem : (n : ℕ) (b : Board) (ls : List (List ℕ)) → n ≤ 4294967295 → Sound b → length (batch_text n b ls) ≤ longest_line * length ls
unfolding batch_text
batch_most_lem n b [] p h = omega arith
batch_most_lem n b (l ∷ ls) p h =
    omega (arith, length-append (board_text n (number_of (later_outcome b l).answer) (later_outcome b l).board) (batch_text (next_number n) (later_outcome b l).board ls), later_most n b l p h, batch_most_lem (next_number n) (later_outcome b l).board ls (omega arith) (outcome_sound b (step_by (reading false l)) h))

-- ---- the pieces of a batch whose text fits
unfoldable pub batch_piece : ℕ → ℕ → ℕ → Board → List ℕ → Piece
batch_piece k at n b s = record {
  text = batch_text n b (lines_at k at s);
  next = later_cursor (place_after k at s) (number_after n (length (lines_at k at s))) (board_after b (lines_at k at s));
}

pub part_batched : (k at n : ℕ) (b : Board) (s : List ℕ) (room : ℕ) → length (batch_text n b (lines_at k at s)) ≤ room → part_within k (later_cursor at n b) s room ≡ batch_piece k at n b s
unfolding batch_piece part_within lines_at place_after number_after board_after batch_text piece later_piece
part_batched zero at n b s room l = refl
part_batched (suc k) at n b s room l =
    by_test (leb (length s) at) (λ e. rw e)
    (λ e.
    let o : Outcome = outcome_at at b s in
    let row : List ℕ = board_text n (number_of o.answer) o.board in
    let rest : List ℕ = batch_text (next_number n) o.board (lines_at k (behind at s) s) in
    let m : length (row ++ rest) ≤ room = rw e at l in
    let sum = length-append row rest in
    rw (e, le-leb (length row) room (omega (arith, m, sum))) (ap (before row) (part_batched k (behind at s) (next_number n) o.board s (room - length row) (omega (arith, m, sum)))))

-- ---- lines as step records
-- a record of kind 0 is refused and leaves a sound board as it was
unknown_keeps : (b : Board) → Sound b → (step b no_step).board ≡ b
unfolding record_rule effect applied sheet_sound_step sound_step
unknown_keeps b h = ap (λ (o : Outcome). o.board) (step_sound b no_step h ∙ ap (λ (o : SheetOutcome). on_board b.rounds Unknown o) (refused_applied (view b) Unknown 0 0 NoSuchKind))

line_board : (b : Board) → Sound b → (x : Result StepRecord Refusal) → (step b (record_of x)).board ≡ (step_outcome b x).board
line_board b h (Ok r) = refl
line_board b h (Err k) = unknown_keeps b h

line_answer : (b : Board) (x : Result StepRecord Refusal) → answer_of (refusal_of x) (number_of (step b (record_of x)).answer) ≡ number_of (step_outcome b x).answer
line_answer b (Ok r) = refl
line_answer b (Err k) = refl

pub batch_board : (b : Board) (ls : List (List ℕ)) → Sound b → after b (records_of ls) ≡ board_after b ls
unfolding after_all records_of board_after
batch_board b [] h = refl
batch_board b (l ∷ ls) h =
    let x : Result StepRecord Refusal = step_by (reading false l) in
    batch_board (step b (record_of x)).board ls (step_keeps_sound b (record_of x) h) ∙ ap (λ (c : Board). board_after c ls) (line_board b h x)

pub batch_rows : (n : ℕ) (b : Board) (ls : List (List ℕ)) → Sound b → rows_text n (refusals_of ls) (answers b (records_of ls)) (debts b (records_of ls)) ≡ batch_text n b ls
unfolding rows_text refusals_of records_of all_answers debts batch_text
batch_rows n b [] h = refl
batch_rows n b (l ∷ ls) h =
    let x : Result StepRecord Refusal = step_by (reading false l) in
    let c : Board = (step b (record_of x)).board in
    let next : Sound c = step_keeps_sound b (record_of x) h in
    rw (batch_rows (next_number n) c ls next, sym (verdict_sound c next), line_answer b x) (ap (λ (d : Board). board_text n (number_of (step_outcome b x).answer) d ++ batch_text (next_number n) d ls) (line_board b h x))

pub records_length : (ls : List (List ℕ)) → length (records_of ls) ≡ length ls
unfolding records_of
records_length [] = refl
records_length (l ∷ ls) = ap suc (records_length ls)

pub refusals_length : (ls : List (List ℕ)) → length (refusals_of ls) ≡ length ls
unfolding refusals_of
refusals_length [] = refl
refusals_length (l ∷ ls) = ap suc (refusals_length ls)

-- ---- what the core gives
abbrev pub batch_done : Board → List StepRecord → Batch
batch_done b rs = record { ran = Ok (zeros (answers b rs)); board = after b rs; answers = padded (answers b rs); debts = padded (debts b rs) }

batch_sound : (b : Board) (rs : List StepRecord) → Sound b → batch b rs ≡ batch_done b rs
unfolding batch
batch_sound b rs h = rw (sound_tested b h)

-- of script lines that were gathered
module _ (b : Board) (is_sound : Sound b) (g : Gathered) {ls : List (List ℕ)} {at : ℕ} (gathers : Gathers g ls at) {d : Batch} (ran : d ≡ batch b (take g.count g.steps)) where
  pub batch_done_lem : d ≡ batch_done b (records_of ls)
  batch_done_lem = ran ∙ ap (batch b) gathers.steps ∙ batch_sound b (records_of ls) is_sound

  pub batch_leaves : d.board ≡ board_after b ls
  batch_leaves = ap (λ (x : Batch). x.board) batch_done_lem ∙ batch_board b ls is_sound
