-- What the calls inside a listing in parts give: the place behind the first line, and a batch of lines gathered and written.
-- For private contracts only; a reader of the claim may skip this.
use Rattle.std.specs.Prelude.{Option, Some, None, Result, Ok, Err, List, [], ◌∷◌, ◌≡◌, ℕ, ◌+◌, ◌-◌, ◌/◌, min, max, length, take, leb}
use Rattle.std.proofs.lemmas.List.Edits.{sets}
use Rattle.std.specs.Result.{result_unwrap_or}
use Rattle.refusals.specs.Numbers.{number}
use Rattle.refusals.specs.declared.Refusal.{Refusal}
use Rattle.refusals.specs.declared.Refusal.TheVariants.{ScriptTooLong, NotSound}
use Rattle.rules.specs.Facts.{Check, check, holds}
use Rattle.rules.specs.Sound.{sound}
use Rattle.rules.specs.Sheets.Finished.{told_from}
use Rattle.rules.specs.Runs.{batch_most}
use Rattle.placing.specs.Placing.{wrote, written}
use Rattle.numbers.specs.Lines.{behind}
use Rattle.texts.specs.Texts.{line_text}
use Rattle.listing.specs.Bounds.{longest_line}
use Rattle.listing.specs.Parts.{next_number, part_within}
use Rattle.listing.specs.Batches.{records_of, refusals_of}
use Rattle.listing.specs.declared.NextLine.{NextLine}
use Rattle.listing.specs.declared.Cursor.{Cursor}
use Rattle.listing.specs.declared.Cursor.TheVariants.{Behind}
use Rattle.listing.specs.declared.Part.{Part}
use Rattle.listing.specs.declared.gathering.Gathered.{Gathered}
use Rattle.listing.specs.declared.turns.Progress.{Progress}

-- where the first piece leaves off, by its answer: behind the first line, or behind the whole script
abbrev pub start_place : List ℕ → Result (Unit {0}) Refusal → ℕ
start_place s (Ok _) = behind 0 s
start_place s (Err k) = length s

-- the script lines ls gathered, with the place behind them
pub record Gathers (g : Gathered) (ls : List (List ℕ)) (at : ℕ) : Type 0 where
  pub steps : take g.count g.steps ≡ records_of ls
  pub refusals : take g.count g.refusals ≡ refusals_of ls
  pub count : g.count ≡ length ls
  pub place : g.at ≡ at

-- ---- the lines of a batch written one behind the other
abbrev pub bytes_of : Result ℕ Refusal → ℕ
bytes_of r = result_unwrap_or r 0

-- the number that a script line is answered by: its refusal's, or the answer j to its step
abbrev pub answer_of : Option Refusal → ℕ → ℕ
answer_of None j = j
answer_of (Some k) j = number k

-- its line, with the debt after it
abbrev pub row_text : ℕ → Option Refusal → ℕ → ℕ → List ℕ
row_text n k j debt = line_text {E = Refusal} n (answer_of k j) debt (Ok (told_from debt))

-- the number of the next line, the place behind the last byte, and the buffer
pub record Placed : Type 0 where
  pub line : ℕ
  pub to : ℕ
  pub left : List ℕ

-- a line that does not fit leaves the buffer and the place as they are
unfoldable pub rows_into : ℕ → List (Option Refusal) → List ℕ → List ℕ → ℕ → List ℕ → Placed
rows_into n [] js ds at out = record { line = n; to = at; left = out }
rows_into n (k ∷ ks) [] ds at out = record { line = n; to = at; left = out }
rows_into n (k ∷ ks) (j ∷ js) [] at out = record { line = n; to = at; left = out }
rows_into n (k ∷ ks) (j ∷ js) (d ∷ ds) at out = rows_into (next_number n) ks js ds (at + bytes_of (wrote (row_text n k j d) at out)) (written (row_text n k j d) at out)

-- ---- a part of a listing behind its first line
abbrev pub cursor_of : Progress → Cursor
cursor_of p = Behind p.next

-- a call by what it has come to, or by what refuses it: then its cursor is the one handed over
abbrev pub part_by : Cursor → Result Progress Refusal → Part
part_by c (Ok p) = record { wrote = Ok p.to; cursor = cursor_of p }
part_by c (Err k) = record { wrote = Err k; cursor = c }

-- what is asked of a cursor behind the first line, where lines are left
abbrev pub later_checks : NextLine → List ℕ → List Check
later_checks p s = check (holds (leb (length s) 65535)) ScriptTooLong ∷ check (holds (sound p.board)) NotSound ∷ []

-- how many lines surely fit in so many bytes, at most a batch; one where none surely does
abbrev pub batch_size : ℕ → ℕ
batch_size room = max 1 (min batch_most (room / longest_line))

-- from p at most k pieces are written to the buffer out, which leaves r and the buffer left
pub record WritesPieces (k : ℕ) (p : Progress) (s out : List ℕ) (r : Progress) (left : List ℕ) : Type 0 where
  pub cursor : cursor_of r ≡ (part_within k (cursor_of p) s (length out - p.to)).next
  pub to : r.to ≡ p.to + length (part_within k (cursor_of p) s (length out - p.to)).text
  pub buffer : left ≡ sets out p.to (part_within k (cursor_of p) s (length out - p.to)).text
