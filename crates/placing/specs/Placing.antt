-- A text written at a place of a buffer: every writer of bytes answers and leaves its buffer by these two.
use Rattle.std.specs.Prelude.{◌≡◌, cond, Result, Ok, Err, List, ℕ, ◌+◌, length, leb}
use Rattle.std.proofs.lemmas.List.Edits.{sets}
use Rattle.refusals.specs.declared.Refusal.{Refusal}
use Rattle.refusals.specs.declared.Refusal.TheVariants.{NoRoom}

-- how many bytes were written; 27 where the text doesn't fit in the buffer, or the place is past its end
unfoldable pub wrote : List ℕ → ℕ → List ℕ → Result ℕ Refusal
wrote text at out = cond (leb (at + length text) (length out)) (Ok (length text)) (Err NoRoom)

-- the buffer after it: the text at its place and the rest as it was; a refusal keeps every byte
unfoldable pub written : List ℕ → ℕ → List ℕ → List ℕ
written text at out = cond (leb (at + length text) (length out)) (sets out at text) out

-- what a writer of text promises of its answer r and of the buffer left that it leaves
abbrev pub Writes : List ℕ → ℕ → List ℕ → Result ℕ Refusal → List ℕ → Type 0
Writes text at out r left = (r ≡ wrote text at out) × (left ≡ written text at out)
