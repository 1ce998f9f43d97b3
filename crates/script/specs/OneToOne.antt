-- A line is known by what it says (M-101): no number is padded, so lines that say the same are the same bytes. Of lines of any bytes;
-- "accepted" is by the reader, whatever a board then answers.
use Rattle.std.specs.Prelude.{◌≡◌, Bool, true, false, Ok, List, [], ◌∷◌, ◌++◌, ℕ, take, drop}
use Rattle.rules.specs.Actions.{action_of, is_known}
use Rattle.rules.specs.Letters.{used}
use Rattle.rules.specs.Guarantee.{Fits16}
use Rattle.rules.specs.declared.StepRecord.{StepRecord}
use Rattle.numbers.specs.Lines.{lines_of, all_ended}
use Rattle.script.specs.Lines.{reading, parents_of}
use Rattle.script.specs.Writing.{step_line, step_text, step_wrote, step_written}
use Rattle.script.specs.declared.Line.TheVariants.{Opens, Asks}

-- ---- step lines
-- a line with byte 10 put after it is the line that the writer makes of a step; and so it stands in a buffer that the step was written to
pub record IsWritten (l : List ℕ) (r : StepRecord) : Type 0 where
  pub line : l ++ 10 ∷ [] ≡ step_text r
  pub buffer : (at n : ℕ) (out : List ℕ) → step_wrote r at out ≡ Ok n → take n (drop at (step_written r at out)) ≡ l ++ 10 ∷ []

-- every accepted step line
abbrev pub StepLinesWritten : Type 0
StepLinesWritten = (l : List ℕ) (r : StepRecord) → reading false l ≡ Ok (Asks r) → IsWritten l r

-- a step that a line can say: of a known kind, with fields of 16 bits, and with 0 in the fields that its kind has no letter for
pub record Sayable (r : StepRecord) : Type 0 where
  pub known : is_known (action_of r.kind) ≡ true
  pub fits : Fits16 r
  pub unused : used r ≡ r

-- accepted step lines and such steps, one to one: from the line to its step and back to the line, and from the step to its line and back
pub record OneToOne : Type 0 where
  pub from_line : (l : List ℕ) (r : StepRecord) → reading false l ≡ Ok (Asks r) → Sayable r × (step_line r ≡ l)
  pub from_step : (r : StepRecord) → Sayable r → reading false (step_line r) ≡ Ok (Asks r)

-- ---- board lines
-- two accepted board lines with the same M, d and parents in the same order are the same bytes. (i and j tell how many parents there are)
abbrev pub BoardLinesSame : Type 0
BoardLinesSame = (l k : List ℕ) (m d i j : ℕ) → reading true l ≡ Ok (Opens m d i) → reading true k ≡ Ok (Opens m d j) → parents_of l ≡ parents_of k → l ≡ k

-- ---- whole scripts
-- two accepted lines that say the same: the same M, d and parents, or the same step
pub data SaySame (first : Bool) (l k : List ℕ) : Type 0 where
  same_board : (m d i j : ℕ) → reading first l ≡ Ok (Opens m d i) → reading first k ≡ Ok (Opens m d j) → parents_of l ≡ parents_of k → SaySame first l k
  same_step : (r : StepRecord) → reading first l ≡ Ok (Asks r) → reading first k ≡ Ok (Asks r) → SaySame first l k

-- line by line, of which only the first is read as a first line
abbrev pub AllSaySame : Bool → List (List ℕ) → List (List ℕ) → Type 0
AllSaySame first [] [] = Unit {0}
AllSaySame first [] (k ∷ ks) = ⊥
AllSaySame first (l ∷ ls) [] = ⊥
AllSaySame first (l ∷ ls) (k ∷ ks) = SaySame first l k × AllSaySame false ls ks

-- two scripts, each line of which is accepted and has its byte 10, that say the same are the same bytes
abbrev pub ScriptsSame : Type 0
ScriptsSame = (s t : List ℕ) → all_ended s → all_ended t → AllSaySame true (lines_of s) (lines_of t) → s ≡ t
