-- The order of two checks: a row with two neighbours exchanged, and what M-103, which exchanged two of a send's, did to answers.
use Rattle.std.specs.Prelude.{◌≡◌, Bool, true, false, not, cond, ◌&&◌, List, [], ◌∷◌, ◌++◌, ℕ, zero, suc, ◌<◌, eqb, Err}
use Rattle.refusals.specs.declared.Refusal.{Refusal}
use Rattle.refusals.specs.declared.Refusal.TheVariants.{NotSound}
use Rattle.refusals.specs.Numbers.{number, number_of}
use Rattle.rules.specs.Facts.{Check, check, holds, test, judge}
use Rattle.rules.specs.Sound.{sound}
use Rattle.rules.specs.Actions.{action_of}
use Rattle.rules.specs.Letters.{slot_of}
use Rattle.rules.specs.Sheets.Sheet.{unit_at}
use Rattle.rules.specs.Sheets.Steps.{unit_of, places_on, checks_on, done_on, applied}
use Rattle.rules.specs.Boards.{view}
use Rattle.rules.specs.Steps.{on_board, step}
use Rattle.rules.specs.Records.{Action, Send, Board, StepRecord, Outcome}

-- ---- of any row
-- the row with checks i and i + 1 exchanged; where it has no check i + 1, the row as it is
abbrev pub exchanged : ℕ → List Check → List Check
exchanged i [] = []
exchanged zero (c ∷ []) = c ∷ []
exchanged zero (c ∷ d ∷ cs) = d ∷ c ∷ cs
exchanged (suc i) (c ∷ cs) = c ∷ exchanged i cs

-- every check before check i holds, and checks i and i + 1 fail
abbrev pub both_fail : ℕ → List Check → Bool
both_fail i [] = false
both_fail zero (c ∷ []) = false
both_fail zero (check f j ∷ check g k ∷ cs) = not (test f) && not (test g)
both_fail (suc i) (check f j ∷ cs) = test f && both_fail i cs

-- the refusal of check i; a row that has no check i has none, and that of an unsound board stands for it
abbrev pub refusal_at : ℕ → List Check → Refusal
refusal_at i [] = NotSound
refusal_at zero (check f k ∷ cs) = k
refusal_at (suc i) (c ∷ cs) = refusal_at i cs

-- the place of the first check with a number; where there is none, the row's length
abbrev pub place_by : ℕ → List Check → ℕ
place_by k [] = 0
place_by k (check f j ∷ cs) = cond (eqb (number j) k) 0 (suc (place_by k cs))

-- where both fail, one row gives the first refusal and the other the second; everywhere else both give the same
pub record Exchanged {A : Type 0} (refused : Refusal → A) (cs : List Check) (result : A) (i : ℕ) : Type 0 where
  pub first : both_fail i cs ≡ true → judge refused cs result ≡ refused (refusal_at i cs)
  pub second : both_fail i cs ≡ true → judge refused (exchanged i cs) result ≡ refused (refusal_at (suc i) cs)
  pub others : both_fail i cs ≡ false → judge refused (exchanged i cs) result ≡ judge refused cs result

abbrev pub RowsExchanged : Type 1
RowsExchanged = (A : Type 0) (refused : Refusal → A) (cs : List Check) (result : A) (i : ℕ) → Exchanged refused cs result i

-- ---- of a step
-- its whole bracket, with 30, which precedes all
abbrev pub bracket : Board → StepRecord → Action → List Check
bracket b r a = check (holds (sound b)) NotSound ∷ places_on (view b) r a ++ checks_on (view b) r a

-- the step as a row of checks judges it: a refusal leaves the board
abbrev pub step_under : List Check → Board → StepRecord → Action → Outcome
step_under cs b r a = judge (λ k. record { answer = Err k; board = b }) cs (on_board b.rounds a (applied (view b) a (unit_of (view b) r a) (slot_of r a) (done_on (view b) r a)))

-- ---- of a send
-- what it gives with 33 and the check behind it, 34, exchanged back
abbrev pub send_as_before : Board → StepRecord → Outcome
send_as_before b r = step_under (exchanged (place_by 33 (bracket b r Send)) (bracket b r Send)) b r Send

-- what a send answers now, where it answered k: 34 becomes 33 where the weight is below 2 too, and no other answer changes
pub data AnswersNow (b : Board) (r : StepRecord) (k : ℕ) : Type 0 where
  becomes33 : k ≡ 34 → (unit_at (view b) r.unit).weight < 2 → number_of (step b r).answer ≡ 33 → AnswersNow b r k
  stays : (k ≡ 34 → (unit_at (view b) r.unit).weight < 2 → ⊥) → number_of (step b r).answer ≡ k → AnswersNow b r k

-- for every board and every send: the answer, and the board after it, which is the same either way
unfoldable pub SendsReordered : Type 0
SendsReordered = (b : Board) (r : StepRecord) → action_of r.kind ≡ Send → AnswersNow b r (number_of (send_as_before b r).answer) × ((step b r).board ≡ (send_as_before b r).board)
