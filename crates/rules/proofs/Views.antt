-- A board and the sheet that it shows: a step on a sound board is its sheet's, a beginning and a visit leave the sheet as it was.
use mathlib.Core.Path.{◌≡◌, sym, ap, ◌∙◌}
use mathlib.Core.Bool.{false}
use Prim.Native.Nat.{ℕ}
use native.Mathlib.Omega.{arith}
use borrow.Author.Tests.{ne_eqb}
use Rattle.refusals.proofs.NumberLaws.{refused_not_ok}
use Rattle.refusals.specs.declared.Refusal.TheVariants.{NotSound}
use Rattle.refusals.specs.declared.Refusal.{Refusal}
use Rattle.std.specs.Prelude.{Result, Ok, Err}
use Rattle.refusals.specs.Numbers.{number_of}
use Rattle.rules.specs.Facts.{Claims}
use Rattle.rules.specs.Actions.{action_of}
use Rattle.rules.specs.Rounds.{begun, visit_checks, rounds_after, found}
use Rattle.rules.specs.Boards.{view, board_of, seen_of}
use Rattle.rules.specs.Sound.{Sound, sound}
use Rattle.rules.specs.Steps.{rounds_kept, on_board, sound_step, step}
use Rattle.rules.specs.Visits.{begin, visit_bracket, visit}
use Rattle.rules.specs.Sheets.Sheet.{Outcome as SheetOutcome}
use Rattle.rules.specs.Sheets.Steps.{step as sheet_step}
use Rattle.rules.proofs.FactLaws.{true_or_not, asked, judge_passed}
use Rattle.rules.proofs.JudgeLaws.{Judged, passed, failed, judged, first_passed}
use Rattle.rules.proofs.SoundLaws.{sound_claims, sound_tested}
use Rattle.rules.proofs.Sheets.Accepted as of-sheets
use Rattle.rules.proofs.Sheets.ListLaws.{refused_keeps as sheet-refused-keeps}
use Rattle.rules.specs.Records.{Action, Rounds, Board, StepRecord, Outcome, Visited}

-- ---- a step: on a sound board it is the step without the test; on another board it is 30
pub step_sound : (b : Board) (r : StepRecord) → Sound b → step b r ≡ sound_step b r
unfolding step
step_sound b r h = rw (sound_tested b h)

pub accepted_sound : (b : Board) (r : StepRecord) → number_of (step b r).answer ≡ 0 → Sound b
unfolding step
accepted_sound b r e = sound_claims b (first_passed (λ (o : Outcome). number_of o.answer) (λ k. record { answer = Err k; board = b }) (sound b) NotSound (sound_step b r) (λ z. omega (arith, z)) e)

unsound_keeps : (b : Board) (r : StepRecord) → sound b ≡ false → (step b r).board ≡ b
unfolding step
unsound_keeps b r e = rw e

-- it is the sheet's step
pub step_shown : (b : Board) (r : StepRecord) → Sound b → step b r ≡ on_board b.rounds (action_of r.kind) (sheet_step (view b) r)
unfolding sound_step
step_shown b r h = step_sound b r h ∙ ap (λ (o : SheetOutcome). on_board b.rounds (action_of r.kind) o) (sym (of-sheets.step_sound (view b) r h.sheet))

-- ---- a beginning on a sound board
pub begin_sound : (b : Board) → Sound b → begin b ≡ record { answer = Ok tt; board = board_of (view b) begun }
unfolding begin
begin_sound b h = rw (sound_tested b h)

-- ---- a visit is accepted, or it is refused by a number
-- the outcome of an accepted visit
abbrev pub visited_by : Board → ℕ → Visited
visited_by b u = record { finding = Ok (found (seen_of (view b)) b.rounds u); board = board_of (view b) (rounds_after (seen_of (view b)) b.rounds u) }

pub data VisitTells (b : Board) (u : ℕ) : Type 0 where
  visited : Sound b → Claims (asked (visit_checks (seen_of (view b)) b.rounds u)) → visit b u ≡ visited_by b u → VisitTells b u
  unvisited : (k : Refusal) → visit b u ≡ record { finding = Err k; board = b } → VisitTells b u

pub visit_tells : (b : Board) (u : ℕ) → VisitTells b u
unfolding visit
visit_tells b u = by_checks (judged (λ k. record { finding = Err k; board = b }) (visit_bracket b u) (visited_by b u))
  where
    by_checks : Judged (λ k. record { finding = Err k; board = b }) (visit_bracket b u) (visited_by b u) → VisitTells b u
    by_checks (passed c) = visited (sound_claims b c.0) c.1 (judge_passed (λ k. record { finding = Err k; board = b }) (visit_bracket b u) (visited_by b u) c)
    by_checks (failed k q) = unvisited k q

-- ---- a refused step keeps the board
pub rounds_stay : (k : Result (Unit {0}) Refusal) (a : Action) (x : Rounds) → (number_of k ≡ 0 → ⊥) → rounds_kept k a x ≡ x
rounds_stay k a x n = rw (refused_not_ok k n)

pub refused_keeps : (b : Board) (r : StepRecord) → (number_of (step b r).answer ≡ 0 → ⊥) → (step b r).board ≡ b
refused_keeps b r n = true_or_not (sound b) (λ q. of_sound (sound_claims b q)) (unsound_keeps b r)
  where
    of_sound : Sound b → (step b r).board ≡ b
    of_sound h =
        let e : step b r ≡ on_board b.rounds (action_of r.kind) (sheet_step (view b) r) = step_shown b r h in
        let m : number_of (sheet_step (view b) r).answer ≡ 0 → ⊥ = λ z. n (ap (λ (o : Outcome). number_of o.answer) e ∙ z) in
        ap (λ (o : Outcome). o.board) e ∙ (λ i. board_of (sheet-refused-keeps (view b) r m i) (rounds_stay (sheet_step (view b) r).answer (action_of r.kind) b.rounds m i))
