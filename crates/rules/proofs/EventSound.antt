-- Each event keeps a sound board sound: a step as its sheet's, with counts that only grow; a beginning and a visit as their rounds.
use mathlib.Core.Path.{◌≡◌, refl, sym, ap, subst, ◌∙◌}
use mathlib.Core.Bool.{true, false, cond, ◌&&◌}
use Prim.Native.Nat.{ℕ}
use native.Mathlib.Omega.{arith}
use lib.Dec.{eqb}
use Rattle.refusals.proofs.NumberLaws.{accepted_ok}
use Rattle.refusals.specs.declared.Refusal.{Refusal}
use Rattle.std.specs.Prelude.{Result, is_ok}
use Rattle.refusals.specs.Numbers.{number_of}
use Rattle.rules.specs.Facts.{one_if}
use Rattle.rules.specs.Actions.{action_of, is_action}
use Rattle.rules.specs.Rounds.{no_round, SoundRounds}
use Rattle.rules.specs.Boards.{view, seen_of}
use Rattle.rules.specs.Sound.{Sound}
use Rattle.rules.specs.Steps.{rounds_kept, step}
use Rattle.rules.specs.Visits.{visit}
use Rattle.rules.specs.Lists.{steps, Event, takes, begins, visits, next_by}
use Rattle.rules.specs.Sheets.Sheet.{Sheet}
use Rattle.rules.specs.Sheets.Steps.{step as sheet_step}
use Rattle.rules.proofs.FactLaws.{by_test, true_or_not}
use Rattle.rules.proofs.EventLaws.{accepted_or_not}
use Rattle.rules.proofs.RoundSound.{none_sound, begun_sound, grown_sound, visited_sound}
use Rattle.rules.proofs.Views.{step_shown, refused_keeps, begin_sound, VisitTells, visited, unvisited, visit_tells}
use Rattle.rules.proofs.Sheets.ListLaws as of-sheets
use Rattle.rules.proofs.Sheets.CountLaws.{step_advances}
use Rattle.rules.specs.Records.{Start, Rounds, Board, StepRecord, Outcome, Visited}

-- the answer of a step on a sound board is its sheet's
pub answer_shown : (b : Board) (r : StepRecord) → Sound b → number_of (step b r).answer ≡ number_of (sheet_step (view b) r).answer
answer_shown b r h = ap (λ (o : Outcome). number_of o.answer) (step_shown b r h)

-- an accepted start drops the rounds, another accepted step leaves them
pub start_drops : (r : StepRecord) (k : Result (Unit {0}) Refusal) (x : Rounds) → number_of k ≡ 0 → is_action Start (action_of r.kind) ≡ true → rounds_kept k (action_of r.kind) x ≡ no_round
start_drops r k x z e = rw (accepted_ok k z, e)

pub other_leaves : (r : StepRecord) (k : Result (Unit {0}) Refusal) (x : Rounds) → is_action Start (action_of r.kind) ≡ false → rounds_kept k (action_of r.kind) x ≡ x
other_leaves r k x e = by_test (λ t. cond (t && is_action Start (action_of r.kind)) no_round x ≡ x) (is_ok k) (λ q. rw e) (λ q. refl)

module _ (b : Board) (r : StepRecord) (h : Sound b) (z : number_of (sheet_step (view b) r).answer ≡ 0) where
  abbrev left : Sheet
  left = (sheet_step (view b) r).sheet

  rounds_after_lem : SoundRounds (seen_of left) (rounds_kept (sheet_step (view b) r).answer (action_of r.kind) b.rounds)
  rounds_after_lem =
      true_or_not (is_action Start (action_of r.kind)) (λ e. subst (SoundRounds (seen_of left)) (sym (start_drops r (sheet_step (view b) r).answer b.rounds z e)) (none_sound (seen_of left)))
      (λ e.
      let m = step_advances (view b) r h.sheet z (ap one_if e) in
      subst (SoundRounds (seen_of left)) (sym (other_leaves r (sheet_step (view b) r).answer b.rounds e)) (grown_sound (seen_of (view b)) (seen_of left) b.rounds m.same_units m.created_grows m.processed_grows h.rounds))

pub step_keeps_sound : (b : Board) (r : StepRecord) → Sound b → Sound (step b r).board
step_keeps_sound b r h =
    accepted_or_not steps b r
    (λ e. subst (λ (o : Outcome). Sound o.board) (sym (step_shown b r h)) (record { sheet = of-sheets.step_keeps_sound (view b) r h.sheet; rounds = rounds_after_lem b r h (sym (answer_shown b r h) ∙ e) }))
    (λ n. subst Sound (sym (refused_keeps b r n)) h)

pub event_keeps_sound : (b : Board) (e : Event) → Sound b → Sound (next_by b e)
event_keeps_sound b (takes r) h = step_keeps_sound b r h
event_keeps_sound b begins h = subst (λ (o : Outcome). Sound o.board) (sym (begin_sound b h)) (record { sheet = h.sheet; rounds = begun_sound (seen_of (view b)) })
event_keeps_sound b (visits u) h = by_visit (visit_tells b u)
  where
    by_visit : VisitTells b u → Sound (visit b u).board
    by_visit (visited s c e) =
        subst (λ (o : Visited). Sound o.board) (sym e) (record { sheet = h.sheet; rounds = visited_sound (seen_of (view b)) b.rounds u h.rounds (omega (arith, h.sheet.s1_sizes)) c })
    by_visit (unvisited k e) = subst (λ (o : Visited). Sound o.board) (sym e) h
