-- A list of events on a sound board shows the list of its steps on the board's sheet: the sheet after it, what it counts, its drains.
use mathlib.Core.Path.{◌≡◌, refl, sym, ap, subst, ◌∙◌}
use mathlib.Core.Bool.{Bool, cond}
use mathlib.Core.Logic.{◌↔◌}
use mathlib.Core.List.{List, [], ◌∷◌}
use Prim.Native.Nat.{ℕ, ◌+◌}
use native.Mathlib.Omega.{arith}
use lib.Dec.{eqb}
use Rattle.refusals.specs.Numbers.{number_of}
use Rattle.rules.specs.Events.{after_all, accepts, tally_all, DrainOf}
use Rattle.rules.specs.Boards.{view}
use Rattle.rules.specs.Sound.{Sound}
use Rattle.rules.specs.Steps.{step}
use Rattle.rules.specs.Visits.{begin, visit}
use Rattle.rules.specs.Lists.{steps, after, Event, takes, begins, visits, events, count_by}
use Rattle.rules.specs.Sheets.Sheet.{Sheet}
use Rattle.rules.specs.Sheets.Steps.{step as sheet_step}
use Rattle.rules.specs.Sheets.Lists.{steps as sheet_steps, after as sheet_after, undrained_count}
use Rattle.rules.specs.Sheets.Finished.{verdict as sheet_verdict}
use Rattle.rules.specs.Drains.{Drain}
use Rattle.rules.specs.Guarantee.{sheets, boards, Longer, DrainsEnd}
use Rattle.rules.proofs.FactLaws.{by_test}
use Rattle.rules.proofs.Views.{step_shown, begin_sound, VisitTells, visited, unvisited, visit_tells}
use Rattle.rules.proofs.EventSound.{answer_shown, step_keeps_sound, event_keeps_sound}
use Rattle.rules.proofs.EventLaws.{list_keeps}
use Rattle.rules.proofs.FinishedLaws.{verdict_shown}
use Rattle.rules.specs.Records.{Board, StepRecord, Outcome, Visited}

-- ---- one event
pub step_view : (b : Board) (r : StepRecord) → Sound b → view (step b r).board ≡ (sheet_step (view b) r).sheet
step_view b r h = ap (λ (o : Outcome). view o.board) (step_shown b r h)

pub begin_view : (b : Board) → Sound b → view (begin b).board ≡ view b
begin_view b h = ap (λ (o : Outcome). view o.board) (begin_sound b h)

pub visit_view : (b : Board) (u : ℕ) → view (visit b u).board ≡ view b
visit_view b u = by_visit (visit_tells b u)
  where
    by_visit : VisitTells b u → view (visit b u).board ≡ view b
    by_visit (visited s c e) = ap (λ (o : Visited). view o.board) e
    by_visit (unvisited k e) = ap (λ (o : Visited). view o.board) e

-- ---- a list of events
-- the steps among them
abbrev pub steps_of : List Event → List StepRecord
steps_of [] = []
steps_of (takes r ∷ es) = r ∷ steps_of es
steps_of (begins ∷ es) = steps_of es
steps_of (visits u ∷ es) = steps_of es

pub shown_after : (b : Board) (es : List Event) → Sound b → view (after_all events b es) ≡ sheet_after (view b) (steps_of es)
unfolding after_all
shown_after b [] h = refl
shown_after b (takes r ∷ es) h = shown_after (step b r).board es (step_keeps_sound b r h) ∙ ap (λ (c : Sheet). sheet_after c (steps_of es)) (step_view b r h)
shown_after b (begins ∷ es) h = shown_after (begin b).board es (event_keeps_sound b begins h) ∙ ap (λ (c : Sheet). sheet_after c (steps_of es)) (begin_view b h)
shown_after b (visits u ∷ es) h = shown_after (visit b u).board es (event_keeps_sound b (visits u) h) ∙ ap (λ (c : Sheet). sheet_after c (steps_of es)) (visit_view b u)

module _ (count : Sheet → StepRecord → ℕ) where
  nothing : (t : Bool) (k : ℕ) → cond t 0 0 + k ≡ k
  nothing t k = by_test (λ s. cond s 0 0 + k ≡ k) t (λ e. omega arith) (λ e. omega arith)

  -- a count of the steps is the sheet's
  pub shown_tally : (b : Board) (es : List Event) → Sound b → tally_all events (count_by count) b es ≡ tally_all sheet_steps count (view b) (steps_of es)
  unfolding tally_all
  shown_tally b [] h = refl
  shown_tally b (takes r ∷ es) h =
      ap (λ (k : ℕ). cond (eqb (number_of (step b r).answer) 0) (count (view b) r) 0 + k) (shown_tally (step b r).board es (step_keeps_sound b r h) ∙ ap (λ (c : Sheet). tally_all sheet_steps count c (steps_of es)) (step_view b r h))
      ∙ ap (λ (k : ℕ). cond (eqb k 0) (count (view b) r) 0 + tally_all sheet_steps count (sheet_step (view b) r).sheet (steps_of es)) (answer_shown b r h)
  shown_tally b (begins ∷ es) h =
      nothing (accepts events b begins) _ ∙ shown_tally (begin b).board es (event_keeps_sound b begins h) ∙ ap (λ (c : Sheet). tally_all sheet_steps count c (steps_of es)) (begin_view b h)
  shown_tally b (visits u ∷ es) h =
      nothing (accepts events b (visits u)) _ ∙ shown_tally (visit b u).board es (event_keeps_sound b (visits u) h) ∙ ap (λ (c : Sheet). tally_all sheet_steps count c (steps_of es)) (visit_view b u)

-- ---- drains
pub list_keeps_sound : (b : Board) (rs : List StepRecord) → Sound b → Sound (after b rs)
list_keeps_sound = list_keeps steps Sound step_keeps_sound

pub steps_after : (b : Board) (rs : List StepRecord) → Sound b → view (after b rs) ≡ sheet_after (view b) rs
unfolding after_all
steps_after b [] h = refl
steps_after b (r ∷ rs) h = steps_after (step b r).board rs (step_keeps_sound b r h) ∙ ap (λ (c : Sheet). sheet_after c rs) (step_view b r h)

-- a drain of the board is one of its sheet, and the other way
pub drain_shown : (b : Board) (rs : List StepRecord) → Sound b → Drain b rs ↔ DrainOf sheet_steps undrained_count (view b) rs
unfolding DrainOf
drain_shown b [] h = (λ z. z, λ z. z)
drain_shown b (r ∷ rs) h =
    let rest = drain_shown (step b r).board rs (step_keeps_sound b r h) in (
      λ z. ((sym (answer_shown b r h) ∙ z.0.0, z.0.1), subst (λ (c : Sheet). DrainOf sheet_steps undrained_count c rs) (step_view b r h) (rest.0 z.1)),
      λ z. ((answer_shown b r h ∙ z.0.0, z.0.1), rest.1 (subst (λ (c : Sheet). DrainOf sheet_steps undrained_count c rs) (sym (step_view b r h)) z.1)),
    )

pub drains_shown : (b : Board) → Sound b → DrainsEnd sheets (view b) → DrainsEnd boards b
drains_shown b h d = record {
  bounded = λ rs z. d.bounded rs ((drain_shown b rs h).0 z);
  unstuck = λ rs z n.
      let e : view (after b rs) ≡ sheet_after (view b) rs = steps_after b rs h in
      let k : Sound (after b rs) = list_keeps_sound b rs h in
      let l = subst (λ (c : Sheet). Longer sheets c) (sym e) (d.unstuck rs ((drain_shown b rs h).0 z) (λ q. n (verdict_shown (after b rs) k ∙ ap sheet_verdict e ∙ q))) in
      record { way = l.way; there = l.there; fits = l.fits; is_step = (answer_shown (after b rs) _ k ∙ l.is_step.0, l.is_step.1) };
}
