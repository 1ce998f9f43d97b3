-- The guarantee holds, for every accepted opening and every list of steps, beginnings and visits. On a finished board all was taken back, and every step but a start or a move is refused.
use mathlib.Core.Path.{◌≡◌, refl, sym, ap, subst, ◌∙◌}
use mathlib.Core.List.{List, [], ◌∷◌, ◌++◌}
use Prim.Native.Nat.{ℕ, ◌+◌, ◌*◌}
use native.Mathlib.Nat.{zero-mul}
use native.Mathlib.Omega.{arith}
use lib.Seq.{set-get_or}
use Rattle.std.specs.Prelude.{Ok}
use Rattle.refusals.specs.Numbers.{number_of}
use Rattle.rules.specs.Facts.{sum_of, one_if}
use Rattle.rules.specs.Records.{is_active, is_waiting, is_work, is_return, blank_unit, blank_slot, State, Kind, Start, Move, Board, StepRecord, Outcome}
use Rattle.rules.specs.Events.{Events, after_all, DrainOf}
use Rattle.rules.specs.Actions.{is_action}
use Rattle.rules.specs.Sheets.Steps.{step as sheet_step}
use Rattle.rules.specs.Sheets.Sheet.{Sheet}
use Rattle.rules.specs.Sheets.Depths.{greatest_depth}
use Rattle.rules.specs.Sheets.Lists.{start_count, grant_count, taken_count}
use Rattle.rules.specs.Sheets.Finished.{told_from, Complete}
use Rattle.rules.specs.Sheets.Drains.{Quiet, waiting_units, returns_under_way, drain_bound}
use Rattle.rules.specs.Boards.{view, board_of}
use Rattle.rules.specs.Sound.{Sound}
use Rattle.rules.specs.Opening.{fresh, opening}
use Rattle.rules.specs.Steps.{step}
use Rattle.rules.specs.Lists.{steps, after, Event, events, taking}
use Rattle.rules.specs.Finished.{verdict}
use Rattle.rules.specs.Guarantee.{boards, History, GuaranteedOf, GuaranteeOf, CarriesOf, event_history, Guaranteed, Guarantee, Carries, FinishedAllBack, FinishedRefuses, under_parent, MovesChangeParent, MovesKeepVerdict, AcceptedChanges, BelowBound}
use Rattle.rules.proofs.SumLaws.{sum_none}
use Rattle.rules.proofs.EventLaws.{accepted_or_not, after_append, list_keeps}
use Rattle.rules.proofs.FreshSound.{opening_passed, opening_fresh, fresh_sound}
use Rattle.rules.proofs.Views.{accepted_sound, step_shown, refused_keeps}
use Rattle.rules.proofs.EventSound.{answer_shown, other_leaves, step_keeps_sound, event_keeps_sound}
use Rattle.rules.proofs.FinishedLaws.{verdict_sound, verdict_shown, finished_complete}
use Rattle.rules.proofs.Projection.{step_view, steps_of, shown_after, shown_tally, drain_shown, drains_shown}
use Rattle.rules.proofs.Sheets.Accepted.{AcceptedAs, accepted_as}
use Rattle.rules.proofs.Sheets.AcceptedChanges as changing
use Rattle.rules.proofs.Sheets.FinishedLaws.{finished_debt}
use Rattle.rules.proofs.Sheets.DrainLaws as draining
use Rattle.rules.proofs.Sheets.Theorem.{sheet_guarantee}

-- the board of an accepted opening is sound and has nothing out
pub opening_sound : (m d : ℕ) (ps : List ℕ) → number_of (opening m d ps).answer ≡ 0 → (Sound (opening m d ps).board) × ((opening m d ps).board.debt ≡ 0)
unfolding fresh
opening_sound m d ps e =
    let c = opening_passed m d ps e in
    subst (λ (o : Outcome). (Sound o.board) × (o.board.debt ≡ 0)) (sym (opening_fresh m d ps c)) (fresh_sound m d ps c, refl)

pub guarantee : Guarantee
unfolding GuaranteeOf
guarantee m d ps es e =
    let f : Board = (opening m d ps).board in
    let start = opening_sound m d ps e in
    let h : Sound (after_all events f es) = list_keeps events Sound event_keeps_sound f es start.0 in
    let shown = shown_after f es start.0 in
    let g = sheet_guarantee (view f) start.0.sheet start.1 (steps_of es) in
    record {
      is_sound = h;
      conserved = h.sheet.s5_s6_debt.0;
      accounted = omega (
        arith,
        g.accounted,
        ap (λ (c : Sheet). c.debt) shown,
        shown_tally taken_count f es start.0,
        shown_tally start_count f es start.0,
        shown_tally grant_count f es start.0,
      );
      finished = finished_complete (after_all events f es) h;
      drains_end = λ q. drains_shown (after_all events f es) h (draining.quiet_drains (view (after_all events f es)) h.sheet q);
    }

-- ---- the guarantee as calls carry it
pub events_carry : {E : Type 0} (ev : Events Board E) (h : History Board E) → GuaranteeOf ev h → (b : Board) (es : List E) → CarriesOf ev h b es (after_all ev b es)
unfolding GuaranteeOf
events_carry ev h g b es m d ps qs e q =
    let f : Board = (opening m d ps).board in
    subst (λ (c : Board). GuaranteedOf boards ev h f (qs ++ es) c) (after_append ev f qs es ∙ ap (λ (x : Board). after_all ev x es) (sym q)) (g m d ps (qs ++ es) e)

pub carries : (b : Board) (es : List Event) → Carries b es (after_all events b es)
carries = events_carry events event_history guarantee

-- steps alone are events
taking_after : (b : Board) (rs : List StepRecord) → after_all events b (taking rs) ≡ after b rs
unfolding after_all taking
taking_after b [] = refl
taking_after b (r ∷ rs) = taking_after (step b r).board rs

pub steps_guaranteed : (m d : ℕ) (ps : List ℕ) (rs : List StepRecord) → number_of (opening m d ps).answer ≡ 0 → Guaranteed (opening m d ps).board (taking rs) (after (opening m d ps).board rs)
unfolding GuaranteeOf
steps_guaranteed m d ps rs e = subst (λ (c : Board). Guaranteed (opening m d ps).board (taking rs) c) (taking_after (opening m d ps).board rs) (guarantee m d ps (taking rs) e)

pub steps_carry : (b : Board) (rs : List StepRecord) → Carries b (taking rs) (after b rs)
steps_carry b rs = subst (λ (c : Board). Carries b (taking rs) c) (taking_after b rs) (carries b (taking rs))

-- ---- a finished board owes nothing, so what came in was taken back
pub finished_all_back : FinishedAllBack
unfolding GuaranteeOf FinishedAllBack
finished_all_back m d ps es e f =
    let g = guarantee m d ps es e in
    let b : Board = after_all events (opening m d ps).board es in
    omega (arith, g.accounted, finished_debt (view b) g.is_sound.sheet (sym (verdict_shown b g.is_sound) ∙ f))

-- ---- a finished board is quiet and its bound on drains is 0, so no step but a start or a move is accepted
complete_bound : (b : Sheet) → Complete b → drain_bound b ≡ 0
unfolding drain_bound waiting_units returns_under_way
complete_bound b c =
    let none : sum_of (λ i u. one_if (is_waiting u.state)) b.units + sum_of (λ j y. one_if (is_return y.kind)) b.slots ≡ 0 = omega (
      arith,
      sum_none (λ i u. one_if (is_waiting u.state)) b.units blank_unit (λ i l. ap (λ (k : State). one_if (is_waiting k)) (c.idle i)),
      sum_none (λ j y. one_if (is_return y.kind)) b.slots blank_slot (λ j l. ap (λ (k : Kind). one_if (is_return k)) (c.empty j)),
    ) in
    ap (λ (k : ℕ). k * ((b.delay + 2) * greatest_depth b + 1)) none ∙ zero-mul _

pub finished_refuses : FinishedRefuses
unfolding GuaranteeOf FinishedRefuses DrainOf
finished_refuses m d ps es r e f n z =
    let b : Board = after_all events (opening m d ps).board es in
    let g = guarantee m d ps es e in
    let c : Complete (view b) = g.finished.0 f in
    let quiet : Quiet (view b) = record { none_active = λ i. ap is_active (c.idle i); no_work = λ j. ap is_work (c.empty j) } in
    omega (arith, (g.drains_end quiet).bounded (r ∷ []) ((z, n), tt), complete_bound (view b) c)

-- ---- what holds of a sheet's steps and drains holds of a board's
pub moves_change_parent : MovesChangeParent
unfolding MovesChangeParent
moves_change_parent b r m z =
    let h : Sound b = accepted_sound b r z in
    let told : AcceptedAs (view b) r Move = accepted_as (view b) r h.sheet Move m (sym (answer_shown b r h) ∙ z) in
    ap (λ (o : Outcome). o.board) (step_shown b r h)
    ∙ (λ i. board_of (changing.move_does (view b) r told i) (other_leaves r (sheet_step (view b) r).answer b.rounds (ap (is_action Start) m) i))

pub moves_keep_verdict : MovesKeepVerdict
unfolding MovesKeepVerdict MovesChangeParent
moves_keep_verdict b r m =
    accepted_or_not steps b r
    (λ z.
    let h : Sound b = accepted_sound b r z in
    verdict_sound (step b r).board (step_keeps_sound b r h) ∙ ap (λ (c : Board). Ok (told_from c.debt)) (moves_change_parent b r m z) ∙ sym (verdict_sound b h))
    (λ n. ap verdict (refused_keeps b r n))

pub accepted_changes : AcceptedChanges
unfolding AcceptedChanges MovesChangeParent
accepted_changes b r z =
    let h : Sound b = accepted_sound b r z in (
      λ e.
          let m = changing.accepted_changes (view b) r (sym (answer_shown b r h) ∙ z) (sym (step_view b r h) ∙ ap view e) in
          record { moves = m.0; same_parent = m.1 },
      λ m. moves_change_parent b r m.moves z ∙ ap (under_parent b r.unit) m.same_parent ∙ rw (set-get_or b.parents r.unit 0),
    )

pub below_bound : BelowBound
unfolding BelowBound
below_bound b h q rs z = draining.below_bound (view b) h.sheet q rs ((drain_shown b rs h).0 z)
