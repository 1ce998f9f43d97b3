-- What the verdict of the counting rounds says holds: a board is a state, and its events are events, of the laws on rounds.
use mathlib.Core.Path.{◌≡◌, refl, sym, ap, subst, ◌∙◌}
use mathlib.Core.Bool.{Bool, false, cond}
use mathlib.Core.List.{List, [], ◌∷◌, ◌++◌}
use Prim.Native.Nat.{ℕ, ◌+◌, ◌≤◌}
use native.Mathlib.Omega.{arith}
use lib.ListN.{length, get_or}
use lib.Dec.{eqb}
use lib.Seq.{append_snoc}
use Rattle.refusals.proofs.NumberLaws.{refused_above_zero}
use Rattle.refusals.specs.declared.Refusal.{Refusal}
use Rattle.std.specs.Prelude.{Result, Ok}
use Rattle.refusals.specs.Numbers.{number_of}
use Rattle.rules.specs.Facts.{one_if, Claims}
use Rattle.rules.specs.Records.{is_active, is_work, blank_slot, Start, Rounds, Board, StepRecord, Finding, AllQuiet, Unsettled, Outcome, Visited}
use Rattle.rules.specs.Actions.{action_of, is_action}
use Rattle.rules.specs.Events.{after_all}
use Rattle.rules.specs.Rounds.{unmarked, whole_sum, begun, visit_checks, tallied, found_of, found}
use Rattle.rules.specs.Sheets.Sheet.{unit_at, slot_at}
use Rattle.rules.specs.Sheets.Sound.{total, work_under_way}
use Rattle.rules.specs.Sheets.Steps.{step as sheet_step}
use Rattle.rules.specs.Sheets.Lists.{start_count}
use Rattle.rules.specs.Sheets.Drains.{Quiet as QuietSheet}
use Rattle.rules.specs.Boards.{view, seen_of}
use Rattle.rules.specs.Sound.{Sound}
use Rattle.rules.specs.Opening.{opening}
use Rattle.rules.specs.Steps.{rounds_kept, step}
use Rattle.rules.specs.Visits.{visit}
use Rattle.rules.specs.Lists.{steps, Event, takes, begins, visits, next_by, events, count_by}
use Rattle.rules.specs.Drains.{Quiet}
use Rattle.rules.specs.Verdicts.{QuietTells, LastVisit, StillTells}
use Rattle.rules.proofs.FactLaws.{by_test, true_or_not, asked}
use Rattle.rules.proofs.SumLaws.{sum_none, sum_part, sum_listed}
use Rattle.rules.proofs.EventLaws.{accepted_or_not, after_append, list_keeps}
use Rattle.rules.proofs.RoundTotals.{Look, Still, Fair}
use Rattle.rules.proofs.RoundLaws as rounding
use Rattle.rules.proofs.Views.{step_shown, refused_keeps, begin_sound, VisitTells, visited, unvisited, visit_tells}
use Rattle.rules.proofs.EventSound.{answer_shown, start_drops, other_leaves, event_keeps_sound}
use Rattle.rules.proofs.Projection.{step_view, visit_view}
use Rattle.rules.proofs.FreshSound.{opening_rounds}
use Rattle.rules.proofs.Theorem.{opening_sound}
use Rattle.rules.proofs.Sheets.SoundLaws.{unit_past_row, created_past, processed_past}
use Rattle.rules.proofs.Sheets.EntryLaws.{idle_is}
use Rattle.rules.proofs.Sheets.CountLaws.{Advances, step_advances}

-- ---- what the rounds see of a board
abbrev look : Board → Look
look b = record { seen = seen_of (view b); under_way = work_under_way b.slots; rounds = b.rounds }

abbrev starts_of : Board → Event → ℕ
starts_of = count_by start_count

abbrev Happened : Board → Event → Board → Type 0
Happened = rounding.Happened events look visits starts_of

-- a visit's checks on a board, and what it finds there
abbrev Asks : Board → ℕ → Type 0
Asks b u = Claims (asked (visit_checks (seen_of (view b)) b.rounds u))

abbrev finds : Board → ℕ → Finding
finds b u = found (seen_of (view b)) b.rounds u

-- ---- still is quiet
still_of : (b : Board) → Quiet b → Still (look b)
unfolding work_under_way
still_of b q = record { none_active = q.none_active; no_work = sum_none (λ j y. one_if (is_work y.kind)) b.slots blank_slot (λ j l. ap one_if (q.no_work j)) }

no_work_at : (b : Board) → work_under_way b.slots ≡ 0 → (j : ℕ) → is_work (slot_at (view b) j).kind ≡ false
unfolding work_under_way
no_work_at b e j =
    by_test (λ t. one_if t ≤ 0 → t ≡ false) (is_work (slot_at (view b) j).kind) (λ q l. absurd (omega (arith, l))) (λ q l. refl)
    (omega (arith, e, sum_part (λ i y. one_if (is_work y.kind)) b.slots j blank_slot (λ i. refl)))

quiet_of : (b : Board) → Still (look b) → Quiet b
quiet_of b s = record { none_active = s.none_active; no_work = no_work_at b s.no_work }

-- ---- a sound board is fair
-- the sum over all units is the list's total
whole_total : (ks : List ℕ) → length ks ≡ 64 → whole_sum (λ i. get_or ks i 0) unmarked ≡ total ks
unfolding whole_sum total
whole_total ks e = sum_listed unmarked ks (sym e)

fair : (b : Board) → Sound b → Fair (look b)
fair b h = record {
  long = h.rounds.long;
  few = omega (arith, h.sheet.s1_sizes);
  past_created = created_past (view b) h.sheet;
  past_processed = processed_past (view b) h.sheet;
  past_active = λ i l. ap is_active (idle_is (unit_at (view b) i).state (unit_past_row (view b) h.sheet i l).0);
  balance = omega (arith, whole_total b.created (omega (arith, h.sheet.s1_sizes)), whole_total b.processed (omega (arith, h.sheet.s1_sizes)), h.sheet.counts_balance);
}

-- ---- what an event on a sound board does
module _ (b : Board) (r : StepRecord) (h : Sound b) (z : number_of (step b r).answer ≡ 0) where
  sheet_zero : number_of (sheet_step (view b) r).answer ≡ 0
  sheet_zero = sym (answer_shown b r h) ∙ z

  taken : Happened b (takes r) (step b r).board
  taken =
      true_or_not (is_action Start (action_of r.kind))
      (λ e. rounding.started z (ap one_if e) (kept _ (start_drops r (sheet_step (view b) r).answer b.rounds sheet_zero e)))
      (λ e.
      let m : Advances (view b) (view (step b r).board) = subst (Advances (view b)) (sym (step_view b r h)) (step_advances (view b) r h.sheet sheet_zero (ap one_if e)) in
      rounding.stepped (record {
        same_units = m.same_units;
        same_rounds = kept _ (other_leaves r (sheet_step (view b) r).answer b.rounds e);
        created_grows = m.created_grows;
        processed_grows = m.processed_grows;
        woken = m.woken;
        by_active = m.by_active;
      }))
    where
      kept : (k : Rounds) → rounds_kept (sheet_step (view b) r).answer (action_of r.kind) b.rounds ≡ k → (step b r).board.rounds ≡ k
      kept k e = ap (λ (o : Outcome). o.board.rounds) (step_shown b r h) ∙ e

happens : (b : Board) (e : Event) → Sound b → Happened b e (next_by b e)
happens b (takes r) h = accepted_or_not steps b r (taken b r h) (λ n. rounding.refused (refused_keeps b r n))
happens b begins h = subst (λ (o : Outcome). Happened b begins o.board) (sym (begin_sound b h)) (rounding.began refl (record { same_seen = refl; same_work = refl }))
happens b (visits u) h = by_visit (visit_tells b u)
  where
    by_visit : VisitTells b u → Happened b (visits u) (visit b u).board
    by_visit (visited s c e) = subst (λ (o : Visited). Happened b (visits u) o.board) (sym e) (rounding.visited u refl c refl (record { same_seen = refl; same_work = refl }))
    by_visit (unvisited k e) = rounding.refused (ap (λ (o : Visited). o.board) e)

-- ---- an accepted visit, by what it found
accepted_visit : (b : Board) (u : ℕ) (x : Result Finding Refusal) → (visit b u).finding ≡ x → number_of x ≡ 0 → Asks b u × (Ok (finds b u) ≡ x)
accepted_visit b u x e z = by_visit (visit_tells b u)
  where
    by_visit : VisitTells b u → Asks b u × (Ok (finds b u) ≡ x)
    by_visit (visited s c q) = (c, sym (ap (λ (o : Visited). o.finding) q) ∙ e)
    by_visit (unvisited k q) = absurd (refused_above_zero k (ap (number_of {A = Finding}) (sym (ap (λ (o : Visited). o.finding) q) ∙ e) ∙ z))

-- ---- 1
pub quiet_tells : (b : Board) (u : ℕ) → QuietTells b u (visit b u).finding
quiet_tells b u m d ps es o e q =
    let f : Board = (opening m d ps).board in
    let start = opening_sound m d ps o in
    let a = accepted_visit b u (Ok AllQuiet) q refl in
    let c : Board = after_all events f es in
    let s = rounding.quiet_still events look visits starts_of Sound event_keeps_sound fair happens f es u start.0 (opening_rounds m d ps o)
    (subst (λ (c : Board). Asks c u) e a.0) (subst (λ (c : Board). finds c u ≡ AllQuiet) e (let found_quiet : ◌≡◌ {A = Result Finding Refusal} (Ok (finds b u)) (Ok AllQuiet) = a.1 in cc)) in
    record {
      before = s.before;
      last = s.last;
      since = s.since;
      whole = s.whole;
      round_one = s.round_one;
      round_two = s.round_two;
      quiet = λ k. quiet_of _ (s.still k);
      quiet_then = subst QuietSheet (sym (visit_view c u)) (quiet_of c (rounding.now_still events look visits starts_of s));
    }

-- ---- 2
-- the last visit of round two finds quiet, or unsettled
last_found : (b : Board) (u : ℕ) → LastVisit b u → (finds b u ≡ Unsettled → ⊥) → finds b u ≡ AllQuiet
unfolding found
last_found b u l n =
    let totals : Bool = eqb b.rounds.processed (b.rounds.created + (seen_of (view b)).created u) in
    let all : found_of b.n (tallied (seen_of (view b)) b.rounds u b.rounds.round) ≡ cond totals AllQuiet Unsettled = rw (l.round_two, l.all_visited) in
    all ∙ by_test (λ t. (cond t AllQuiet Unsettled ≡ Unsettled → ⊥) → cond t AllQuiet Unsettled ≡ AllQuiet) totals (λ q m. refl) (λ q m. absurd (m refl)) (λ q. n (all ∙ q))

-- the board that a beginning behind xs left
module _ (f : Board) (h : Sound f) (xs : List Event) where
  abbrev begun_board : Board
  begun_board = after_all events f (xs ++ begins ∷ [])

  begun_then : begun_board.rounds ≡ begun
  unfolding after_all
  begun_then = ap (λ (b : Board). b.rounds) (after_append events f xs (begins ∷ [])) ∙ ap (λ (o : Outcome). o.board.rounds) (begin_sound (after_all events f xs) (list_keeps events Sound event_keeps_sound f xs h))

pub still_tells : (b : Board) (u : ℕ) → StillTells b u (visit b u).finding
still_tells b u m d ps xs ys o e q n l =
    let f : Board = (opening m d ps).board in
    let h : Sound f = (opening_sound m d ps o).0 in
    let g : Board = begun_board f h xs in
    let a = accepted_visit b u (visit b u).finding refl l.accepted in
    let from-g : b ≡ after_all events g ys = e ∙ ap (after_all events f) (sym (append_snoc xs begins ys)) ∙ after_append events f (xs ++ begins ∷ []) ys in
    sym a.1
    ∙ ap (λ (x : Finding). Ok x) (last_found b u l (λ z.
    rounding.still_quiet events look visits starts_of Sound event_keeps_sound fair happens g ys u (list_keeps events Sound event_keeps_sound f (xs ++ begins ∷ []) h) (begun_then f h xs) (still_of g q) n
    (subst (λ (c : Board). Asks c u) from-g a.0) (subst (λ (c : Board). finds c u ≡ Unsettled) from-g z)))
