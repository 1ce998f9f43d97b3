-- The worked cases hold, and a sound board can be stuck. On a sound board the test of soundness is true, so a row's steps are computed without it.
use mathlib.Core.Path.{◌≡◌, refl, sym, ap, subst, ◌∙◌}
use mathlib.Core.Bool.{Bool, true, false, not, cond, ◌&&◌}
use mathlib.Core.List.{List, [], ◌∷◌}
use Prim.Native.Nat.{ℕ, ◌<◌}
use native.Mathlib.Omega.{arith}
use lib.ListN.{length}
use lib.Dec.{eqb}
use Rattle.std.specs.Prelude.{Ok}
use Rattle.refusals.specs.Numbers.{number, number_of}
use Rattle.rules.specs.Facts.{Fact, equal, holds, fails, Claim, Claims, tests, Each, each, sum_of, same_list, judge}
use Rattle.rules.specs.Records.{is_waiting, ceiling, Action, Unknown, Start, Send, RequestStep, Deliver, Rest, Tick, Release, Move, Board, StepRecord, Outcome, Verdict, Working, Finished}
use Rattle.rules.specs.Sheets.Sheet.{unit_at, slot_at}
use Rattle.rules.specs.Sheets.Sound.{pending, units_weight, slots_weight, total, work_under_way, sound as sheet_sound}
use Rattle.rules.specs.Boards.{view}
use Rattle.rules.specs.Sound.{Sound, sound}
use Rattle.rules.specs.Sheets.Depths.{depth_within, depth, deepest}
use Rattle.rules.specs.Opening.{lower_parents, fresh, blank_board, opening}
use Rattle.rules.specs.Actions.{action_of}
use Rattle.rules.specs.Effects.{share, deliver_checks, record_checks, record_rule}
use Rattle.rules.specs.Sheets.Steps.{effect, applied, sound_step as sheet_sound_step}
use Rattle.rules.specs.Steps.{sound_step, step}
use Rattle.rules.specs.Events.{Events, after_all, all_answers, DrainOf}
use Rattle.rules.specs.Lists.{steps, after, answers}
use Rattle.rules.specs.Sheets.Lists.{undrained_by}
use Rattle.rules.specs.Sheets.Finished.{told_from}
use Rattle.rules.specs.Sheets.Drains.{waiting_units, returns_under_way, drain_bound as sheet_drain_bound}
use Rattle.rules.specs.Sheets.Longest.{units_length, slots_length, longest_length, journey_within, journey, join_of, longest_list}
use Rattle.rules.specs.Drains.{Drain, drain_bound}
use Rattle.rules.specs.Busy.{how_many, is_busy}
use Rattle.rules.specs.Cases.{Row, shares, judges, opens, runs, bound_is, longest, Drained, LongestShown, Right, AllRight, rows, stuck_board, Stuck, deliver}
use Rattle.rules.proofs.FactLaws.{and_left, and_right, true_not_false, claims, same_is, each_claims, fact_by}
use Rattle.rules.proofs.SoundLaws.{sound_claims}
use Rattle.rules.proofs.BusyLaws.{quiet_told}
use Rattle.rules.proofs.Views.{step_sound}
use Rattle.rules.proofs.Sheets.Accepted.{AcceptedAs, shown, accepted_as}
use Rattle.rules.proofs.EventLaws.{same_after, same_answers}
use Rattle.rules.proofs.EventSound.{answer_shown, step_keeps_sound}
use Rattle.rules.proofs.Projection.{list_keeps_sound}
use Rattle.rules.proofs.FinishedLaws.{verdict_sound}
use Rattle.rules.proofs.Theorem.{opening_sound}

-- ---- the same list without the tests of soundness
abbrev pub quick_steps : Events Board StepRecord
quick_steps = record { next = λ b r. (sound_step b r).board; answer = λ b r. number_of (sound_step b r).answer }

abbrev pub quick_after : Board → List StepRecord → Board
quick_after b rs = after_all quick_steps b rs

abbrev pub quick_answers : Board → List StepRecord → List ℕ
quick_answers b rs = all_answers quick_steps b rs

pub quick_after_lem : (b : Board) (rs : List StepRecord) → Sound b → after b rs ≡ quick_after b rs
quick_after_lem = same_after steps quick_steps Sound step_keeps_sound (λ b r h. ap (λ (o : Outcome). o.board) (step_sound b r h))

pub quick_answers_lem : (b : Board) (rs : List StepRecord) → Sound b → answers b rs ≡ quick_answers b rs
quick_answers_lem = same_answers steps quick_steps Sound step_keeps_sound (λ b r h. ap (λ (o : Outcome). o.board) (step_sound b r h)) (λ b r h. ap (λ (o : Outcome). number_of o.answer) (step_sound b r h))

-- ---- a test of a drain and its bound that computes, and what it shows
abbrev zero_row : ℕ → ℕ → List Fact
zero_row i k = equal k 0 ∷ []

abbrev drained_row : ℕ → StepRecord → List Fact
drained_row i r = equal (undrained_by (action_of r.kind)) 0 ∷ []

-- a list whose answers are all 0 and that has neither start nor move is a drain
drain_of_lem : (b : Board) (rs : List StepRecord) → Each zero_row (answers b rs) → Each drained_row rs → Drain b rs
unfolding Each DrainOf all_answers
drain_of_lem b [] a n = tt
drain_of_lem b (r ∷ rs) a n = ((a.0.0, n.0.0), drain_of_lem (step b r).board rs a.1 n.1)

drain_row : Board → List StepRecord → ℕ → List Fact
drain_row b rs k = fails (is_busy b) ∷ holds (each zero_row (quick_answers b rs)) ∷ holds (each drained_row rs) ∷ equal (drain_bound b) k ∷ []

drain_right : (b : Board) (rs : List StepRecord) (k : ℕ) → Sound b → Claims (drain_row b rs k) → Drained b rs k
unfolding drain_row
drain_right b rs k h c = record {
  quiet = quiet_told b c.0;
  drain = drain_of_lem b rs (subst (λ (ks : List ℕ). Each zero_row ks) (sym (quick_answers_lem b rs h)) (each_claims zero_row _ c.1.0)) (each_claims drained_row rs c.1.1.0);
  bounds = c.1.1.1.0;
}

-- ---- a test of two lists of steps, and what it shows
step_row : StepRecord → StepRecord → List Fact
step_row r q = equal r.kind q.kind ∷ equal r.unit q.unit ∷ equal r.other q.other ∷ equal r.slot q.slot ∷ []

same_record : (r q : StepRecord) → Claims (step_row r q) → r ≡ q
unfolding step_row
same_record r q c = rw (c.0, c.1.0, c.1.1.0, c.1.1.1.0)

same_steps : List StepRecord → List StepRecord → Bool
same_steps [] [] = true
same_steps [] (q ∷ qs) = false
same_steps (r ∷ rs) [] = false
same_steps (r ∷ rs) (q ∷ qs) = tests (step_row r q) && same_steps rs qs

steps_are : (rs qs : List StepRecord) → same_steps rs qs ≡ true → rs ≡ qs
unfolding same_steps
steps_are [] [] e = refl
steps_are [] (q ∷ qs) e = absurd (true_not_false (sym e))
steps_are (r ∷ rs) [] e = absurd (true_not_false (sym e))
steps_are (r ∷ rs) (q ∷ qs) e =
    let t : tests (step_row r q) ≡ true = and_left (tests (step_row r q)) (same_steps rs qs) e in
    rw (same_record r q (claims (step_row r q) t), steps_are rs qs (and_right (tests (step_row r q)) (same_steps rs qs) e))

-- ---- a test of a row that computes, and what it shows
tells_by : Bool → Verdict → Bool
tells_by t Working = not t
tells_by t Finished = t

tells_by_lem : (t : Bool) (v : Verdict) → tells_by t v ≡ true → cond t Finished Working ≡ v
unfolding tells_by
tells_by_lem true = elim [ Working ↦ λ e. absurd (true_not_false (sym e)) | Finished ↦ λ e. refl ]
tells_by_lem false = elim [ Working ↦ λ e. refl | Finished ↦ λ e. absurd (true_not_false (sym e)) ]

row_row : Row → List Fact
row_row (shares w given) = equal (share w) given ∷ []
row_row (judges debt x y made a k) = equal (judge number (record_checks debt x y made a) 0) k ∷ []
row_row (opens m d ps k) = equal (number_of (opening m d ps).answer) k ∷ []
row_row (runs m d ps rs ks v) =
    equal (number_of (opening m d ps).answer) 0
    ∷ holds (same_list (quick_answers (opening m d ps).board rs) ks)
    ∷ holds (tells_by (eqb (quick_after (opening m d ps).board rs).debt 0) v)
    ∷ []
row_row (bound_is m d ps rs ds k) = equal (number_of (opening m d ps).answer) 0 ∷ drain_row (quick_after (opening m d ps).board rs) ds k
row_row (longest m d ps rs s ds) =
    let b : Board = quick_after (opening m d ps).board rs in
    equal (number_of (opening m d ps).answer) 0 ∷ holds (same_steps (longest_list (view b) s) ds) ∷ equal (longest_length (view b)) (length ds) ∷ []

row_right : (row : Row) → Claims (row_row row) → Right row
unfolding row_row
row_right (shares w given) c = c.0
row_right (judges debt x y made a k) c = c.0
row_right (opens m d ps k) c = c.0
row_right (runs m d ps rs ks v) c =
    let f : Board = (opening m d ps).board in
    let h : Sound f = (opening_sound m d ps c.0).0 in (
      c.0,
      quick_answers_lem f rs h ∙ same_is _ ks c.1.0,
      verdict_sound (after f rs) (list_keeps_sound f rs h) ∙ ap (λ (b : Board). Ok (told_from b.debt)) (quick_after_lem f rs h) ∙ ap (λ (t : Verdict). Ok t) (tells_by_lem _ v c.1.1.0),
    )
row_right (bound_is m d ps rs ds k) c =
    let f : Board = (opening m d ps).board in
    let h : Sound f = (opening_sound m d ps c.0).0 in
    let quick = quick_after_lem f rs h in
    (c.0, subst (λ (b : Board). Drained b ds k) (sym quick) (drain_right (quick_after f rs) ds k (subst Sound quick (list_keeps_sound f rs h)) c.1))
row_right (longest m d ps rs s ds) c =
    let f : Board = (opening m d ps).board in
    let quick = quick_after_lem f rs (opening_sound m d ps c.0).0 in
    (c.0, subst (λ (b : Board). LongestShown b s ds) (sym quick) (record { listed = steps_are _ ds c.1.0; long = c.1.1.0 }))

rows_right : (rs : List Row) → Each (λ i row. row_row row) rs → AllRight rs
unfolding Each
rows_right [] c = tt
rows_right (row ∷ rs) c = (row_right row c.0, rows_right rs c.1)

-- one computed test over the whole table
pub cases : AllRight rows
unfolding rows row_row drain_row is_busy how_many same_list tells_by each sum_of lower_parents opening fresh blank_board record_rule effect applied sheet_sound_step sound_step after_all all_answers sheet_drain_bound waiting_units returns_under_way deepest depth depth_within step_row same_steps units_length slots_length join_of journey journey_within longest_list
cases = rows_right rows (each_claims (λ i row. row_row row) rows refl)

-- ---- the stuck board
stuck_sound : Sound stuck_board
unfolding stuck_board sound sheet_sound each sum_of pending units_weight slots_weight total work_under_way
stuck_sound = sound_claims stuck_board refl

-- its one unit is active and suspended, its one slot a request, and the debt is at the ceiling
at_zero : {i : ℕ} → i < 1 → i ≡ 0
at_zero l = omega (arith, l)

not_suspended : (u : ℕ) → u < 1 → (unit_at (view stuck_board) u).suspended ≡ false → ⊥
unfolding stuck_board
not_suspended u l e = true_not_false (subst (λ (i : ℕ). (unit_at (view stuck_board) i).suspended ≡ false) (at_zero l) e)

none_waits : (u : ℕ) → u < 1 → is_waiting (unit_at (view stuck_board) u).state ≡ true → ⊥
unfolding stuck_board
none_waits u l e = true_not_false (sym (subst (λ (i : ℕ). is_waiting (unit_at (view stuck_board) i).state ≡ true) (at_zero l) e))

stuck_refuses : (r : StepRecord) (a : Action) → AcceptedAs (view stuck_board) r a → ⊥
unfolding stuck_board
stuck_refuses r Unknown c = true_not_false (sym (shown 16 c))
stuck_refuses r Start c = omega (arith, shown 37 c)
stuck_refuses r Send c = not_suspended r.unit (shown 13 c) (shown 32 c)
stuck_refuses r RequestStep c = not_suspended r.unit (shown 13 c) (shown 32 c)
stuck_refuses r Deliver c = omega (arith, subst (λ (i : ℕ). Claim (fact_by 36 (deliver_checks ceiling (slot_at (view stuck_board) i)))) (at_zero (shown 14 c)) (shown 36 c))
stuck_refuses r Rest c = not_suspended r.unit (shown 13 c) (shown 32 c)
stuck_refuses r Tick c = none_waits r.unit (shown 13 c) (shown 38 c)
stuck_refuses r Release c = none_waits r.unit (shown 13 c) (shown 38 c)
stuck_refuses r Move c = omega (arith, shown 13 c, shown 47 c)

pub stuck : Stuck stuck_board
unfolding stuck_board record_rule effect applied sheet_sound_step sound_step
stuck = record {
  is_sound = stuck_sound;
  not_finished = verdict_sound stuck_board stuck_sound;
  refused = λ r e. stuck_refuses r (action_of r.kind) (accepted_as (view stuck_board) r stuck_sound.sheet (action_of r.kind) refl (sym (answer_shown stuck_board r stuck_sound) ∙ e));
  grant_refused = ap (λ (o : Outcome). number_of o.answer) (step_sound stuck_board (deliver 0) stuck_sound);
}
