-- What is claimed of the census: it is refused by its sizes first, then by the opening's own; its counts add up; its rows of no steps,
-- and of one step with one unit and one slot.
use mathlib.Core.Path.{◌≡◌, refl, sym, ap, ◌∙◌}
use mathlib.Core.Bool.{Bool, true, false, cond}
use mathlib.Core.List.{List, [], ◌∷◌}
use Prim.Native.Nat.{ℕ, suc, ◌^◌, ◌≤◌, ◌+◌, ◌*◌}
use native.Mathlib.Omega.{arith}
use lib.ListN.{length, drop}
use lib.Dec.{leb, eqb}
use borrow.Author.Tests.{ne_eqb, eqb-false}
use Rattle.std.specs.Prelude.{Result, Ok, Err}
use Rattle.refusals.specs.declared.Refusal.{Refusal}
use Rattle.refusals.specs.declared.Refusal.TheVariants.{CensusSize}
use Rattle.refusals.specs.Numbers.{number_of}
use Rattle.rules.specs.Facts.{Check, judge, Fact, fails, Claims, Each, each, one_if, sum_of}
use Rattle.rules.specs.Opening.{opening_checks, fresh, refused_by, opening}
use Rattle.rules.specs.Records.{is_active, blank_unit, grant}
use Rattle.rules.specs.declared.Outcome.{Outcome}
use Rattle.rules.specs.declared.Board.{Board}
use Rattle.rules.specs.declared.StepRecord.{StepRecord}
use Rattle.rules.proofs.FactLaws.{each_claims}
use Rattle.rules.proofs.JudgeLaws.{checks_answer, answered, judge_by_answer, judge_map, judge_append, answer_claims}
use Rattle.rules.proofs.FreshSound.{opening_passed, opening_fresh}
use Rattle.rules.proofs.Theorem.{opening_sound}
use Rattle.census.specs.Choices.{choices, for_each, steps_in}
use Rattle.census.specs.Counting.{ends_from, size_checks, census, ending_count}
use Rattle.census.specs.Claims.{ChoicesNumber, CountsAddUp, BeyondFirst, NoSteps, OneStep}
use Rattle.census.proofs.ChoiceLaws.{choices_number}
use Rattle.census.proofs.SortLaws.{ends_add_up, sort_finished, sort_unfinished}
use Rattle.census.proofs.counting.TurnLaws.{Ready}
use Rattle.rules.specs.Effects.{record_rule}
use Rattle.rules.specs.Boards.{view}
use Rattle.rules.specs.Sheets.Sheet.{unit_at}
use Rattle.rules.specs.Sound.{Sound}
use Rattle.rules.specs.Steps.{sound_step, step}
use Rattle.rules.specs.Sheets.Steps.{effect, applied, sound_step as sheet_sound_step}
use Rattle.rules.proofs.SumLaws.{sum_part}
use Rattle.rules.proofs.Views.{step_sound, refused_keeps}
use Rattle.rules.proofs.EventSound.{step_keeps_sound}
use Rattle.rules.specs.Busy.{how_many, is_busy}
use Rattle.census.specs.Sorts.{is_finished, is_other}
use Rattle.census.specs.declared.Ends.{Ends}
use Rattle.census.proofs.EndingLaws.{ending_next}

-- an accepted opening gives the fresh board
pub opened_fresh : (m d : ℕ) (ps : List ℕ) → number_of (opening m d ps).answer ≡ 0 → opening m d ps ≡ record { answer = Ok tt; board = fresh m d ps }
opened_fresh m d ps e = opening_fresh m d ps (opening_passed m d ps e)

-- a judgement by what its checks answer
by_checks : {A : Type 0} (cs : List Check) (result : Result A Refusal) (q : Result (Unit {0}) Refusal) → checks_answer cs ≡ q → judge Err cs result ≡ answered Err result q
by_checks cs result q e = judge_by_answer Err cs result ∙ ap (answered Err result) e

module _ (m d : ℕ) (ps : List ℕ) (k : ℕ) where
  -- what the checks of the sizes answer
  abbrev by_sizes : Result (Unit {0}) Refusal
  by_sizes = checks_answer (size_checks m d ps k)

  -- what the opening's own checks leave of a census
  abbrev opened : Result Ends Refusal
  opened = judge Err (opening_checks m d ps) (Ok (ends_from (fresh m d ps) k))

  sizes_first : census m d ps k ≡ judge Err (size_checks m d ps k) opened
  unfolding census
  sizes_first = judge_append Err (size_checks m d ps k) (opening_checks m d ps) (Ok (ends_from (fresh m d ps) k))

  -- the opening's answer is that of its checks
  opening_answer : (opening m d ps).answer ≡ checks_answer (opening_checks m d ps)
  unfolding opening
  opening_answer = judge_map (λ (o : Outcome). o.answer) refused_by (opening_checks m d ps) (record { answer = Ok tt; board = fresh m d ps })

  pub census_beyond : (j : Refusal) → by_sizes ≡ Err j → census m d ps k ≡ Err j
  census_beyond j e = sizes_first ∙ by_checks (size_checks m d ps k) opened (Err j) e

  pub census_unopened : by_sizes ≡ Ok tt → (j : Refusal) → (opening m d ps).answer ≡ Err j → census m d ps k ≡ Err j
  census_unopened e j q =
      sizes_first ∙ by_checks (size_checks m d ps k) opened (Ok tt) e ∙ by_checks (opening_checks m d ps) (Ok (ends_from (fresh m d ps) k)) (Err j) (sym opening_answer ∙ q)

  pub census_counted : by_sizes ≡ Ok tt → (opening m d ps).answer ≡ Ok tt → census m d ps k ≡ Ok (ends_from (opening m d ps).board k)
  census_counted e q =
      sizes_first
      ∙ by_checks (size_checks m d ps k) opened (Ok tt) e
      ∙ by_checks (opening_checks m d ps) (Ok (ends_from (fresh m d ps) k)) (Ok tt) (sym opening_answer ∙ q)
      ∙ ap (λ (o : Outcome). Ok (ends_from o.board k)) (sym (opened_fresh m d ps (ap number_of q)))

  -- the fresh board of such sizes is one to count from
  pub opened_ready : by_sizes ≡ Ok tt → (opening m d ps).answer ≡ Ok tt → Ready (opening m d ps).board × (k ≤ 4)
  unfolding fresh
  opened_ready e q =
      let c = answer_claims (size_checks m d ps k) e in
      let z = ap number_of q in
      let o = opened_fresh m d ps z in
      (((opening_sound m d ps z).0, omega (arith, c.0, ap (λ (o : Outcome). o.board.n) o), omega (arith, c.1.1.0, ap (λ (o : Outcome). o.board.m) o)), c.1.1.1.1.0)

-- each check of the sizes refuses alike
one_refusal :
    (o p q r s : Bool) → let a : Result (Unit {0}) Refusal = cond o (cond p (cond q (cond r (cond s (Ok tt) (Err CensusSize)) (Err CensusSize)) (Err CensusSize)) (Err CensusSize)) (Err CensusSize) in (a ≡ Ok tt → ⊥)
    → a ≡ Err CensusSize
one_refusal true true true true true n = absurd (n refl)
one_refusal true true true true false n = refl
one_refusal true true true false s n = refl
one_refusal true true false r s n = refl
one_refusal true false q r s n = refl
one_refusal false p q r s n = refl

pub beyond_first : BeyondFirst
unfolding BeyondFirst
beyond_first m d ps k out =
    census_beyond m d ps k CensusSize
    (one_refusal (leb (length ps) 2) (leb 1 m) (leb m 2) (leb d 1) (leb k 4) (λ e. let c = answer_claims (size_checks m d ps k) e in out (c.0, c.1.0, c.1.1.0, c.1.1.1.0, c.1.1.1.1.0)))

pub counts_add_up : CountsAddUp
unfolding CountsAddUp ChoicesNumber fresh
counts_add_up m d ps k e =
    ends_add_up (opening m d ps).board k (opening_sound m d ps e).0
    ∙ ap (λ (o : Outcome). length (choices o.board.n o.board.m) ^ k) (opened_fresh m d ps e)
    ∙ ap (λ (c : ℕ). c ^ k) (choices_number (suc (length ps)) m)

-- ---- two numbers of choices
pub choices_one : length (choices 1 1) ≡ 7
unfolding ChoicesNumber
choices_one = choices_number 1 1

pub choices_three : length (choices 3 2) ≡ 41
unfolding ChoicesNumber
choices_three = choices_number 3 2

-- ---- no steps
pub no_steps : NoSteps
unfolding NoSteps
no_steps m d ps e = let o = opening_sound m d ps e in sort_finished (opening m d ps).board o.0 o.1

-- ---- one step
-- steps that leave the board count like the board itself
left_counts :
    (count : Board → ℕ) (b : Board) (row : ℕ → StepRecord → List Fact) (rs : List StepRecord) → ((i : ℕ) (r : StepRecord) → Claims (row i r) → (step b r).board ≡ b) → Each row rs
    → sum_of (λ i r. count (step b r).board) rs ≡ length rs * count b
unfolding sum_of Each
left_counts count b row [] leave h = omega arith
left_counts count b row (r ∷ rs) leave h = omega (arith, ap count (leave 0 r h.0), left_counts count b (λ i. row (suc i)) rs (λ i. leave (suc i)) h.1)

-- of one unit and one slot the first choice is start 0
abbrev start_zero : StepRecord
start_zero = record { kind = 1; unit = 0; other = 0; slot = 0 }

-- a step that the fresh board refuses
abbrev refused_row : ℕ → ℕ → StepRecord → List Fact
refused_row d i r = fails (eqb (number_of (sound_step (fresh 1 d []) r).answer) 0) ∷ []

-- the six others are refused, as computing them shows
others_refused : (d : ℕ) → Each (refused_row d) (drop 1 (choices 1 1))
unfolding choices for_each steps_in each fresh sound_step sheet_sound_step effect applied record_rule
others_refused d = each_claims (refused_row d) (drop 1 (choices 1 1)) refl

-- a board whose unit 0 is active is busy: the sum of the active units has a part of 1
active_busy : (b : Board) → is_active (unit_at (view b) 0).state ≡ true → is_busy b ≡ true
unfolding is_busy how_many
active_busy b a =
    let part = sum_part (λ i u. one_if (is_active u.state)) b.units 0 blank_unit (λ k. refl) in
    rw (ne_eqb (sum_of (λ i u. one_if (is_active u.state)) b.units) 0 (λ z. omega (arith, part, ap one_if a)))

abbrev one_and_six : Ends → Ends → Ends
one_and_six s t = record { finished = s.finished + 6 * t.finished; busy = s.busy + 6 * t.busy; other = s.other + 6 * t.other }

module _ (d : ℕ) (e : number_of (opening 1 d []).answer ≡ 0) where
  abbrev b : Board
  b = (opening 1 d []).board

  abbrev started : Board
  started = (step b start_zero).board

  b_sound : Sound b
  b_sound = (opening_sound 1 d [] e).0

  -- a step on it without the test of soundness, which computes
  computed : (r : StepRecord) → step b r ≡ sound_step (fresh 1 d []) r
  computed r = step_sound b r b_sound ∙ ap (λ (o : Outcome). sound_step o.board r) (opened_fresh 1 d [] e)

  one_ending : (is : Board → Bool) → ending_count is b 1 ≡ ending_count is started 0 + 6 * ending_count is b 0
  unfolding choices for_each steps_in sum_of fresh
  one_ending is =
      ending_next is b 0
      ∙ ap (λ (o : Outcome). sum_of (λ i r. ending_count is (step b r).board 0) (choices o.board.n o.board.m)) (opened_fresh 1 d [] e)
      ∙ omega (
        arith,
        left_counts (λ c. ending_count is c 0) b (refused_row d) (drop 1 (choices 1 1))
            (λ i r h. refused_keeps b r (λ z. eqb-false _ 0 h.0 (ap (λ (o : Outcome). number_of o.answer) (sym (computed r)) ∙ z))) (others_refused d),
      )

  -- start 0 brings in 2^24, and unit 0 becomes active
  start_gives : started ≡ (sound_step (fresh 1 d []) start_zero).board
  start_gives = ap (λ (o : Outcome). o.board) (computed start_zero)

  started_debt : started.debt ≡ grant
  unfolding fresh sound_step sheet_sound_step effect applied record_rule
  started_debt = ap (λ (c : Board). c.debt) start_gives

  started_active : is_active (unit_at (view started) 0).state ≡ true
  unfolding fresh sound_step sheet_sound_step effect applied record_rule
  started_active = ap (λ (c : Board). is_active (unit_at (view c) 0).state) start_gives

  started_sort : ends_from started 0 ≡ record { finished = 0; busy = 1; other = 0 }
  started_sort = sort_unfinished started (step_keeps_sound b start_zero b_sound) (λ z. omega (arith, z, started_debt)) true (active_busy started started_active)

pub one_step : OneStep
unfolding OneStep NoSteps
one_step d e =
    (λ i. record { finished = one_ending d e is_finished i; busy = one_ending d e is_busy i; other = one_ending d e is_other i }) ∙ (λ i. one_and_six (started_sort d e i) (no_steps 1 d [] e i))
