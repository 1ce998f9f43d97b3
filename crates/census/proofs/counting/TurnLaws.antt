-- The loop over the choices: what it has added up so far, that it never wraps, and what it gives in the end.
use mathlib.Core.Path.{◌≡◌, refl, sym, ap, subst, ◌∙◌}
use mathlib.Core.Bool.{Bool}
use mathlib.Core.List.{List}
use Prim.Native.Nat.{ℕ, suc, min, ◌+◌, ◌*◌, ◌≤◌, ◌<◌}
use native.Mathlib.Nat.{mul-le-mul, mul-le-mul_right, pow-le-pow_left, pow-le-pow_right}
use native.Mathlib.Omega.{arith}
use lib.ListN.{length, get_or, take, length-take}
use lib.Seq.{get_or-take, take-length}
use borrow.Author.Tests.{eq-eqb, ne_eqb}
use Rattle.refusals.specs.Numbers.{number_of}
use Rattle.rules.specs.Facts.{sum_of}
use Rattle.rules.specs.Runs.{batch_most, padded}
use Rattle.rules.specs.Sound.{Sound}
use Rattle.rules.specs.Steps.{step}
use Rattle.rules.specs.declared.Board.{Board}
use Rattle.rules.specs.declared.StepRecord.{StepRecord}
use Rattle.rules.proofs.SumLaws.{sum_taken, sum_front}
use Rattle.rules.proofs.EventSound.{step_keeps_sound}
use Rattle.census.specs.Choices.{choice_number}
use Rattle.rules.specs.Busy.{how_many, is_busy}
use Rattle.census.specs.Sorts.{is_finished, is_other}
use Rattle.census.specs.Counting.{ending_count, ends_from}
use Rattle.census.specs.Claims.{ChoicesNumber, CountsRecur}
use Rattle.steps.specs.AnswersOn.{answers_on}
use Rattle.steps.specs.NoStep.{no_step}
use Rattle.steps.proofs.AnswersLaws.{answer_at}
use Rattle.census.specs.declared.Ends.{Ends}
use Rattle.census.proofs.ChoiceLaws.{choices_number}
use Rattle.census.proofs.EndingLaws.{choices_on, same_sizes, accepted_choice, refused_choice, counts_recur, ending_most}

-- what `plus` and `times` give, and both
abbrev pub plus_of : Ends → Ends → Ends
plus_of e f = record { finished = e.finished + f.finished; busy = e.busy + f.busy; other = e.other + f.other }

abbrev pub times_of : ℕ → Ends → Ends
times_of k e = record { finished = k * e.finished; busy = k * e.busy; other = k * e.other }

abbrev pub combined_of : ℕ → Ends → Ends → Ends
combined_of k e f = plus_of (times_of k e) f

-- counts that have 32 bits
abbrev pub Fits32 : Ends → Type 0
Fits32 e = (e.finished < 4294967296) × (e.busy < 4294967296) × (e.other < 4294967296)

-- ---- a count of the sizes that a census takes: at most 41 to the power 4
pub number_most : (n m : ℕ) → n ≤ 3 → m ≤ 2 → choice_number n m ≤ 41
number_most n m p q =
    let twice : 2 * n ≤ 6 = omega (arith, p) in
    omega (arith, p, q, mul-le-mul (mul-le-mul p p) q, mul-le-mul twice q)

pub count_most : (is : Board → Bool) (b : Board) (k : ℕ) → b.n ≤ 3 → b.m ≤ 2 → k ≤ 4 → ending_count is b k ≤ 2825761
unfolding ChoicesNumber
count_most is b k p q l =
    let few : length (choices_on b) ≤ 41 = omega (arith, choices_number b.n b.m, number_most b.n b.m p q) in
    omega (arith, ending_most is b k, pow-le-pow_left few k, pow-le-pow_right {n = 41} (omega arith) l)

-- ---- before the loop: the choices are listed, and what each would answer
pub record Listed (b : Board) (count : ℕ) (cs : List StepRecord) (ks : List ℕ) : Type 0 where
  pub small : (b.n ≤ 3) × (b.m ≤ 2)
  pub choices : take count cs ≡ choices_on b
  pub long : length ks ≡ batch_most
  pub answers : ks ≡ padded (answers_on b (take count cs))

-- in a turn a choice is left
pub listed_within : {b : Board} {count i : ℕ} {cs : List StepRecord} {ks : List ℕ} → Listed b count cs ks → i < length (take count cs) → i < length (choices_on b)
listed_within h l = omega (arith, l, ap (λ (rs : List StepRecord). length rs) h.choices)

-- behind the last none is
pub listed_all : {b : Board} {count i : ℕ} {cs : List StepRecord} {ks : List ℕ} → Listed b count cs ks → i ≡ min (length (take count cs)) (length ks) → i ≡ length (choices_on b)
unfolding ChoicesNumber
listed_all {b} {count} {i} {cs} {ks} h l =
    omega (arith, l, h.long, ap (λ (rs : List StepRecord). length rs) h.choices, choices_number b.n b.m, number_most b.n b.m h.small.0 h.small.1)

-- the record that is read is the choice of its number
pub listed_choice : {b : Board} {count : ℕ} {cs : List StepRecord} {ks : List ℕ} → Listed b count cs ks → (i : ℕ) {r : StepRecord} → r ≡ get_or (take count cs) i no_step → r ≡ get_or (choices_on b) i no_step
listed_choice h i e = e ∙ ap (λ (rs : List StepRecord). get_or rs i no_step) h.choices

-- and the number that is read is its answer
pub listed_answer : {b : Board} {count i : ℕ} {cs : List StepRecord} {ks : List ℕ} → Listed b count cs ks → i < length (take count cs) → {r : StepRecord} → r ≡ get_or (take count cs) i no_step → {k : ℕ} → k ≡ get_or ks i 0 → k ≡ number_of (step b r).answer
listed_answer {b} {count} {i} {cs} h l e q =
    let below : (i < count) × (i < length cs) = (omega (arith, l, length-take count cs), omega (arith, l, length-take count cs)) in
    q ∙ ap (λ (ns : List ℕ). get_or ns i 0) h.answers ∙ answer_at b cs count i below.0 below.1 ∙ ap (λ (x : StepRecord). number_of (step b x).answer) (sym (get_or-take count cs i no_step below.0) ∙ sym e)

-- ---- sums over the first choices
module _ (b : Board) (k : ℕ) where
  -- what the accepted ones among the first i count for, and how many of them are refused
  abbrev accepted_to : (Board → Bool) → ℕ → ℕ
  accepted_to is i = sum_of (λ j r. accepted_choice is b k r) (take i (choices_on b))

  abbrev refused_to : ℕ → ℕ
  refused_to i = sum_of (λ j r. refused_choice b r) (take i (choices_on b))

  abbrev choice_at : ℕ → StepRecord
  choice_at i = get_or (choices_on b) i no_step

  pub record Turn (sum : Ends) (refused i : ℕ) : Type 0 where
    pub within : i ≤ length (choices_on b)
    pub few : refused ≤ i
    pub counts : refused ≡ refused_to i
    pub finished : sum.finished ≡ accepted_to is_finished i
    pub busy : sum.busy ≡ accepted_to is_busy i
    pub other : sum.other ≡ accepted_to is_other i

  pub turn_begins : Turn (record { finished = 0; busy = 0; other = 0 }) 0 0
  unfolding sum_of
  turn_begins = record { within = omega arith; few = omega arith; counts = refl; finished = refl; busy = refl; other = refl }

  module _ {i : ℕ} (l : i < length (choices_on b)) where
    -- one choice more, which counts for so much
    part_more : (is : Board → Bool) (sum part : ℕ) → accepted_choice is b k (choice_at i) ≡ part → sum ≡ accepted_to is i → sum + part ≡ accepted_to is (suc i)
    part_more is sum part e s = omega (arith, s, e, sum_taken (λ j r. accepted_choice is b k r) (choices_on b) i no_step l)

    accepted_more : (is : Board → Bool) (sum : ℕ) → number_of (step b (choice_at i)).answer ≡ 0 → sum ≡ accepted_to is i → sum + ending_count is (step b (choice_at i)).board k ≡ accepted_to is (suc i)
    accepted_more is sum e = part_more is sum _ (rw (eq-eqb _ 0 e))

    refused_more : (is : Board → Bool) (sum : ℕ) → (number_of (step b (choice_at i)).answer ≡ 0 → ⊥) → sum ≡ accepted_to is i → sum ≡ accepted_to is (suc i)
    refused_more is sum n s = omega (arith, part_more is sum 0 (rw (ne_eqb _ 0 n)) s)

    -- the turn of an accepted choice r, with the board that it leaves and what follows from there
    pub turn_accepted :
        {sum part : Ends} {refused i' : ℕ} {r : StepRecord} {next : Board} → Turn sum refused i → i' ≡ suc i → r ≡ choice_at i → number_of (step b r).answer ≡ 0 → next ≡ (step b r).board → part ≡ ends_from next k
        → Turn (plus_of sum part) refused i'
    turn_accepted {sum} {part} {refused} {i'} {r} {next} w ei er e en ep =
        let given : part ≡ ends_from (step b (choice_at i)).board k = ep ∙ ap (λ (c : Board). ends_from c k) (en ∙ ap (λ (q : StepRecord). (step b q).board) er) in
        let a : number_of (step b (choice_at i)).answer ≡ 0 = sym (ap (λ (q : StepRecord). number_of (step b q).answer) er) ∙ e in
        let none : refused_choice b (choice_at i) ≡ 0 = rw (eq-eqb _ 0 a) in
        subst (λ (j : ℕ). Turn (plus_of sum part) refused j) (sym ei) (subst (λ (p : Ends). Turn (plus_of sum p) refused (suc i)) (sym given) (record {
          within = l;
          few = omega (arith, w.few);
          counts = omega (arith, w.counts, none, sum_taken (λ j q. refused_choice b q) (choices_on b) i no_step l);
          finished = accepted_more is_finished sum.finished a w.finished;
          busy = accepted_more is_busy sum.busy a w.busy;
          other = accepted_more is_other sum.other a w.other;
        }))

    pub turn_refused : {sum : Ends} {refused refused' i' : ℕ} {r : StepRecord} → Turn sum refused i → i' ≡ suc i → refused' ≡ suc refused → r ≡ choice_at i → (number_of (step b r).answer ≡ 0 → ⊥) → Turn sum refused' i'
    turn_refused {sum} {refused} {refused'} {i'} {r} w ei ef er left =
        let n : number_of (step b (choice_at i)).answer ≡ 0 → ⊥ = λ z. left (ap (λ (q : StepRecord). number_of (step b q).answer) er ∙ z) in
        let one : refused_choice b (choice_at i) ≡ 1 = rw (ne_eqb _ 0 n) in
        subst (λ (j : ℕ). Turn sum refused' j) (sym ei) (record {
          within = l;
          few = omega (arith, w.few, ef);
          counts = omega (arith, w.counts, ef, one, sum_taken (λ j q. refused_choice b q) (choices_on b) i no_step l);
          finished = refused_more is_finished sum.finished n w.finished;
          busy = refused_more is_busy sum.busy n w.busy;
          other = refused_more is_other sum.other n w.other;
        })

  -- ---- the refused and the accepted together
  abbrev parts_to : (Board → Bool) → ℕ → ℕ
  parts_to is i = refused_to i * ending_count is b k + accepted_to is i

  record Parts (e : Ends) (i : ℕ) : Type 0 where
    finished : e.finished ≡ parts_to is_finished i
    busy : e.busy ≡ parts_to is_busy i
    other : e.other ≡ parts_to is_other i

  turn_parts : {sum same : Ends} {refused i : ℕ} → Turn sum refused i → same ≡ ends_from b k → Parts (combined_of refused same sum) i
  turn_parts w es = record {
    finished = λ x. w.counts x * (es x).finished + w.finished x;
    busy = λ x. w.counts x * (es x).busy + w.busy x;
    other = λ x. w.counts x * (es x).other + w.other x;
  }

  -- ---- the end
  all_parts : (is : Board → Bool) → parts_to is (length (choices_on b)) ≡ ending_count is b (suc k)
  unfolding CountsRecur how_many
  all_parts is =
      ap (λ (cs : List StepRecord). sum_of (λ j r. refused_choice b r) cs * ending_count is b k + sum_of (λ j r. accepted_choice is b k r) cs) (take-length (choices_on b))
      ∙ sym (counts_recur is b k)

  pub turn_ends : {sum same : Ends} {refused i : ℕ} → Turn sum refused i → i ≡ length (choices_on b) → same ≡ ends_from b k → combined_of refused same sum ≡ ends_from b (suc k)
  turn_ends {i = i} w ei es =
      let parts = turn_parts w es in
      let whole : (is : Board → Bool) → parts_to is i ≡ ending_count is b (suc k) = λ is. ap (parts_to is) ei ∙ all_parts is in
      λ x. record {
        finished = (parts.finished ∙ whole is_finished) x;
        busy = (parts.busy ∙ whole is_busy) x;
        other = (parts.other ∙ whole is_other) x;
      }

  -- ---- nothing wraps
  module _ (sizes : (b.n ≤ 3) × (b.m ≤ 2) × (suc k ≤ 4)) where
    part_most : (is : Board → Bool) (i : ℕ) → parts_to is i ≤ 2825761
    unfolding CountsRecur how_many
    part_most is i =
        omega (
          arith,
          mul-le-mul_right (ending_count is b k) (sum_front (λ j r. refused_choice b r) (choices_on b) i),
          sum_front (λ j r. accepted_choice is b k r) (choices_on b) i,
          counts_recur is b k,
          count_most is b (suc k) sizes.0 sizes.1 sizes.2,
        )

    pub turn_fits : {sum same : Ends} {refused i : ℕ} → Turn sum refused i → same ≡ ends_from b k → Fits32 (combined_of refused same sum)
    turn_fits {i = i} w es =
        let parts = turn_parts w es in (
          omega (arith, parts.finished, part_most is_finished i),
          omega (arith, parts.busy, part_most is_busy i),
          omega (arith, parts.other, part_most is_other i),
        )

    -- what the refused ones alone count for, and the accepted ones alone
    pub times_fit : {sum same : Ends} {refused i : ℕ} → Turn sum refused i → same ≡ ends_from b k → Fits32 (times_of refused same)
    times_fit {sum} w es = let f = turn_fits w es in (omega (arith, f.0), omega (arith, f.1), omega (arith, f.2))

    pub sum_fits : {sum : Ends} {refused i : ℕ} → Turn sum refused i → Fits32 sum
    sum_fits {i = i} w = (
      omega (arith, w.finished, part_most is_finished i),
      omega (arith, w.busy, part_most is_busy i),
      omega (arith, w.other, part_most is_other i),
    )

-- ---- the board after a step is one to go on from
abbrev pub Ready : Board → Type 0
Ready b = Sound b × (b.n ≤ 3) × (b.m ≤ 2)

pub ready_next : {b next : Board} (r : StepRecord) → next ≡ (step b r).board → Ready b → Ready next
ready_next {b} r e h = subst Ready (sym e) (step_keeps_sound b r h.0, omega (arith, h.1, (same_sizes b r).0), omega (arith, h.2, (same_sizes b r).1))
