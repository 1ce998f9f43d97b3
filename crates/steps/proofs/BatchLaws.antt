-- A batch as its loop builds it: what the steps that are left add to what is there. One law for a turn, one for the whole.
use mathlib.Core.Path.{◌≡◌, refl, sym, ap, subst, ◌∙◌}
use mathlib.Core.Bool.{Bool, true, false, cond}
use mathlib.Core.List.{List, [], ◌∷◌, ◌++◌}
use Prim.Native.Nat.{ℕ, zero, suc, ◌+◌, ◌-◌, ◌≤◌, ◌<◌, min}
use native.Mathlib.Numerals.{add-one, unary_clauses}
use native.Mathlib.Nat.{add-zero, zero-add, zero-sub}
use native.Mathlib.Omega.{arith}
use mir.Val.{bool_byte as from_bool}
use lib.Dec.{eqb}
use lib.ListN.{length, get_or, set, take, drop, replicate, length-replicate, drop_of_length-le}
use lib.Seq.{sets, sets-eq, drop-cons}
use borrow.Author.Tests.{ne_eqb}
use Rattle.std.specs.Prelude.{Result, Ok, Err, is_ok}
use Rattle.refusals.proofs.NumberLaws.{refused_above_zero}
use Rattle.refusals.specs.declared.Refusal.TheVariants.{NotSound}
use Rattle.refusals.specs.declared.Refusal.{Refusal}
use Rattle.refusals.specs.Numbers.{number, number_of}
use Rattle.std.proofs.lemmas.List.{take_min}
use Rattle.rules.specs.Events.{after_all, all_answers}
use Rattle.rules.specs.Facts.{one_if}
use Rattle.rules.specs.Sound.{sound}
use Rattle.rules.specs.Steps.{step}
use Rattle.rules.specs.Lists.{after, answers, accepted, taking}
use Rattle.rules.specs.Runs.{zeros, debts, batch_most, padded, batch, batch_steps}
use Rattle.rules.specs.Guarantee.{Carries}
use Rattle.rules.specs.declared.Board.{Board}
use Rattle.rules.specs.declared.StepRecord.{StepRecord}
use Rattle.rules.specs.declared.Outcome.{Outcome}
use Rattle.rules.specs.declared.Batch.{Batch}
use Rattle.rules.proofs.Theorem.{steps_carry}
use Rattle.rules.proofs.EventSound.{step_keeps_sound}
use Rattle.rules.proofs.SoundLaws.{sound_claims, sound_tested}
use Rattle.board.proofs.SlotLaws.{one_at_most}
use Rattle.steps.specs.NoStep.{no_step}

-- the batch where the steps rs are left on the board b, z zeros are counted, and the next answer and the next debt go to place i of ks and ds
unfoldable pub filled : Board → List StepRecord → ℕ → ℕ → List ℕ → List ℕ → Batch
filled b rs z i ks ds = record { ran = Ok (z + zeros (answers b rs)); board = after b rs; answers = sets ks i (answers b rs); debts = sets ds i (debts b rs) }

-- ---- a turn
pub one_more : (z m : ℕ) (t : Bool) → (z + one_if t) + m ≡ z + cond t (suc m) m
one_more z m true = omega arith
one_more z m false = omega arith

filled_step : (b : Board) (r : StepRecord) (rs : List StepRecord) (z i : ℕ) (ks ds : List ℕ)
    → filled (step b r).board rs (z + one_if (accepted b r)) (suc i) (set ks i (number_of (step b r).answer)) (set ds i (step b r).board.debt) ≡ filled b (r ∷ rs) z i ks ds
unfolding filled after_all all_answers debts zeros
filled_step b r rs z i ks ds =
    let c : Board = (step b r).board in
    ap (λ (m : ℕ). record { ran = Ok m; board = after c rs; answers = sets (set ks i (number_of (step b r).answer)) (suc i) (answers c rs); debts = sets (set ds i c.debt) (suc i) (debts c rs) })
    (one_more z (zeros (answers c rs)) (accepted b r))

-- the step at place i of the list, with its outcome o stored and counted, leaves what the steps from i on gave
filled_turn : (rs : List StepRecord) (b : Board) (z i : ℕ) (ks ds : List ℕ) (o : Outcome) → i < length rs → step b (get_or rs i no_step) ≡ o
    → filled o.board (drop (i + 1) rs) (z + one_if (eqb (number_of o.answer) 0)) (i + 1) (set ks i (number_of o.answer)) (set ds i o.board.debt) ≡ filled b (drop i rs) z i ks ds
filled_turn rs b z i ks ds o l e =
    ap (λ (j : ℕ). filled o.board (drop j rs) (z + one_if (eqb (number_of o.answer) 0)) j (set ks i (number_of o.answer)) (set ds i o.board.debt)) (add-one i)
    ∙ ap (λ (p : Outcome). filled p.board (drop (suc i) rs) (z + one_if (eqb (number_of p.answer) 0)) (suc i) (set ks i (number_of p.answer)) (set ds i p.board.debt)) (sym e)
    ∙ filled_step b (get_or rs i no_step) (drop (suc i) rs) z i ks ds
    ∙ ap (λ (qs : List StepRecord). filled b qs z i ks ds) (sym (drop-cons rs i no_step l))

-- ---- the end
filled_none : (b : Board) (z i : ℕ) (ks ds : List ℕ) → filled b [] z i ks ds ≡ record { ran = Ok z; board = b; answers = ks; debts = ds }
unfolding filled after_all all_answers debts zeros
filled_none b z i ks ds = ap (λ (m : ℕ). record { ran = Ok m; board = b; answers = ks; debts = ds }) (add-zero z)

filled_end : (rs : List StepRecord) (b : Board) (z i : ℕ) (ks ds : List ℕ) → length rs ≤ i → filled b (drop i rs) z i ks ds ≡ record { ran = Ok z; board = b; answers = ks; debts = ds }
filled_end rs b z i ks ds l = ap (λ (qs : List StepRecord). filled b qs z i ks ds) (drop_of_length-le rs {i = i} l) ∙ filled_none b z i ks ds

-- ---- at the head of each turn of a loop over the steps rs, from the board `first` on, and at its end: what is left from here gives the whole,
-- and the board is sound where a step is left, and wherever the first board was
pub record Turn (whole : Batch) (first : Board) (rs : List StepRecord) (b : Board) (z i : ℕ) (ks ds : List ℕ) : Type 0 where
  pub few : z ≤ i
  pub is_sound : i < length rs → sound b ≡ true
  pub stays_sound : sound first ≡ true → sound b ≡ true
  pub gives : filled b (drop i rs) z i ks ds ≡ whole

counted : (t : Bool) → from_bool t ≡ one_if t
counted true = refl
counted false = refl

ok_is_zero : (k : Result (Unit {0}) Refusal) → is_ok k ≡ eqb (number_of k) 0
ok_is_zero (Ok x) = refl
ok_is_zero (Err k) = sym (ne_eqb (number k) 0 (refused_above_zero k))

module _ (whole : Batch) (first : Board) (rs : List StepRecord) (b : Board) (z i : ℕ) (ks ds : List ℕ) (turn : Turn whole first rs b z i ks ds) where
  -- the turn of the step at place i, with its answer and its debt stored, and counted as the code counts
  pub turned : (c : Board) (k : Result (Unit {0}) Refusal) (j n : ℕ) → i < length rs → step b (get_or rs i no_step) ≡ record { answer = k; board = c } → j ≡ number_of k → n ≡ from_bool (is_ok k)
      → Turn whole first rs c (z + n) (i + 1) (set ks i j) (set ds i c.debt)
  turned c k j n l e q f =
      let g : n ≡ one_if (eqb (number_of k) 0) = f ∙ ap from_bool (ok_is_zero k) ∙ counted (eqb (number_of k) 0) in
      let kept : sound c ≡ true = subst (λ (o : Outcome). sound o.board ≡ true) e (sound_tested _ (step_keeps_sound b (get_or rs i no_step) (sound_claims b (turn.is_sound l)))) in
      record {
        few = omega (arith, g, one_at_most (eqb (number_of k) 0), turn.few);
        is_sound = λ m. kept;
        stays_sound = λ s. kept;
        gives = (λ t. filled c (drop (i + 1) rs) (z + g t) (i + 1) (set ks i (q t)) (set ds i c.debt)) ∙ filled_turn rs b z i ks ds (record { answer = k; board = c }) l e ∙ turn.gives;
      }

  pub ended : length rs ≤ i → record { ran = Ok z; board = b; answers = ks; debts = ds } ≡ whole
  ended l = sym (filled_end rs b z i ks ds l) ∙ turn.gives

-- ---- the whole
pub answers_length : (b : Board) (rs : List StepRecord) → length (answers b rs) ≡ length rs
unfolding all_answers
answers_length b [] = refl
answers_length b (r ∷ rs) = ap suc (answers_length (step b r).board rs)

pub debts_length : (b : Board) (rs : List StepRecord) → length (debts b rs) ≡ length rs
unfolding debts
debts_length b [] = refl
debts_length b (r ∷ rs) = ap suc (debts_length (step b r).board rs)

drop_replicate : (k n : ℕ) → drop {A = ℕ} k (replicate n 0) ≡ replicate (n - k) 0
drop_replicate zero n = simp unary_clauses
drop_replicate (suc k) zero = ap (λ (n : ℕ). replicate n 0) (sym (zero-sub (suc k)))
drop_replicate (suc k) (suc n) = drop_replicate k n ∙ simp unary_clauses

-- zeros, as many as a batch can have, written into from the front
abbrev pub noughts : List ℕ
noughts = replicate batch_most 0

pub noughts_padded : (ks : List ℕ) → length ks ≤ batch_most → sets noughts 0 ks ≡ padded ks
noughts_padded ks l =
    sets-eq ks noughts 0 (omega (arith, length-replicate {A = ℕ} batch_most 0))
    ∙ ap (λ (n : ℕ). ks ++ drop n noughts) (zero-add (length ks))
    ∙ ap (λ (ys : List ℕ). ks ++ ys) (drop_replicate (length ks) batch_most)

-- the steps that are asked for, of an array of as many as a batch can have
pub asked_steps : (steps : List StepRecord) (count n : ℕ) → length steps ≡ batch_most → n ≡ min count batch_most → take n steps ≡ take count steps
asked_steps steps count n all e = ap (λ (k : ℕ). take k steps) (e ∙ ap (min count) (sym all)) ∙ take_min count steps

-- the definition of a batch, by the test of soundness
abbrev batch_by : Bool → Board → List StepRecord → Batch
batch_by t b rs =
    cond t (record { ran = Ok (zeros (answers b rs)); board = after b rs; answers = padded (answers b rs); debts = padded (debts b rs) })
    (record { ran = Err NotSound; board = b; answers = padded []; debts = padded [] })

pub filled_batch : (b : Board) (rs : List StepRecord) → sound b ≡ true → length rs ≤ batch_most → filled b rs 0 0 noughts noughts ≡ batch b rs
unfolding filled batch
filled_batch b rs t l =
    let e : sets noughts 0 (answers b rs) ≡ padded (answers b rs) = noughts_padded (answers b rs) (omega (arith, answers_length b rs)) in
    let f : sets noughts 0 (debts b rs) ≡ padded (debts b rs) = noughts_padded (debts b rs) (omega (arith, debts_length b rs)) in
    rw (e, f, zero-add, t)

pub unsound_batch : (b : Board) (rs : List StepRecord) → sound b ≡ false → record { ran = Err NotSound; board = b; answers = noughts; debts = noughts } ≡ batch b rs
unfolding batch
unsound_batch b rs t = rw t

-- what the loop leaves where no step is taken, since the board is not sound
pub refused_batch : (b : Board) (rs : List StepRecord) (x : Batch) → sound b ≡ false → x ≡ filled b [] 0 0 noughts noughts
    → record { ran = Err NotSound; board = x.board; answers = x.answers; debts = x.debts } ≡ batch b rs
refused_batch b rs x t e =
    ap (λ (y : Batch). record { ran = Err NotSound; board = y.board; answers = y.answers; debts = y.debts }) (e ∙ filled_none b 0 0 noughts noughts) ∙ unsound_batch b rs t

-- ---- the guarantee
pub batch_carries : (b : Board) (rs : List StepRecord) (x : Batch) → x ≡ batch b rs → Carries b (taking (batch_steps b rs)) x.board
unfolding batch batch_steps after_all
batch_carries b rs x e = subst (λ (c : Board). Carries b (taking (batch_steps b rs)) c) (sym (ap (λ (y : Batch). y.board) e ∙ by_test (sound b))) (steps_carry b (batch_steps b rs))
  where
    by_test : (t : Bool) → (batch_by t b rs).board ≡ after b (cond t rs [])
    by_test true = refl
    by_test false = refl
