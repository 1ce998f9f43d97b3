-- The answers of steps that are not taken, as their loop writes them: one law for a turn, one for the whole, and one for an entry.
use mathlib.Core.Path.{◌≡◌, refl, sym, ap, ◌∙◌}
use mathlib.Core.List.{List, [], ◌∷◌}
use Prim.Native.Nat.{ℕ, zero, suc, ◌+◌, ◌≤◌, ◌<◌}
use native.Mathlib.Numerals.{add-one}
use native.Mathlib.Nat.{le_of_suc-le-suc, not-suc-le-zero}
use native.Mathlib.Omega.{arith}
use lib.ListN.{length, get_or, set, take, drop, length-take, drop_of_length-le, get_or-append}
use lib.Seq.{sets, drop-cons, get_or-take}
use Rattle.refusals.specs.Numbers.{number_of}
use Rattle.rules.specs.Steps.{step}
use Rattle.rules.specs.Runs.{batch_most, padded}
use Rattle.rules.specs.declared.Board.{Board}
use Rattle.rules.specs.declared.StepRecord.{StepRecord}
use Rattle.steps.specs.AnswersOn.{answers_on}
use Rattle.steps.specs.NoStep.{no_step}
use Rattle.steps.proofs.BatchLaws.{noughts, noughts_padded}

answers_on_length : (b : Board) (rs : List StepRecord) → length (answers_on b rs) ≡ length rs
unfolding answers_on
answers_on_length b [] = refl
answers_on_length b (r ∷ rs) = ap suc (answers_on_length b rs)

module _ (b : Board) where
  -- the answers where those of the steps rs are still to be written, from place i of ks on
  abbrev pub told : List StepRecord → ℕ → List ℕ → List ℕ
  told rs i ks = sets ks i (answers_on b rs)

  -- the answer of the step at place i, stored, leaves what the steps from i on gave
  pub told_turn : (rs : List StepRecord) (i : ℕ) (ks : List ℕ) (k : ℕ) → i < length rs → k ≡ number_of (step b (get_or rs i no_step)).answer → told (drop (i + 1) rs) (i + 1) (set ks i k) ≡ told (drop i rs) i ks
  unfolding answers_on
  told_turn rs i ks k l e =
      ap (λ (j : ℕ). told (drop j rs) j (set ks i k)) (add-one i)
      ∙ ap (λ (j : ℕ). told (drop (suc i) rs) (suc i) (set ks i j)) e
      ∙ ap (λ (qs : List StepRecord). told qs i ks) (sym (drop-cons rs i no_step l))

  pub told_end : (rs : List StepRecord) (i : ℕ) (ks : List ℕ) → length rs ≤ i → told (drop i rs) i ks ≡ ks
  unfolding answers_on
  told_end rs i ks l = ap (λ (qs : List StepRecord). told qs i ks) (drop_of_length-le rs {i = i} l)

  pub told_all : (rs : List StepRecord) → length rs ≤ batch_most → told rs 0 noughts ≡ padded (answers_on b rs)
  told_all rs l = noughts_padded (answers_on b rs) (omega (arith, answers_on_length b rs))

  -- ---- an entry
  entry : (rs : List StepRecord) (i : ℕ) → i < length rs → get_or (answers_on b rs) i 0 ≡ number_of (step b (get_or rs i no_step)).answer
  unfolding answers_on
  entry [] i l = absurd (not-suc-le-zero l)
  entry (r ∷ rs) zero l = refl
  entry (r ∷ rs) (suc i) l = entry rs i (le_of_suc-le-suc l)

  pub answer_at : (steps : List StepRecord) (count i : ℕ) → i < count → i < length steps → get_or (padded (answers_on b (take count steps))) i 0 ≡ number_of (step b (get_or steps i no_step)).answer
  answer_at steps count i l m =
      let rs = take count steps in
      let within : i < length rs = omega (arith, length-take count steps) in
      get_or-append (answers_on b rs) _ 0 i (omega (arith, answers_on_length b rs)) ∙ entry rs i within ∙ ap (λ (r : StepRecord). number_of (step b r).answer) (get_or-take count steps i no_step l)
