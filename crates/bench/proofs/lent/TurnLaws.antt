-- What the loop of `bench_lent` has after some turns: the steps that are left give what the whole list gives.
use mathlib.Core.Path.{◌≡◌, sym, ◌∙◌, ap}
use Prim.Native.Nat.{ℕ, suc, ◌+◌, ◌<◌, ◌≤◌}
use native.Mathlib.Nat.{add-zero}
use native.Mathlib.Numerals.{add-one, add-one-le}
use native.Mathlib.Omega.{arith}
use mathlib.Core.List.{List, [], ◌∷◌}
use lib.Dec.{eqb}
use lib.ListN.{length, get_or, drop, drop_of_length-le}
use lib.Seq.{drop-cons}
use Rattle.refusals.specs.declared.Refusal.{Refusal}
use Rattle.refusals.specs.Numbers.{number_of}
use Rattle.std.specs.Prelude.{Result}
use Rattle.rules.specs.Events.{all_answers}
use Rattle.rules.specs.Facts.{one_if}
use Rattle.rules.specs.Steps.{step}
use Rattle.rules.specs.Lists.{answers}
use Rattle.rules.specs.Runs.{zeros}
use Rattle.rules.specs.declared.Board.{Board}
use Rattle.rules.specs.declared.StepRecord.{StepRecord}
use Rattle.steps.specs.NoStep.{no_step}
use Rattle.board.proofs.SlotLaws.{one_at_most}
use Rattle.steps.proofs.BatchLaws.{one_more}

step_counted : (b : Board) (r : StepRecord) (rs : List StepRecord) (z : ℕ) → (z + one_if (eqb (number_of (step b r).answer) 0)) + zeros (answers (step b r).board rs) ≡ z + zeros (answers b (r ∷ rs))
unfolding all_answers zeros
step_counted b r rs z = one_more z (zeros (answers (step b r).board rs)) (eqb (number_of (step b r).answer) 0)

none_counted : (b : Board) (z : ℕ) → z + zeros (answers b []) ≡ z
unfolding all_answers zeros
none_counted b z = add-zero z

-- at the head of each turn, i turns are taken from the board h, the board is b, and z of the steps were accepted
pub record LentTurn (h : Board) (rs : List StepRecord) (b : Board) (z i : ℕ) : Type 0 where
  pub within : i ≤ length rs
  pub few : z ≤ i
  pub gives : z + zeros (answers b (drop i rs)) ≡ zeros (answers h rs)

module _ {h : Board} {rs : List StepRecord} {b : Board} {z i : ℕ} (t : LentTurn h rs b z i) where
  -- the step of the turn
  abbrev here : StepRecord
  here = get_or rs i no_step

  pub lent_goes : i < length rs → {k : Result (Unit {0}) Refusal} {c : Board} {x : ℕ} → k ≡ (step b here).answer → c ≡ (step b here).board → x ≡ one_if (eqb (number_of k) 0) → LentTurn h rs c (z + x) (i + 1)
  lent_goes l {k} {c} {x} k-is c-is x-is = record {
    within = add-one-le l;
    few = omega (arith, t.few, x-is, one_at_most (eqb (number_of k) 0));
    gives =
        (λ j. (z + (x-is ∙ ap (λ (a : Result (Unit {0}) Refusal). one_if (eqb (number_of a) 0)) k-is) j) + zeros (answers (c-is j) (drop (add-one i j) rs)))
        ∙ step_counted b here (drop (suc i) rs) z
        ∙ ap (λ (qs : List StepRecord). z + zeros (answers b qs)) (sym (drop-cons rs i no_step l))
        ∙ t.gives;
  }

  pub lent_ends : length rs ≤ i → z ≡ zeros (answers h rs)
  lent_ends l = sym (none_counted b z) ∙ ap (λ (qs : List StepRecord). z + zeros (answers b qs)) (sym (drop_of_length-le rs {i = i} l)) ∙ t.gives
