-- A run by its turns is the run over its list: what the turns gave is what the definitions over the list say.
use mathlib.Core.Path.{◌≡◌, sym, ap, subst, ◌∙◌}
use mathlib.Core.Bool.{true, false}
use mathlib.Core.List.{List, [], ◌++◌}
use Prim.Native.Nat.{ℕ, ◌<◌, ◌≤◌}
use native.Mathlib.Nat.{zero-add}
use native.Mathlib.Omega.{arith}
use lib.ListN.{length, drop}
use lib.Seq.{sets-eq}
use lib.Dec.{leb}
use Rattle.refusals.specs.declared.Refusal.TheVariants.{NotSound, ShortAnswers}
use Rattle.std.specs.Prelude.{Ok, Err}
use Rattle.std.proofs.lemmas.Bool.{le-leb, lt-leb}
use Rattle.rules.specs.Events.{after_all}
use Rattle.rules.specs.Sound.{sound}
use Rattle.rules.specs.Lists.{after, answers, taking}
use Rattle.rules.specs.Runs.{zeros, run_answer, run_board, run_buffer, ran_steps}
use Rattle.rules.specs.Guarantee.{Carries}
use Rattle.rules.specs.declared.Board.{Board}
use Rattle.rules.specs.declared.StepRecord.{StepRecord}
use Rattle.rules.specs.declared.Batch.{Batch}
use Rattle.rules.proofs.Theorem.{steps_carry}
use Rattle.steps.specs.RunMeets.{RunMeets}
use Rattle.steps.proofs.BatchLaws.{filled, answers_length}

-- ---- a run that is refused before any step: the board is not sound, or the buffer is too short
pub run_unsound : (b : Board) (rs : List StepRecord) (out : List ℕ) → sound b ≡ false → RunMeets b rs out (Err NotSound) b out
unfolding run_answer run_board run_buffer ran_steps after_all
run_unsound b rs out t = record { gives = rw t; board = rw t; buffer = rw t; carries = rw t (steps_carry b []) }

pub run_short : (b : Board) (rs : List StepRecord) (out : List ℕ) → sound b ≡ true → length out < length rs → RunMeets b rs out (Err ShortAnswers) b out
unfolding run_answer run_board run_buffer ran_steps after_all
run_short b rs out t short = let l : leb (length rs) (length out) ≡ false = lt-leb (length rs) (length out) short in record { gives = rw (t, l); board = rw (t, l); buffer = rw (t, l); carries = rw (t, l) (steps_carry b []) }

-- ---- a run of all steps
pub run_whole : (b : Board) (rs : List StepRecord) (out ds : List ℕ) (z : ℕ) (c : Board) (ks : List ℕ) → sound b ≡ true → length rs ≤ length out
    → record { ran = Ok z; board = c; answers = ks; debts = ds } ≡ filled b rs 0 0 out [] → RunMeets b rs out (Ok z) c ks
unfolding filled run_answer run_board run_buffer ran_steps
run_whole b rs out ds z c ks t room e =
    let l : leb (length rs) (length out) ≡ true = le-leb (length rs) (length out) room in
    let board : c ≡ after b rs = ap (λ (x : Batch). x.board) e in
    record {
      gives = rw (t, l) (ap (λ (x : Batch). x.ran) e ∙ ap (λ (m : ℕ). Ok m) (zero-add (zeros (answers b rs))));
      board = rw (t, l) board;
      buffer =
          rw (t, l)
          (ap (λ (x : Batch). x.answers) e
          ∙ sets-eq (answers b rs) out 0 (omega (arith, answers_length b rs))
          ∙ ap (λ (m : ℕ). answers b rs ++ drop m out) (zero-add (length (answers b rs)) ∙ answers_length b rs));
      carries = rw (t, l) (subst (λ (d : Board). Carries b (taking rs) d) (sym board) (steps_carry b rs));
    }
