-- What a run promises.
use Rattle.std.specs.Prelude.{◌≡◌, List, ℕ, Result}
use Rattle.refusals.specs.declared.Refusal.{Refusal}
use Rattle.rules.specs.Runs.{run_answer, run_board, run_buffer, ran_steps}
use Rattle.rules.specs.Lists.{taking}
use Rattle.rules.specs.Guarantee.{Carries}
use Rattle.rules.specs.declared.Board.{Board}
use Rattle.rules.specs.declared.StepRecord.{StepRecord}

-- a run of the list rs on the board b, with the buffer out, gives e and leaves the board c and the buffer ks; and the guarantee holds of c
pub record RunMeets (b : Board) (rs : List StepRecord) (out : List ℕ) (e : Result ℕ Refusal) (c : Board) (ks : List ℕ) : Type 0 where
  pub gives : e ≡ run_answer b rs out
  pub board : c ≡ run_board b rs out
  pub buffer : ks ≡ run_buffer b rs out
  pub carries : Carries b (taking (ran_steps b rs out)) c
