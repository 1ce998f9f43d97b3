-- A run over a list of steps on a lent board, with a lent buffer for the answers; and a batch, the same by value with the debts.
use Rattle.std.specs.Prelude.{cond, List, [], ◌∷◌, ◌++◌, ℕ, suc, ◌-◌, length, drop, replicate, eqb, Result, Ok, Err}
use Rattle.refusals.specs.declared.Refusal.{Refusal}
use Rattle.refusals.specs.declared.Refusal.TheVariants.{NotSound, ShortAnswers}
use Rattle.rules.specs.Facts.{Check, check, at_most, holds, judge}
use Rattle.rules.specs.Sound.{sound}
use Rattle.rules.specs.Steps.{step}
use Rattle.rules.specs.Lists.{after, answers}
use Rattle.rules.specs.Records.{Board, StepRecord, Batch}

-- the number of zeros among the answers: how many steps were accepted
unfoldable pub zeros : List ℕ → ℕ
zeros [] = 0
zeros (k ∷ ks) = cond (eqb k 0) (suc (zeros ks)) (zeros ks)

-- 30 not sound, then 15 answers buffer shorter than the list: either is decided before any step
abbrev pub run_checks : Board → List StepRecord → List ℕ → List Check
run_checks b rs out = check (holds (sound b)) NotSound ∷ check (at_most (length rs) (length out)) ShortAnswers ∷ []

-- what the run gives, and the board and the buffer that it leaves: the answers, then the rest of the buffer as it was
unfoldable pub run_answer : Board → List StepRecord → List ℕ → Result ℕ Refusal
run_answer b rs out = judge Err (run_checks b rs out) (Ok (zeros (answers b rs)))

unfoldable pub run_board : Board → List StepRecord → List ℕ → Board
run_board b rs out = judge (λ k. b) (run_checks b rs out) (after b rs)

unfoldable pub run_buffer : Board → List StepRecord → List ℕ → List ℕ
run_buffer b rs out = judge (λ k. out) (run_checks b rs out) (answers b rs ++ drop (length rs) out)

-- the steps that were run: none where the run is refused
unfoldable pub ran_steps : Board → List StepRecord → List ℕ → List StepRecord
ran_steps b rs out = judge (λ k. []) (run_checks b rs out) rs

-- ---- a batch: a list of at most so many steps by value, with the debt after each step beside its answer
abbrev pub batch_most : ℕ
batch_most = 512

unfoldable pub debts : Board → List StepRecord → List ℕ
debts b [] = []
debts b (r ∷ rs) = (step b r).board.debt ∷ debts (step b r).board rs

-- as many entries as a batch can have: those given, then zeros
abbrev pub padded : List ℕ → List ℕ
padded ks = ks ++ replicate (batch_most - length ks) 0

abbrev pub batch_checks : Board → List Check
batch_checks b = check (holds (sound b)) NotSound ∷ []

unfoldable pub batch : Board → List StepRecord → Batch
batch b rs =
    judge (λ k. record { ran = Err k; board = b; answers = padded []; debts = padded [] })
    (batch_checks b)
    (record { ran = Ok (zeros (answers b rs)); board = after b rs; answers = padded (answers b rs); debts = padded (debts b rs) })

unfoldable pub batch_steps : Board → List StepRecord → List StepRecord
batch_steps b rs = judge (λ k. []) (batch_checks b) rs
