-- A walk over a list of steps batch by batch: a batch leaves what its steps leave, on a board that is not sound too.
use mathlib.Core.Path.{◌≡◌, refl, sym, ap, ◌∙◌}
use mathlib.Core.Bool.{Bool, true, false, cond}
use mathlib.Core.List.{List, [], ◌∷◌, ◌++◌}
use Prim.Native.Nat.{ℕ, suc, ◌+◌, ◌*◌, ◌/◌, ◌≤◌, min}
use native.Mathlib.Nat.{add-zero}
use native.Mathlib.Omega.{arith}
use lib.ListN.{length, take, length-append}
use lib.Dec.{eqb}
use Rattle.refusals.specs.declared.Refusal.TheVariants.{NotSound}
use Rattle.refusals.specs.Numbers.{number_of}
use Rattle.std.specs.Prelude.{Err}
use Rattle.rules.specs.Events.{all_answers}
use Rattle.rules.specs.Facts.{one_if}
use Rattle.rules.specs.Sound.{sound}
use Rattle.rules.specs.Steps.{step}
use Rattle.rules.specs.Lists.{answers}
use Rattle.rules.specs.Runs.{zeros, batch, batch_most}
use Rattle.rules.specs.declared.Board.{Board}
use Rattle.rules.specs.declared.StepRecord.{StepRecord}
use Rattle.rules.specs.declared.Outcome.{Outcome}
use Rattle.rules.specs.declared.Batch.{Batch}
use Rattle.bench.specs.Records.{records_in}
use Rattle.bench.specs.Counts.{zeros_of}
use Rattle.bench.specs.declared.walks.Walked.{Walked}
use Rattle.bench.proofs.WalkLaws.{walk_from, walk_step, walk_none, WalkTurn}
use Rattle.bench.proofs.RecordLaws.{records_few, records_cut}

-- a walk goes on where another ended
walk_append : (b : Board) (qs rs : List StepRecord) (z : ℕ) → walk_from (walk_from b qs z).board rs (walk_from b qs z).count ≡ walk_from b (qs ++ rs) z
walk_append b [] rs z = ap (λ (w : Walked). walk_from w.board rs w.count) (walk_none b z)
walk_append b (q ∷ qs) rs z =
    ap (λ (w : Walked). walk_from w.board rs w.count) (sym (walk_step b q qs z))
    ∙ walk_append (step b q).board qs rs (z + one_if (eqb (number_of (step b q).answer) 0))
    ∙ walk_step b q (qs ++ rs) z

-- on a board that is not sound no step is accepted
unsound_step : (b : Board) (r : StepRecord) → sound b ≡ false → step b r ≡ record { answer = Err NotSound; board = b }
unfolding step
unsound_step b r e = simp e

unsound_walk : (b : Board) (rs : List StepRecord) (z : ℕ) → sound b ≡ false → walk_from b rs z ≡ record { board = b; count = z }
unsound_walk b [] z e = walk_none b z
unsound_walk b (r ∷ rs) z e =
    sym (walk_step b r rs z)
    ∙ ap (λ (o : Outcome). walk_from o.board rs (z + one_if (eqb (number_of o.answer) 0))) (unsound_step b r e)
    ∙ ap (λ (k : ℕ). walk_from b rs k) (add-zero z)
    ∙ unsound_walk b rs z e

batch_walk : (b : Board) (rs : List StepRecord) (z : ℕ) → record { board = (batch b rs).board; count = z + zeros_of (batch b rs).ran } ≡ walk_from b rs z
unfolding batch walk_from
batch_walk b rs z = by_test (sound b) refl
  where
    by_test : (t : Bool) → sound b ≡ t → record { board = (batch b rs).board; count = z + zeros_of (batch b rs).ran } ≡ walk_from b rs z
    by_test true e = simp e
    by_test false e = simp (e, add-zero) (sym (unsound_walk b rs z e))

zeros_few : (b : Board) (rs : List StepRecord) → zeros (answers b rs) ≤ length rs
unfolding zeros all_answers
zeros_few b [] = omega arith
zeros_few b (r ∷ rs) = by_test (eqb (number_of (step b r).answer) 0) (zeros_few (step b r).board rs)
  where
    by_test : (t : Bool) {k l : ℕ} → k ≤ l → cond t (suc k) k ≤ suc l
    by_test true p = omega (arith, p)
    by_test false p = omega (arith, p)

pub turn_batched : {b₀ : Board} {xs : List ℕ} {b : Board} {count z : ℕ} {x : Batch} {rest : List ℕ} → WalkTurn b₀ xs b count rest → (numbers behind : List ℕ) (rs : List StepRecord)
    → rest ≡ numbers ++ behind → {size : ℕ} → length numbers ≡ min size (length rest) → size ≡ 4 * batch_most → take (length numbers / 4) rs ≡ records_in numbers → x ≡ batch b (take (length numbers / 4) rs)
    → z ≡ zeros_of x.ran → WalkTurn b₀ xs x.board (count + z) behind
unfolding walk_from
turn_batched {b₀} {xs} {b} {count} {z} {x} {rest} t numbers behind rs whole {size} l room f e g =
    let qs : List StepRecord = records_in numbers in
    let gone : record { board = x.board; count = count + z } ≡ walk_from b qs count =
    ap (λ (j : ℕ). record { board = x.board; count = count + j }) g
    ∙ ap (λ (y : Batch). record { board = y.board; count = count + zeros_of y.ran }) (e ∙ ap (batch b) f) ∙ batch_walk b qs count in
    let cut : records_in rest ≡ qs ++ records_in behind =
    ap records_in whole ∙ records_cut batch_most numbers behind (l ∙ ap (λ (k : ℕ). min k (length rest)) room ∙ ap (λ (ys : List ℕ). min (4 * batch_most) (length ys)) whole) in
    record {
      counts = omega (arith, t.counts, ap (λ (w : Walked). w.count) gone, zeros_few b qs, records_few numbers, ap length whole, length-append numbers behind);
      gives = ap (λ (w : Walked). walk_from w.board (records_in behind) w.count) gone ∙ walk_append b qs (records_in behind) count ∙ ap (λ (ps : List StepRecord). walk_from b ps count) (sym cut) ∙ t.gives;
    }
