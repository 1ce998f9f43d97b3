-- A walk over a list of steps, as its loop goes: the steps that are left give what the whole gives.
use mathlib.Core.Path.{◌≡◌, refl, sym, ap, ◌∙◌}
use mathlib.Core.Bool.{Bool, true, false}
use mathlib.Core.List.{List, [], ◌∷◌, ◌++◌}
use Prim.Native.Nat.{ℕ, ◌+◌, ◌*◌, ◌≤◌, ◌<◌}
use native.Mathlib.Nat.{add-zero, zero-add}
use native.Mathlib.Omega.{arith}
use lib.ListN.{length, length-append}
use lib.Dec.{eqb}
use mir.Val.{bool_byte}
use borrow.Author.Tests.{ne_eqb}
use Rattle.refusals.proofs.NumberLaws.{refused_above_zero}
use Rattle.refusals.specs.declared.Refusal.{Refusal}
use Rattle.refusals.specs.Numbers.{number, number_of}
use Rattle.std.specs.Prelude.{Result, Ok, Err, is_ok}
use Rattle.rules.specs.Events.{after_all, all_answers}
use Rattle.rules.specs.Facts.{one_if}
use Rattle.rules.specs.Steps.{step}
use Rattle.rules.specs.Lists.{after, answers}
use Rattle.rules.specs.Runs.{zeros}
use Rattle.rules.specs.declared.Board.{Board}
use Rattle.rules.specs.declared.StepRecord.{StepRecord}
use Rattle.rules.specs.declared.Outcome.{Outcome}
use Rattle.board.proofs.SlotLaws.{one_at_most}
use Rattle.steps.proofs.BatchLaws.{one_more}
use Rattle.bench.specs.Trees.{tree_board}
use Rattle.bench.specs.Records.{records_in, record_of}
use Rattle.bench.specs.Counts.{accepted_of, walk_of}
use Rattle.bench.specs.declared.walks.Walked.{Walked}
use Rattle.bench.proofs.RecordLaws.{records_four, records_none}

-- what a test adds to a count
pub byte_one : (t : Bool) → bool_byte t ≡ one_if t
byte_one true = refl
byte_one false = refl

-- what an accepted step adds to it
pub ok_one : (k : Result (Unit {0}) Refusal) → bool_byte (is_ok k) ≡ one_if (eqb (number_of k) 0)
ok_one (Ok x) = refl
ok_one (Err k) = rw (ne_eqb (number k) 0 (refused_above_zero k)) refl

-- the walk where z steps are accepted and the steps rs are left
unfoldable pub walk_from : Board → List StepRecord → ℕ → Walked
walk_from b rs z = record { board = after b rs; count = z + zeros (answers b rs) }

pub walk_step : (b : Board) (r : StepRecord) (rs : List StepRecord) (z : ℕ) → walk_from (step b r).board rs (z + one_if (eqb (number_of (step b r).answer) 0)) ≡ walk_from b (r ∷ rs) z
unfolding walk_from after_all all_answers zeros
walk_step b r rs z = ap (λ (k : ℕ). record { board = after (step b r).board rs; count = k }) (one_more z (zeros (answers (step b r).board rs)) (eqb (number_of (step b r).answer) 0))

pub walk_none : (b : Board) (z : ℕ) → walk_from b [] z ≡ record { board = b; count = z }
unfolding walk_from after_all all_answers zeros
walk_none b z = ap (λ (k : ℕ). record { board = b; count = k }) (add-zero z)

walk_whole : (b : Board) (rs : List StepRecord) → walk_from b rs 0 ≡ walk_of b rs
unfolding walk_from walk_of
walk_whole b rs = ap (λ (k : ℕ). record { board = after b rs; count = k }) (zero-add (zeros (answers b rs)))

-- at the head of each turn, where the numbers that are left stand for the steps that are left
pub record WalkTurn (b₀ : Board) (xs : List ℕ) (b : Board) (count : ℕ) (rest : List ℕ) : Type 0 where
  pub counts : 4 * count + length rest ≤ length xs
  pub gives : walk_from b (records_in rest) count ≡ walk_of b₀ (records_in xs)

pub walk_begins : (b : Board) (xs : List ℕ) → WalkTurn b xs b 0 xs
walk_begins b xs = record { counts = omega arith; gives = walk_whole b (records_in xs) }

module _ {b₀ : Board} {xs : List ℕ} {b : Board} {count : ℕ} {rest : List ℕ} (t : WalkTurn b₀ xs b count rest) where
  pub turn_goes : (four behind : List ℕ) → rest ≡ four ++ behind → length four ≡ 4 → {o : Outcome} {k : ℕ} → o ≡ step b (record_of four) → k ≡ one_if (eqb (number_of o.answer) 0) → WalkTurn b₀ xs o.board (count + k) behind
  turn_goes four behind whole l {o} {k} e f = record {
    counts = omega (arith, t.counts, f, one_at_most (eqb (number_of o.answer) 0), ap length whole, length-append four behind, l);
    gives =
        ap (λ (j : ℕ). walk_from o.board (records_in behind) (count + j)) f
        ∙ ap (λ (p : Outcome). walk_from p.board (records_in behind) (count + one_if (eqb (number_of p.answer) 0))) e
        ∙ walk_step b (record_of four) (records_in behind) count
        ∙ ap (λ (rs : List StepRecord). walk_from b rs count) (sym (ap records_in whole ∙ records_four four behind l))
        ∙ t.gives;
  }

  pub turn_ends : length rest < 4 → record { board = b; count = count } ≡ walk_of b₀ (records_in xs)
  turn_ends l = sym (walk_none b count) ∙ ap (λ (rs : List StepRecord). walk_from b rs count) (sym (records_none rest l)) ∙ t.gives

-- the walk from a fresh board counts what is accepted
pub walk_counted : (n m d : ℕ) (rs : List StepRecord) {w : Walked} {b : Board} → w ≡ walk_of b rs → b ≡ tree_board n m d → w.count ≡ accepted_of n m d rs
unfolding walk_of
walk_counted n m d rs e f = ap (λ (x : Walked). x.count) e ∙ ap (λ (c : Board). zeros (answers c rs)) f

pub walk_board : (n m d : ℕ) (rs : List StepRecord) {w : Walked} {b : Board} → w ≡ walk_of b rs → b ≡ tree_board n m d → w.board ≡ after (tree_board n m d) rs
unfolding walk_of
walk_board n m d rs e f = ap (λ (x : Walked). x.board) e ∙ ap (λ (c : Board). after c rs) f
