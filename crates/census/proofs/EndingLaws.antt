-- How many lists of one length leave a board of a sort: by the first step, and at most as many as there are.
use mathlib.Core.Path.{◌≡◌, refl, sym, ap, ◌∙◌}
use mathlib.Core.Bool.{Bool, not, cond}
use mathlib.Core.List.{List, [], ◌∷◌}
use Prim.Native.Nat.{ℕ, zero, suc, ◌+◌, ◌*◌, ◌^◌, ◌≤◌}
use native.Mathlib.Nat.{add_comm, mul_comm, pow-suc, pow-zero}
use native.Mathlib.Omega.{arith}
use lib.ListN.{length, get_or}
use borrow.Author.Tests.{eqb-false}
use Rattle.std.specs.Prelude.{Err}
use Rattle.refusals.specs.declared.Refusal.TheVariants.{NotSound}
use Rattle.rules.specs.Facts.{one_if, sum_of}
use Rattle.rules.specs.Sound.{sound}
use Rattle.rules.specs.Events.{after_all}
use Rattle.rules.specs.Sheets.Steps.{sound_step as sheet_sound_step, applied}
use Rattle.rules.specs.Steps.{sound_step, step}
use Rattle.rules.specs.Lists.{accepted, after}
use Rattle.rules.specs.declared.Board.{Board}
use Rattle.rules.specs.declared.StepRecord.{StepRecord}
use Rattle.rules.proofs.FactLaws.{by_test}
use Rattle.rules.proofs.SumLaws.{sum_plus, sum_most}
use Rattle.rules.proofs.Views.{refused_keeps}
use Rattle.census.specs.Choices.{for_each, choices, lists}
use Rattle.rules.specs.Busy.{how_many}
use Rattle.census.specs.Counting.{ending_count}
use Rattle.census.specs.Claims.{CountsRecur}
use Rattle.census.proofs.ForEachLaws.{sum_same, sum_parts, length_for_each}

-- the choices on a board
abbrev pub choices_on : Board → List StepRecord
choices_on b = choices b.n b.m

-- a step leaves the numbers of units and slots, so the choices stay
pub same_sizes : (b : Board) (r : StepRecord) → ((step b r).board.n ≡ b.n) × ((step b r).board.m ≡ b.m)
unfolding step sound_step sheet_sound_step applied
same_sizes b r =
    by_test (λ t. let c : Board = (cond t (sound_step b r) (record { answer = Err NotSound; board = b })).board in (c.n ≡ b.n) × (c.m ≡ b.m)) (sound b) (λ e. (refl, refl)) (λ e. (refl, refl))

-- ---- the lists of one length: their number, and a sum over them by the first step
pub length_lists : (cs : List StepRecord) (k : ℕ) → length (lists cs k) ≡ length cs ^ k
unfolding lists
length_lists cs zero = sym (pow-zero (length cs))
length_lists cs (suc k) =
    length_for_each (length cs ^ k) cs _ (λ r. length_for_each 1 (lists cs k) _ (λ rs. refl) ∙ omega (arith, length_lists cs k))
    ∙ mul_comm (length cs) (length cs ^ k)
    ∙ sym (pow-suc (length cs) k)

pub ending_none : (is : Board → Bool) (b : Board) → ending_count is b 0 ≡ one_if (is b)
unfolding ending_count how_many lists sum_of after_all
ending_none is b = omega arith

-- of the lists that begin with one step
by_first :
    (is : Board → Bool) (b : Board) (k : ℕ) (r : StepRecord)
    → sum_of (λ i rs. one_if (is (after b rs))) (for_each (lists (choices_on b) k) (λ rs. (r ∷ rs) ∷ [])) ≡ ending_count is (step b r).board k
unfolding ending_count how_many sum_of after_all
by_first is b k r =
    sum_parts (λ rs. one_if (is (after b rs))) (λ rs. one_if (is (after (step b r).board rs))) (lists (choices_on b) k) (λ rs. (r ∷ rs) ∷ []) (λ rs. omega arith)
    ∙ ap (λ (cs : List StepRecord). sum_of (λ i rs. one_if (is (after (step b r).board rs))) (lists cs k)) (λ j. choices (sym (same_sizes b r).0 j) (sym (same_sizes b r).1 j))

pub ending_next : (is : Board → Bool) (b : Board) (k : ℕ) → ending_count is b (suc k) ≡ sum_of (λ i r. ending_count is (step b r).board k) (choices_on b)
unfolding ending_count how_many lists
ending_next is b k =
    sum_parts (λ rs. one_if (is (after b rs))) (λ r. ending_count is (step b r).board k) (choices_on b) (λ r. for_each (lists (choices_on b) k) (λ rs. (r ∷ rs) ∷ [])) (by_first is b k)

-- ---- the recursion: a refused step leaves the board
-- what an accepted choice counts for, and what a refused one
abbrev pub accepted_choice : (Board → Bool) → Board → ℕ → StepRecord → ℕ
accepted_choice is b k r = cond (accepted b r) (ending_count is (step b r).board k) 0

abbrev pub refused_choice : Board → StepRecord → ℕ
refused_choice b r = one_if (not (accepted b r))

both_parts : (is : Board → Bool) (b : Board) (k : ℕ) (r : StepRecord) → ending_count is (step b r).board k ≡ accepted_choice is b k r + refused_choice b r * ending_count is b k
both_parts is b k r =
    by_test (λ t. ending_count is (step b r).board k ≡ cond t (ending_count is (step b r).board k) 0 + one_if (not t) * ending_count is b k) (accepted b r) (λ e. omega arith)
    (λ e. ap (λ (c : Board). ending_count is c k) (refused_keeps b r (eqb-false _ _ e)) ∙ omega arith)

pub counts_recur : CountsRecur
unfolding CountsRecur how_many
counts_recur is b k =
    ending_next is b k
    ∙ sum_same (λ r. ending_count is (step b r).board k) (λ r. accepted_choice is b k r + refused_choice b r * ending_count is b k) (choices_on b) (both_parts is b k)
    ∙ sum_plus (λ i r. accepted_choice is b k r) (λ i r. refused_choice b r) (ending_count is b k) (choices_on b)
    ∙ add_comm _ _

-- ---- a count is at most the number of lists
pub ending_most : (is : Board → Bool) (b : Board) (k : ℕ) → ending_count is b k ≤ length (choices_on b) ^ k
unfolding ending_count how_many
ending_most is b k =
    let ends : ℕ → Board = λ i. after b (get_or (lists (choices_on b) k) i []) in
    let one = sum_most (λ i rs. one_if (is (after b rs))) 1 (lists (choices_on b) k) [] (λ i l. by_test (λ t. one_if t ≤ 1) (is (ends i)) (λ e. omega arith) (λ e. omega arith)) in
    omega (arith, one, length_lists (choices_on b) k)
