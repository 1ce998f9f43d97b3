-- The pass over the counts: what holds once i of them are passed, what counts that fit say of the next, and the verdict at the end.
use mathlib.Core.Path.{◌≡◌, refl, sym, ap, ◌∙◌}
use mathlib.Core.Bool.{Bool, true, false, cond}
use mathlib.Core.List.{List, [], ◌∷◌}
use Prim.Native.Nat.{ℕ, suc, ◌+◌, ◌*◌, ◌≤◌, ◌<◌}
use native.Mathlib.Numerals.{add-one}
use native.Mathlib.Omega.{arith}
use lib.ListN.{length, get_or, take}
use lib.Seq.{take_all}
use borrow.Author.Count.{below_none, below_more}
use Rattle.std.specs.Prelude.{Option, Some, None, is_some}
use Rattle.rules.specs.declared.Round.{Round}
use Rattle.rules.specs.declared.Round.TheVariants.{One, Two}
use Rattle.rules.specs.Facts.{Fact, at_most, equal, Claims, tests, sum_of}
use Rattle.rules.specs.Records.{full}
use Rattle.rules.specs.declared.Board.{Board}
use Rattle.rules.specs.Sheets.Sound.{created_row, processed_row, total}
use Rattle.rules.specs.Rounds.{Seen, is_open, marked_sum, whole_sum, mark_row, totals_by, totals_row, rounds_row}
use Rattle.rules.proofs.FactLaws.{claims, claims_tested, each_claims, each_tested, each_at, each_of}
use Rattle.rules.proofs.SumLaws.{sum_listed, sum_taken, sum_front, sum_most}
use Rattle.rules.proofs.SoundLaws.{below_or_not}
use Rattle.rules.proofs.Sheets.SoundLaws.{row_in_use, row_past}
use Rattle.board.proofs.TestLaws.{false_not_true, refuted, passed}
use Rattle.board.specs.Passes.{count_row, seen_by, counts_row}

-- a round is open where there is one
pub open_is : (r : Option Round) → is_some r ≡ is_open r
open_is None = refl
open_is (Some One) = refl
open_is (Some Two) = refl

-- a created count that fits is at most what it may be
created_most : (n i c : ℕ) → Claims (created_row n i c) → c ≤ full
created_most n i c h = below_or_not i n (λ l. (row_in_use i n (at_most c full ∷ []) (equal c 0 ∷ []) l h).0) (λ l. omega (arith, row_past i n (at_most c full ∷ []) (equal c 0 ∷ []) l h))

-- a marked count is at most the count
marked_part : (t : Bool) (x : ℕ) → cond t x 0 ≤ x
marked_part true x = omega arith
marked_part false x = omega arith

-- the counts and the mark of unit i
abbrev made_by : Board → ℕ → ℕ
made_by b i = get_or b.created i 0

abbrev done_by : Board → ℕ → ℕ
done_by b i = get_or b.processed i 0

abbrev mark_of : Board → ℕ → Bool
mark_of b i = get_or b.rounds.visited i false

-- what is asked of them, and of all
abbrev pub unit_counts : Board → ℕ → List Fact
unit_counts b i = count_row b.n (is_open b.rounds.round) i (made_by b i) (done_by b i) (mark_of b i)

abbrev pub board_counts : Board → ℕ → List Fact
board_counts b work = counts_row b.n b.created b.processed b.rounds work

abbrev seen_on : Board → Seen
seen_on b = seen_by b.n b.created b.processed

-- ---- once i units are passed
pub record CountsSeen (b : Board) (made done marked-made marked-done i : ℕ) : Type 0 where
  pub made_long : length b.created ≡ 64
  pub done_long : length b.processed ≡ 64
  -- a turn tells it, of what the type says
  pub marks_long : 0 < i → length b.rounds.visited ≡ 64
  pub within : i ≤ 64
  pub seen : (j : ℕ) → j < i → Claims (unit_counts b j)
  pub made_is : made ≡ total (take i b.created)
  pub done_is : done ≡ total (take i b.processed)
  pub marked_made_is : marked-made ≡ marked_sum (made_by b) (take i b.rounds.visited)
  pub marked_done_is : marked-done ≡ marked_sum (done_by b) (take i b.rounds.visited)
  pub made_most : made ≤ i * full
  pub marked_made_most : marked-made ≤ made
  pub marked_done_most : marked-done ≤ done

pub none_seen : (b : Board) → length b.created ≡ 64 → length b.processed ≡ 64 → CountsSeen b 0 0 0 0 0
unfolding total marked_sum sum_of
none_seen b made_long done_long = record {
  made_long = made_long;
  done_long = done_long;
  marks_long = λ l. absurd (omega arith);
  within = omega arith;
  seen = below_none (λ j. Claims (unit_counts b j));
  made_is = refl;
  done_is = refl;
  marked_made_is = refl;
  marked_done_is = refl;
  made_most = omega arith;
  marked_made_most = omega arith;
  marked_done_most = omega arith;
}

total_next : (xs : List ℕ) (i : ℕ) → i < length xs → total (take (suc i) xs) ≡ total (take i xs) + get_or xs i 0
unfolding total
total_next xs i l = sum_taken (λ j x. x) xs i 0 l

marked_next : (count : ℕ → ℕ) (marks : List Bool) (i : ℕ) → i < length marks → marked_sum count (take (suc i) marks) ≡ marked_sum count (take i marks) + cond (get_or marks i false) (count i) 0
unfolding marked_sum
marked_next count marks i l = sum_taken (λ j t. cond t (count j) 0) marks i false l

module _ {b : Board} {made done marked-made marked-done i : ℕ} (h : CountsSeen b made done marked-made marked-done i) where
  pub one_more : {more-made more-done : ℕ} → length b.rounds.visited ≡ 64 → more-made ≡ marked-made + cond (mark_of b i) (made_by b i) 0 → more-done ≡ marked-done + cond (mark_of b i) (done_by b i) 0
      → i < 64 → Claims (unit_counts b i) → CountsSeen b (made + made_by b i) (done + done_by b i) more-made more-done (i + 1)
  one_more marks_long p q l fits = record {
    made_long = h.made_long;
    done_long = h.done_long;
    marks_long = λ l. marks_long;
    within = omega arith;
    seen = below_more (λ j. Claims (unit_counts b j)) i h.seen fits;
    made_is = rw (add-one i) (omega (arith, h.made_is, h.made_long, total_next b.created i));
    done_is = rw (add-one i) (omega (arith, h.done_is, h.done_long, total_next b.processed i));
    marked_made_is = rw (add-one i) (omega (arith, p, h.marked_made_is, marks_long, marked_next (made_by b) b.rounds.visited i));
    marked_done_is = rw (add-one i) (omega (arith, q, h.marked_done_is, marks_long, marked_next (done_by b) b.rounds.visited i));
    made_most = omega (arith, h.made_most, created_most b.n i (made_by b i) (claims (created_row b.n i (made_by b i)) fits.0));
    marked_made_most = omega (arith, p, h.marked_made_most, marked_part (mark_of b i) (made_by b i));
    marked_done_most = omega (arith, q, h.marked_done_most, marked_part (mark_of b i) (done_by b i));
  }

  -- where all counts fit, so do those of unit i
  pub next_fits : length b.rounds.visited ≡ 64 → (work : ℕ) → i < 64 → Claims (board_counts b work) → Claims (unit_counts b i)
  next_fits marks_long work l c = (
    claims_tested (created_row b.n i (made_by b i)) (each_at (created_row b.n) b.created i 0 (omega (arith, h.made_long)) (each_claims (created_row b.n) b.created c.0)),
    (
      claims_tested (processed_row b.n i (done_by b i)) (each_at (processed_row b.n) b.processed i 0 (omega (arith, h.done_long)) (each_claims (processed_row b.n) b.processed c.1.0)),
      (
        claims_tested (mark_row b.n (is_open b.rounds.round) i (mark_of b i)) (each_at (mark_row b.n (is_open b.rounds.round)) b.rounds.visited i false (omega (arith, marks_long))
            (each_claims (mark_row b.n (is_open b.rounds.round)) b.rounds.visited (claims (rounds_row (seen_on b) b.rounds) c.1.1.1.0).1.0)),
        tt,
      ),
    ),
  )

  -- processed counts that pass 64 bits pass every created total
  pub never_wraps : (work : ℕ) → i < 64 → 18446744073709551615 < done + done_by b i → Claims (board_counts b work) → ⊥
  unfolding total
  never_wraps work l w c =
      omega (
        arith,
        w,
        h.done_is,
        h.made_long,
        total_next b.processed i (omega (arith, h.done_long)),
        sum_front (λ j x. x) b.processed (suc i),
        c.1.1.0,
        sum_most (λ j x. x) full b.created 0 (λ j q. created_most b.n j (get_or b.created j 0) (each_at (created_row b.n) b.created j 0 q (each_claims (created_row b.n) b.created c.0))),
      )

  -- ---- once all are passed
  module _ (all : 64 ≤ i) where
    marks_long : length b.rounds.visited ≡ 64
    marks_long = h.marks_long (omega arith)

    made_whole : made ≡ total b.created
    made_whole = h.made_is ∙ ap total (take_all i b.created (omega (arith, h.made_long)))

    done_whole : done ≡ total b.processed
    done_whole = h.done_is ∙ ap total (take_all i b.processed (omega (arith, h.done_long)))

    marked_whole : (count : ℕ → ℕ) → marked_sum count (take i b.rounds.visited) ≡ marked_sum count b.rounds.visited
    marked_whole count = ap (marked_sum count) (take_all i b.rounds.visited (omega (arith, marks_long)))

    whole_done : whole_sum (done_by b) b.rounds.visited ≡ done
    unfolding whole_sum total
    whole_done = sum_listed b.rounds.visited b.processed (omega (arith, h.done_long, marks_long)) ∙ sym done_whole

    -- the totals of the rounds decide
    same_totals : tests (totals_by done marked-done marked-made b.rounds b.rounds.round) ≡ tests (totals_row (seen_on b) b.rounds b.rounds.round)
    same_totals =
        ap (λ (x : ℕ). tests (totals_by x marked-done marked-made b.rounds b.rounds.round)) (sym whole_done)
        ∙ ap (λ (x : ℕ). tests (totals_by (whole_sum (done_by b) b.rounds.visited) x marked-made b.rounds b.rounds.round)) (h.marked_done_is ∙ marked_whole (done_by b))
        ∙ ap (λ (x : ℕ). tests (totals_by (whole_sum (done_by b) b.rounds.visited) (marked_sum (done_by b) b.rounds.visited) x b.rounds b.rounds.round)) (h.marked_made_is ∙ marked_whole (made_by b))

    pub balanced : (work : ℕ) (r : Bool) → made ≡ done + work → r ≡ tests (totals_by done marked-done marked-made b.rounds b.rounds.round) → r ≡ tests (board_counts b work)
    balanced work r e t = by_test r (t ∙ same_totals)
      where
        by_test : (q : Bool) → q ≡ tests (totals_row (seen_on b) b.rounds b.rounds.round) → q ≡ tests (board_counts b work)
        by_test true z =
            passed (board_counts b work) (
              each_tested (created_row b.n) b.created (each_of (created_row b.n) b.created 0 (λ j l. claims (created_row b.n j (made_by b j)) (h.seen j (omega (arith, h.made_long))).0)),
              (
                each_tested (processed_row b.n) b.processed (each_of (processed_row b.n) b.processed 0 (λ j l. claims (processed_row b.n j (done_by b j)) (h.seen j (omega (arith, h.done_long))).1.0)),
                (
                  omega (arith, e, made_whole, done_whole),
                  (
                    claims_tested (rounds_row (seen_on b) b.rounds) (
                      marks_long,
                      (
                        each_tested (mark_row b.n (is_open b.rounds.round)) b.rounds.visited
                            (each_of (mark_row b.n (is_open b.rounds.round)) b.rounds.visited false (λ j l. claims (mark_row b.n (is_open b.rounds.round) j (mark_of b j)) (h.seen j (omega (arith, marks_long))).1.1.0)),
                        (sym z, tt),
                      ),
                    ),
                    tt,
                  ),
                ),
              ),
            )
        by_test false z = refuted (board_counts b work) (λ c. false_not_true _ (sym z) (claims (rounds_row (seen_on b) b.rounds) c.1.1.1.0).1.1.0)
