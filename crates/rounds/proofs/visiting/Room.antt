-- On a sound board the totals of the rounds and the counts are far below 2^64: each is at most the created total, of 64 counts below 2^32.
use mathlib.Core.Path.{◌≡◌, refl}
use Prim.Native.Nat.{ℕ, ◌+◌, ◌*◌, ◌≤◌, ◌<◌, ◌^◌}
use native.Mathlib.Omega.{arith}
use lib.ListN.{get_or}
use Rattle.std.specs.Prelude.{true, Option, Some, None, Ok}
use Rattle.rules.specs.Facts.{Claims}
use Rattle.rules.specs.Records.{full}
use Rattle.rules.specs.declared.Round.{Round}
use Rattle.rules.specs.declared.Round.TheVariants.{One, Two}
use Rattle.rules.specs.declared.Rounds.{Rounds}
use Rattle.rules.specs.declared.Board.{Board}
use Rattle.rules.specs.Rounds.{marked_sum, whole_sum, totals_by}
use Rattle.rules.specs.Sheets.Sound.{Sound as SoundSheet, total}
use Rattle.rules.specs.Sheets.Sheet.{Sheet}
use Rattle.rules.specs.Boards.{view, seen_of}
use Rattle.rules.specs.Sound.{Sound, sound}
use Rattle.rules.specs.Visits.{visit_bracket}
use Rattle.rules.proofs.JudgeLaws.{checks_answer, answer_claims}
use Rattle.rules.proofs.SoundLaws.{sound_claims}
use Rattle.rules.proofs.SumLaws.{sum_part, sum_most, sum_listed}
use Rattle.rules.proofs.MarkLaws.{both_sums}
use Rattle.rules.proofs.Sheets.SoundLaws.{created_most}

-- ---- in every round its totals are at most the sums
totals_most : (whole processed created : ℕ) (k : Rounds) (r : Option Round) → processed ≤ whole → Claims (totals_by whole processed created k r) → (k.processed ≤ whole) × (k.created ≤ created)
totals_most whole processed created k None m c = (omega (arith, c.0), omega (arith, c.1.0))
totals_most whole processed created k (Some One) m c = (omega (arith, c.0, m), omega (arith, c.1.0))
totals_most whole processed created k (Some Two) m c = (c.0, c.1.0)

-- ---- the created total, and a processed count
created_total : (b : Sheet) → SoundSheet b → total b.created ≤ 64 * full
unfolding total
created_total b h = omega (arith, sum_most (λ j x. x) full b.created 0 (λ j l. created_most b h j), h.s1_sizes)

processed_part : (b : Sheet) (i : ℕ) → get_or b.processed i 0 ≤ total b.processed
unfolding total
processed_part b i = sum_part (λ j x. x) b.processed i 0 (λ j. refl)

-- ---- on a board
module _ (b : Board) (h : Sound b) where
  -- a sum over all units by their marks is the total of the counts: there are as many marks as counts
  whole_processed : whole_sum (seen_of (view b)).processed b.rounds.visited ≡ total b.processed
  unfolding whole_sum total
  whole_processed = sum_listed b.rounds.visited b.processed (omega (arith, h.rounds.long, h.sheet.s1_sizes))

  whole_created : whole_sum (seen_of (view b)).created b.rounds.visited ≡ total b.created
  unfolding whole_sum total
  whole_created = sum_listed b.rounds.visited b.created (omega (arith, h.rounds.long, h.sheet.s1_sizes))

  -- a sum over the marked units is at most that over all
  marked_whole : (count : ℕ → ℕ) → marked_sum count b.rounds.visited ≤ whole_sum count b.rounds.visited
  marked_whole count = omega (arith, both_sums count b.rounds.visited)

  -- so each round's total is at most the total of its counts
  totals_part : (b.rounds.processed ≤ total b.processed) × (b.rounds.created ≤ total b.created)
  totals_part =
      let t = totals_most _ _ _ b.rounds b.rounds.round (marked_whole (seen_of (view b)).processed) h.rounds.totals in
      (omega (arith, t.0, whole_processed), omega (arith, t.1, marked_whole (seen_of (view b)).created, whole_created))

  -- a visit's sums fit
  pub processed_room : (i : ℕ) → b.rounds.processed + get_or b.processed i 0 < 2 ^ 64
  processed_room i = omega (arith, totals_part.0, processed_part (view b) i, created_total (view b) h.sheet, h.sheet.counts_balance)

  pub created_room : (i : ℕ) → b.rounds.created + get_or b.created i 0 < 2 ^ 64
  created_room i = omega (arith, totals_part.1, created_total (view b) h.sheet, created_most (view b) h.sheet i)

-- ---- the place of a visit
-- a unit in use of a sound board is one of 64
pub place : (b : Board) (u : ℕ) → sound b ≡ true → u < b.n → u < 64
place b u so l = omega (arith, (sound_claims b so).sheet.s1_sizes)

-- where the bracket holds the board is sound, and the unit is in use
pub visit_sound : (b : Board) (u : ℕ) → checks_answer (visit_bracket b u) ≡ Ok tt → Sound b
visit_sound b u e = sound_claims b (answer_claims (visit_bracket b u) e).0

pub visit_place : (b : Board) (u : ℕ) → checks_answer (visit_bracket b u) ≡ Ok tt → u < 64
visit_place b u e =
    let c = answer_claims (visit_bracket b u) e in
    place b u c.0 c.1.0
