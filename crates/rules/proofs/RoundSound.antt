-- Soundness of the counting rounds: its test and its claims agree; none open, one begun, one visited, and with counts that have grown, they are sound.
use mathlib.Core.Path.{◌≡◌, refl, sym, ◌∙◌}
use mathlib.Core.Bool.{Bool, true, false, cond, ◌&&◌}
use mathlib.Core.List.{[], ◌∷◌}
use Prim.Native.Nat.{ℕ, ◌+◌, ◌≤◌, zero-le}
use native.Mathlib.Omega.{arith}
use lib.ListN.{length, get_or, set, length-set, get_or-replicate}
use lib.Dec.{ltb}
use borrow.Author.Tests.{lt-ltb}
use Rattle.std.specs.Prelude.{Option, Some, None}
use Rattle.rules.specs.Facts.{fails, Claims, tests, Each}
use Rattle.rules.specs.Rounds.{Seen, is_open, unmarked, no_round, marked_sum, mark_row, totals_row, SoundRounds, rounds_row, begun, visit_checks, tallied, left_of, rounds_after}
use Rattle.rules.proofs.FactLaws.{true_not_false, by_test, asked, claims, claims_tested, each_claims, each_tested, each_of, each_set}
use Rattle.rules.proofs.MarkLaws.{both_sums, whole_length, marked_more, marked_grows, whole_grows}
use Rattle.rules.proofs.RoundTotals.{left_by}
use Rattle.rules.specs.Records.{Round, One, Two, Rounds}

-- ---- the test says true exactly where the rounds are sound
pub rounds_claims : (v : Seen) (k : Rounds) → tests (rounds_row v k) ≡ true → SoundRounds v k
rounds_claims v k e =
    let t = claims (rounds_row v k) e in
    record { long = t.0; marks = each_claims (mark_row v.n (is_open k.round)) k.visited t.1.0; totals = claims (totals_row v k k.round) t.1.1.0 }

pub rounds_tested : (v : Seen) (k : Rounds) → SoundRounds v k → tests (rounds_row v k) ≡ true
rounds_tested v k h =
    claims_tested (rounds_row v k) (h.long, (each_tested (mark_row v.n (is_open k.round)) k.visited h.marks, (claims_tested (totals_row v k k.round) h.totals, tt)))

-- ---- marks: none fits everywhere, one a unit in use while a round is open
unmarked_rows : (n : ℕ) (running : Bool) → Each (mark_row n running) unmarked
unmarked_rows n running =
    each_of (mark_row n running) unmarked false
    (λ i l. by_test (λ o. Claims (cond o [] (fails (get_or unmarked i false) ∷ []))) (running && ltb i n) (λ o. tt) (λ o. (get_or-replicate 64 i false false l, tt)))

-- ---- no round, and a round begun
pub none_sound : (v : Seen) → SoundRounds v no_round
none_sound v = record { long = refl; marks = unmarked_rows v.n false; totals = (refl, (refl, tt)) }

pub begun_sound : (v : Seen) → SoundRounds v begun
begun_sound v = record { long = refl; marks = unmarked_rows v.n true; totals = (zero-le, (refl, tt)) }

-- ---- counts that have grown
pub grown_sound : (v w : Seen) (k : Rounds) → w.n ≡ v.n → ((i : ℕ) → v.created i ≤ w.created i) → ((i : ℕ) → v.processed i ≤ w.processed i) → SoundRounds v k → SoundRounds w k
grown_sound v w k same created processed h = record { long = h.long; marks = rw same h.marks; totals = by_round k.round h.totals }
  where
    by_round : (r : Option Round) → Claims (totals_row v k r) → Claims (totals_row w k r)
    by_round None p = p
    by_round (Some One) p = (omega (arith, p, marked_grows v.processed w.processed k.visited processed), (p.1.0, tt))
    by_round (Some Two) p = (
      omega (arith, p, whole_grows v.processed w.processed k.visited processed),
      (omega (arith, p, marked_grows v.created w.created k.visited created), tt),
    )

-- ---- an accepted visit
module _ (v : Seen) (k : Rounds) (u : ℕ) (h : SoundRounds v k) (few : v.n ≤ 64) (c : Claims (asked (visit_checks v k u))) where
  more : (count : ℕ → ℕ) → marked_sum count (set k.visited u true) ≡ marked_sum count k.visited + count u
  more count = marked_more count k.visited u (omega (arith, c.0, few, h.long)) c.1.1.0

  marked_rows : Each (mark_row v.n true) k.visited → Each (mark_row v.n true) (set k.visited u true)
  marked_rows = each_set (mark_row v.n true) k.visited u true (rw (lt-ltb u v.n c.0) tt)

  as_long : length (set k.visited u true) ≡ 64
  as_long = length-set k.visited u true ∙ h.long

  visit_sound : (r : Option Round) → is_open r ≡ true → Each (mark_row v.n (is_open r)) k.visited → Claims (totals_row v k r) → SoundRounds v (left_of v.n (tallied v k u r))
  visit_sound None o m p = absurd (true_not_false (sym o))
  visit_sound (Some One) o m p =
      left_by (SoundRounds v) v.n (tallied v k u (Some One))
      (λ all.
      let whole = both_sums v.processed (set k.visited u true) in
      let same = whole_length v.processed (set k.visited u true) unmarked as_long in
      record { long = refl; marks = unmarked_rows v.n true; totals = (omega (arith, p, more v.processed, whole, same), (zero-le, tt)) })
      (record { long = as_long; marks = marked_rows m; totals = (omega (arith, p, more v.processed), (p.1.0, tt)) })
  visit_sound (Some Two) o m p =
      left_by (SoundRounds v) v.n (tallied v k u (Some Two)) (λ all. none_sound v)
      (record { long = as_long; marks = marked_rows m; totals = (omega (arith, p, whole_length v.processed (set k.visited u true) k.visited (length-set k.visited u true)), (omega (arith, p, more v.created), tt)) })

  pub visited_sound : SoundRounds v (rounds_after v k u)
  unfolding rounds_after
  visited_sound = visit_sound k.round c.1.0 h.marks h.totals
