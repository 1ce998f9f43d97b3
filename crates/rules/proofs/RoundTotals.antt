-- The counting rounds (M-105) as they look at one state: what they see of it, what a visit finds, and what a step and a visit do to their totals.
use mathlib.Core.Path.{◌≡◌, refl, sym, subst, ◌∙◌}
use mathlib.Core.Bool.{Bool, true, false, cond}
use mathlib.Core.List.{List}
use Prim.Native.Nat.{ℕ, ◌+◌, ◌≤◌, ◌<◌, zero-le}
use native.Mathlib.Nat.{le_refl}
use native.Mathlib.Omega.{arith}
use native.Mathlib.Decide.{ℕ_discrete}
use lib.ListN.{length, get_or, set, length-set, get_or-replicate}
use lib.Seq.{get_or-set_other}
use lib.Dec.{eqb}
use borrow.Author.Tests.{eqb-true, eq-eqb}
use Rattle.std.specs.Prelude.{Option, Some, None}
use Rattle.rules.specs.Facts.{Claims}
use Rattle.rules.specs.Rounds.{Seen, is_open, unmarked, marked_sum, whole_sum, begun, visit_checks, tallied, all_marked, closed, left_of, found_of, found}
use Rattle.rules.proofs.FactLaws.{true_not_false, true_or_not, by_test, asked}
use Rattle.rules.proofs.Sheets.SoundLaws.{below_or_not}
use Rattle.rules.proofs.MarkLaws.{unmarked_sum, none_marked, marked_more, unmarked_less, marked_grows, whole_grows, marked_tight, whole_tight, marked_at, unmarked_none, marked_whole}
use Rattle.rules.specs.Records.{Round, One, Two, Rounds, Finding, NoVerdict, AllQuiet, Unsettled}

-- ---- what a visit leaves and finds
-- what it leaves of the rounds, by whether every unit is visited then
pub left_by : (P : Rounds → Type 0) (n : ℕ) (k : Rounds) → (all_marked n k.visited ≡ true → P (closed k k.round)) → P k → P (left_of n k)
left_by P n k f g = by_test (λ t. P (cond t (closed k k.round) k)) (all_marked n k.visited) f (λ e. g)

-- a verdict is given by the last visit of round two
record ByTotals (v : Seen) (k : Rounds) (u : ℕ) (x : Finding) (r : Option Round) : Type 0 where
  pub in_two : r ≡ Some Two
  pub all_visited : all_marked v.n (set k.visited u true) ≡ true
  pub by_totals : cond (eqb k.processed (k.created + v.created u)) AllQuiet Unsettled ≡ x

given_by_totals : (v : Seen) (k : Rounds) (u : ℕ) (x : Finding) (r : Option Round) → is_open r ≡ true → (NoVerdict ≡ x → ⊥) → found_of v.n (tallied v k u r) ≡ x → ByTotals v k u x r
given_by_totals v k u x None o n e = absurd (true_not_false (sym o))
given_by_totals v k u x (Some One) o n e =
    absurd (by_test (λ t. cond t NoVerdict NoVerdict ≡ x → ⊥) (all_marked v.n (set k.visited u true)) (λ q. n) (λ q. n) e)
given_by_totals v k u x (Some Two) o n e =
    by_test (λ t. cond t (cond (eqb k.processed (k.created + v.created u)) AllQuiet Unsettled) NoVerdict ≡ x → ByTotals v k u x (Some Two)) (all_marked v.n (set k.visited u true))
    (λ q f. record { in_two = refl; all_visited = q; by_totals = f }) (λ q f. absurd (n f)) e

-- quiet says that the totals are equal
quiet_equal : (a b : ℕ) → cond (eqb a b) AllQuiet Unsettled ≡ AllQuiet → a ≡ b
quiet_equal a b e = eqb-true a b (by_test (λ t. cond t AllQuiet Unsettled ≡ AllQuiet → t ≡ true) (eqb a b) (λ q f. refl) (λ q f. cc) e)

-- ---- what the rounds see of a state, and the rounds themselves
pub record Look : Type 0 where
  pub seen : Seen
  pub under_way : ℕ
  pub rounds : Rounds

-- no unit is active and no work is under way
pub record Still (x : Look) : Type 0 where
  pub none_active : (i : ℕ) → x.seen.active i ≡ false
  pub no_work : x.under_way ≡ 0

-- what the rounds need of a state
pub record Fair (x : Look) : Type 0 where
  pub long : length x.rounds.visited ≡ 64
  -- each unit in use has its mark
  pub few : x.seen.n ≤ 64
  pub past_created : (i : ℕ) → x.seen.n ≤ i → x.seen.created i ≡ 0
  pub past_processed : (i : ℕ) → x.seen.n ≤ i → x.seen.processed i ≡ 0
  pub past_active : (i : ℕ) → x.seen.n ≤ i → x.seen.active i ≡ false
  -- created = processed + work under way
  pub balance : whole_sum x.seen.created unmarked ≡ whole_sum x.seen.processed unmarked + x.under_way

-- what they need of an accepted step that is no start
pub record Stepped (x y : Look) : Type 0 where
  pub same_units : y.seen.n ≡ x.seen.n
  pub same_rounds : y.rounds ≡ x.rounds
  pub created_grows : (i : ℕ) → x.seen.created i ≤ y.seen.created i
  pub processed_grows : (i : ℕ) → x.seen.processed i ≤ y.seen.processed i
  -- a unit becomes active only where its processed count rises
  pub woken : (i : ℕ) → x.seen.active i ≡ false → y.seen.active i ≡ true → x.seen.processed i < y.seen.processed i
  -- only an active unit's created count rises
  pub by_active : (i : ℕ) → x.seen.active i ≡ false → y.seen.created i ≡ x.seen.created i

-- a beginning and a visit leave what the rounds see
pub record Unseen (x y : Look) : Type 0 where
  pub same_seen : y.seen ≡ x.seen
  pub same_work : y.under_way ≡ x.under_way

-- ---- still states
-- a state that looks the same is as still
pub still_unseen : {x y : Look} → Still x → Unseen x y → Still y
still_unseen h p = record { none_active = λ i. rw p.same_seen (h.none_active i); no_work = p.same_work ∙ h.no_work }

-- a refused event is a step that changes nothing
pub itself : (x : Look) → Stepped x x
itself x = record { same_units = refl; same_rounds = refl; created_grows = λ i. le_refl _; processed_grows = λ i. le_refl _; woken = λ i p q. absurd (true_not_false (sym q ∙ p)); by_active = λ i p. refl }

module _ (x y : Look) (p : Stepped x y) where
  -- an idle unit stays idle where its processed count stays
  not_woken : (i : ℕ) → x.seen.active i ≡ false → y.seen.processed i ≡ x.seen.processed i → y.seen.active i ≡ false
  not_woken i idle same = true_or_not (y.seen.active i) (λ e. absurd (omega (arith, p.woken i idle e))) (λ e. e)

  -- no unit is active, so no created count rises; by the balance no processed count does, and no work is under way
  pub still_stays : Fair x → Fair y → Still x → Unseen x y
  still_stays fs ft h = record {
    same_seen = λ j. record { n = p.same_units j; created = λ i. same_created i j; processed = λ i. same_processed i j; active = λ i. (not_woken i (h.none_active i) (same_processed i) ∙ sym (h.none_active i)) j };
    same_work = omega (arith, sums, fs.balance, ft.balance, whole_grows x.seen.processed y.seen.processed unmarked p.processed_grows, h.no_work);
  }
    where
      same_created : (i : ℕ) → y.seen.created i ≡ x.seen.created i
      same_created i = p.by_active i (h.none_active i)

      sums : whole_sum y.seen.created unmarked ≡ whole_sum x.seen.created unmarked
      sums = λ j. whole_sum (λ i. same_created i j) unmarked

      same_processed : (i : ℕ) → y.seen.processed i ≡ x.seen.processed i
      same_processed i =
          below_or_not i 64 (λ l. whole_tight x.seen.processed y.seen.processed unmarked p.processed_grows i (omega (arith, sums, fs.balance, ft.balance, h.no_work)) l)
          (λ l. ft.past_processed i (omega (arith, ft.few)) ∙ sym (fs.past_processed i (omega (arith, fs.few))))

-- ---- round one: its total is at most the present sum, and where it is no less, no visited unit is active
pub record RoundCounted (v : Seen) (k : Rounds) : Type 0 where
  pub at_most : k.processed ≤ marked_sum v.processed k.visited
  pub none_active : marked_sum v.processed k.visited ≤ k.processed → (i : ℕ) → i < length k.visited → get_or k.visited i false ≡ true → v.active i ≡ false

pub counted_begun : (v : Seen) → RoundCounted v begun
counted_begun v = record { at_most = zero-le; none_active = λ g i l m. absurd (true_not_false (sym m ∙ get_or-replicate 64 i false false l)) }

-- a visited unit that becomes active widens the gap
pub counted_step : (x y : Look) (k : Rounds) → Stepped x y → RoundCounted x.seen k → RoundCounted y.seen k
counted_step x y k p h = record {
  at_most = omega (arith, grown);
  none_active = λ g i l m.
      not_woken x y p i (h.none_active (omega (arith, grown)) i l m) (marked_tight x.seen.processed y.seen.processed k.visited p.processed_grows i (omega (arith, h.at_most)) l m);
}
  where
    grown : marked_sum x.seen.processed k.visited ≤ marked_sum y.seen.processed k.visited
    grown = marked_grows x.seen.processed y.seen.processed k.visited p.processed_grows

-- ---- round two: its total as it would be if the units left were visited now; no step lowers it, and a visit leaves it as it is
abbrev pub level : Seen → Rounds → ℕ
level v k = k.created + unmarked_sum v.created k.visited

-- ---- the totals since a beginning in a still state, by the round that is open
abbrev pub Exact : Seen → Rounds → Option Round → Type 0
Exact v k None = Unit {0}
Exact v k (Some One) = k.processed ≡ marked_sum v.processed k.visited
Exact v k (Some Two) = (k.processed ≡ whole_sum v.processed unmarked) × (k.created ≡ marked_sum v.created k.visited)

-- ---- an accepted visit
module _ (x : Look) (u : ℕ) (fs : Fair x) (c : Claims (asked (visit_checks x.seen x.rounds u))) where
  abbrev marks : List Bool
  marks = set x.rounds.visited u true

  -- the unit has a mark, which is free
  within : u < length x.rounds.visited
  within = omega (arith, fs.few, fs.long, c.0)

  more : (count : ℕ → ℕ) → marked_sum count marks ≡ marked_sum count x.rounds.visited + count u
  more count = marked_more count x.rounds.visited u within c.1.1.0

  pub less : (count : ℕ → ℕ) → unmarked_sum count marks + count u ≡ unmarked_sum count x.rounds.visited
  less count = unmarked_less count x.rounds.visited u within c.1.1.0

  whole_of : (count : ℕ → ℕ) → ((i : ℕ) → x.seen.n ≤ i → count i ≡ 0) → all_marked x.seen.n marks ≡ true → marked_sum count marks ≡ whole_sum count unmarked
  whole_of count past all = marked_whole x.seen.n marks all count past (length-set x.rounds.visited u true ∙ fs.long)

  -- the gap stays, and the unit is not active
  pub counted_visit : RoundCounted x.seen x.rounds → RoundCounted x.seen (tallied x.seen x.rounds u (Some One))
  counted_visit h = record {
    at_most = omega (arith, more x.seen.processed, h.at_most);
    none_active = λ g i l m. by_place (omega (arith, more x.seen.processed)) i (omega (arith, length-set x.rounds.visited u true)) m (ℕ_discrete i u);
  }
    where
      by_place : marked_sum x.seen.processed x.rounds.visited ≤ x.rounds.processed → (i : ℕ) → i < length x.rounds.visited → get_or marks i false ≡ true → Dec (i ≡ u) → x.seen.active i ≡ false
      by_place g i l m (yes e) = rw e c.1.1.1.0
      by_place g i l m (no e) = h.none_active g i l (sym (get_or-set_other x.rounds.visited u i true false e) ∙ m)

  -- all are visited, and no more was created than the total says: there is no gap, and no work under way
  pub counted_all : RoundCounted x.seen (tallied x.seen x.rounds u (Some One)) → all_marked x.seen.n marks ≡ true → whole_sum x.seen.created unmarked ≤ x.rounds.processed + x.seen.processed u → Still x
  counted_all h all l = record {
    none_active = λ i. below_or_not i x.seen.n (λ b. h.none_active (omega (arith, sums, fs.balance)) i (short i b) (marked_at x.seen.n marks all i b (short i b))) (fs.past_active i);
    no_work = omega (arith, sums, fs.balance, h.at_most);
  }
    where
      sums : marked_sum x.seen.processed marks ≡ whole_sum x.seen.processed unmarked
      sums = whole_of x.seen.processed fs.past_processed all

      short : (i : ℕ) → i < x.seen.n → i < length marks
      short i b = omega (arith, b, fs.few, fs.long, length-set x.rounds.visited u true)

  -- the total and the sum grow by the same count; the last visit of round one makes its sum the whole
  pub exact_visit : (r : Option Round) → is_open r ≡ true → Exact x.seen x.rounds r → Exact x.seen (left_of x.seen.n (tallied x.seen x.rounds u r)) (left_of x.seen.n (tallied x.seen x.rounds u r)).round
  exact_visit None o h = absurd (true_not_false (sym o))
  exact_visit (Some One) o h =
      left_by (λ k. Exact x.seen k k.round) x.seen.n (tallied x.seen x.rounds u (Some One))
      (λ all. (omega (arith, more x.seen.processed, whole_of x.seen.processed fs.past_processed all), sym (none_marked x.seen.created)))
      (omega (arith, more x.seen.processed))
  exact_visit (Some Two) o h = left_by (λ k. Exact x.seen k k.round) x.seen.n (tallied x.seen x.rounds u (Some Two)) (λ all. tt) (h.0, omega (arith, h, more x.seen.created))

  -- quiet: the level is round one's total, since no unit is left
  pub quiet_level : found x.seen x.rounds u ≡ AllQuiet → (x.rounds.round ≡ Some Two) × (level x.seen x.rounds ≤ x.rounds.processed)
  unfolding found
  quiet_level e =
      let d = given_by_totals x.seen x.rounds u AllQuiet x.rounds.round c.1.0 (λ z. let o : ◌≡◌ {A = ℕ} 0 1 = cc in omega arith) e in
      (d.in_two, omega (arith, less x.seen.created, unmarked_none x.seen.n marks d.all_visited x.seen.created fs.past_created, quiet_equal x.rounds.processed (x.rounds.created + x.seen.created u) d.by_totals))

  -- exact totals of a still state are equal
  pub exact_quiet : Still x → Exact x.seen x.rounds x.rounds.round → found x.seen x.rounds u ≡ Unsettled → ⊥
  unfolding found
  exact_quiet h now e =
      let d = given_by_totals x.seen x.rounds u Unsettled x.rounds.round c.1.0 (λ z. let o : ◌≡◌ {A = ℕ} 0 1 = cc in omega arith) e in
      let exact : Exact x.seen x.rounds (Some Two) = subst (Exact x.seen x.rounds) d.in_two now in
      let equal : x.rounds.processed ≡ x.rounds.created + x.seen.created u = omega (arith, exact, more x.seen.created, whole_of x.seen.created fs.past_created d.all_visited, fs.balance, h.no_work) in
      let o : ◌≡◌ {A = ℕ} 0 1 = cc (d.by_totals, eq-eqb _ _ equal) in omega arith
