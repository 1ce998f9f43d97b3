-- The two counting rounds (M-105): what they see of a board, their soundness, a beginning, a visit.
use Rattle.std.specs.Prelude.{◌≡◌, Bool, true, false, cond, ◌&&◌, List, [], ◌∷◌, ℕ, ◌+◌, length, get_or, set, replicate, ltb, eqb, Option, Some, None}
use Rattle.refusals.specs.declared.Refusal.TheVariants.{NoSuchUnit, NotToVisit, StillActive}
use Rattle.rules.specs.Facts.{Fact, below, at_most, equal, holds, fails, Claims, tests, Each, each, sum_of, Check, check}
use Rattle.rules.specs.Records.{Round, One, Two, Rounds, Finding, NoVerdict, AllQuiet, Unsettled}

-- what the rounds see: how many units are in use, and of each unit how often it created and processed work, and whether it is active
pub record Seen : Type 0 where
  pub n : ℕ
  pub created : ℕ → ℕ
  pub processed : ℕ → ℕ
  pub active : ℕ → Bool

abbrev pub is_open : Option Round → Bool
is_open None = false
is_open (Some One) = true
is_open (Some Two) = true

abbrev pub unmarked : List Bool
unmarked = replicate 64 false

-- no round open: no unit is visited, and both totals are 0
abbrev pub no_round : Rounds
no_round = record { round = None; visited = unmarked; processed = 0; created = 0 }

-- the sum of a count over the units that are marked, and over all
unfoldable pub marked_sum : (ℕ → ℕ) → List Bool → ℕ
marked_sum count marks = sum_of (λ i t. cond t (count i) 0) marks

unfoldable pub whole_sum : (ℕ → ℕ) → List Bool → ℕ
whole_sum count marks = sum_of (λ i t. count i) marks

-- ---- soundness
-- "with no round running none is visited", and entries from n on are not
abbrev pub mark_row : ℕ → Bool → ℕ → Bool → List Fact
mark_row n running i t = cond (running && ltb i n) [] (fails t ∷ [])

-- "a round's total is at most the present counts of the units it visited": with round one open, round two has visited none; with
-- round two open, round one has visited all. The sums: processed over all, processed over the marked, created over the marked
abbrev pub totals_by : ℕ → ℕ → ℕ → Rounds → Option Round → List Fact
totals_by whole processed created k None = equal k.processed 0 ∷ equal k.created 0 ∷ []
totals_by whole processed created k (Some One) = at_most k.processed processed ∷ equal k.created 0 ∷ []
totals_by whole processed created k (Some Two) = at_most k.processed whole ∷ at_most k.created created ∷ []

abbrev pub totals_row : Seen → Rounds → Option Round → List Fact
totals_row v k r = totals_by (whole_sum v.processed k.visited) (marked_sum v.processed k.visited) (marked_sum v.created k.visited) k r

pub record SoundRounds (v : Seen) (k : Rounds) : Type 0 where
  -- the marks have their length: what the record's type says, said of a list
  pub long : length k.visited ≡ 64
  pub marks : Each (mark_row v.n (is_open k.round)) k.visited
  pub totals : Claims (totals_row v k k.round)

-- the same, tested
abbrev pub rounds_row : Seen → Rounds → List Fact
rounds_row v k = equal (length k.visited) 64 ∷ holds (each (mark_row v.n (is_open k.round)) k.visited) ∷ holds (tests (totals_row v k k.round)) ∷ []

-- ---- a beginning: "opens round one and drops any round that was running"
abbrev pub begun : Rounds
begun = record { round = Some One; visited = unmarked; processed = 0; created = 0 }

-- ---- a visit of unit u
-- 13 unit not below n; 43 no round running or unit already visited in the open one; 42 unit active
abbrev pub visit_checks : Seen → Rounds → ℕ → List Check
visit_checks v k u =
    check (below u v.n) NoSuchUnit
    ∷ check (holds (is_open k.round)) NotToVisit
    ∷ check (fails (get_or k.visited u false)) NotToVisit
    ∷ check (fails (v.active u)) StillActive
    ∷ []

-- the unit is marked, and its count added to the open round's total: processed in round one, created in round two
abbrev pub tallied : Seen → Rounds → ℕ → Option Round → Rounds
tallied v k u None = k
tallied v k u (Some One) = record { round = Some One; visited = set k.visited u true; processed = k.processed + v.processed u; created = k.created }
tallied v k u (Some Two) = record { round = Some Two; visited = set k.visited u true; processed = k.processed; created = k.created + v.created u }

-- "visits every unit once": whether every unit in use is marked
unfoldable pub all_marked : ℕ → List Bool → Bool
all_marked n marks = each (λ i t. cond (ltb i n) (holds t ∷ []) []) marks

-- the last visit of round one opens round two; after that of round two no round runs
abbrev pub closed : Rounds → Option Round → Rounds
closed k None = k
closed k (Some One) = record { round = Some Two; visited = unmarked; processed = k.processed; created = 0 }
closed k (Some Two) = no_round

-- the last visit of round two "answers quiet if round one's processed total equals round two's created total, else unsettled"
abbrev pub closing : Rounds → Option Round → Finding
closing k None = NoVerdict
closing k (Some One) = NoVerdict
closing k (Some Two) = cond (eqb k.processed k.created) AllQuiet Unsettled

-- what an accepted visit leaves of the rounds, and what it finds: "every other visit answers no verdict yet"
abbrev pub left_of : ℕ → Rounds → Rounds
left_of n k = cond (all_marked n k.visited) (closed k k.round) k

abbrev pub found_of : ℕ → Rounds → Finding
found_of n k = cond (all_marked n k.visited) (closing k k.round) NoVerdict

unfoldable pub rounds_after : Seen → Rounds → ℕ → Rounds
rounds_after v k u = left_of v.n (tallied v k u k.round)

unfoldable pub found : Seen → Rounds → ℕ → Finding
found v k u = found_of v.n (tallied v k u k.round)
