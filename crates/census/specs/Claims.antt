-- What is claimed of the census (M-106), for every n, M, d, parents and length, not only those that the call takes.
use Rattle.std.specs.Prelude.{◌≡◌, Bool, true, not, cond, ◌&&◌, List, [], ℕ, suc, ◌+◌, ◌*◌, ◌^◌, ◌≤◌, length, eqb, Result, Ok, Err}
use Rattle.refusals.specs.declared.Refusal.{Refusal}
use Rattle.refusals.specs.declared.Refusal.TheVariants.{CensusSize}
use Rattle.refusals.specs.Numbers.{number_of}
use Rattle.rules.specs.Facts.{sum_of, judge}
use Rattle.rules.specs.Actions.{action_of, kind_of}
use Rattle.rules.specs.Letters.{place_checks, used}
use Rattle.rules.specs.Opening.{opening}
use Rattle.rules.specs.Steps.{step}
use Rattle.rules.specs.Lists.{accepted}
use Rattle.rules.specs.declared.Board.{Board}
use Rattle.rules.specs.declared.StepRecord.{StepRecord}
use Rattle.census.specs.Choices.{seven_kinds, choices, choice_number}
use Rattle.rules.specs.Busy.{how_many, some}
use Rattle.census.specs.Counting.{ending_count, ends_from, census}
use Rattle.census.specs.Shares.{all_ends}

unfoldable pub ChoicesNumber : Type 0
ChoicesNumber = (n m : ℕ) → length (choices n m) ≡ choice_number n m

-- ---- the choices are the records in range, each once
-- a record in range: of one of the seven kinds, refused neither by 13 nor by 14, and with 0 in the fields that are not read
pub record InRange (n m : ℕ) (r : StepRecord) : Type 0 where
  pub kind : some (λ a. eqb r.kind (kind_of a)) seven_kinds ≡ true
  pub places : ◌≡◌ {A = Result (Unit {0}) Refusal} (judge Err (place_checks n m r (action_of r.kind)) (Ok tt)) (Ok tt)
  pub unused : used r ≡ r

abbrev pub same_step : StepRecord → StepRecord → Bool
same_step r q = eqb r.kind q.kind && eqb r.unit q.unit && eqb r.other q.other && eqb r.slot q.slot

-- how often a record stands in a list
abbrev pub times : StepRecord → List StepRecord → ℕ
times r rs = how_many (same_step r) rs

unfoldable pub ChoicesExact : Type 0
ChoicesExact = (n m : ℕ) (r : StepRecord) → (InRange n m r → times r (choices n m) ≡ 1) × ((InRange n m r → ⊥) → times r (choices n m) ≡ 0)

-- ---- the counts
-- "The three counts add up to that number to the power L"
unfoldable pub CountsAddUp : Type 0
CountsAddUp = (m d : ℕ) (ps : List ℕ) (k : ℕ) → number_of (opening m d ps).answer ≡ 0 → all_ends (ends_from (opening m d ps).board k) ≡ choice_number (suc (length ps)) m ^ k

-- a refused step leaves the board, so its lists are counted once for all refused choices; of any sort, on any board
abbrev pub refused_choices : Board → ℕ
refused_choices b = how_many (λ r. not (accepted b r)) (choices b.n b.m)

unfoldable pub CountsRecur : Type 0
CountsRecur =
    (is : Board → Bool) (b : Board) (k : ℕ)
    → ending_count is b (suc k)
    ≡ refused_choices b * ending_count is b k + sum_of (λ i r. cond (accepted b r) (ending_count is (step b r).board k) 0) (choices b.n b.m)

-- ---- the refusal
-- "46, a size or length beyond these or M of 0, before opening's own"
abbrev pub WithinSizes : ℕ → ℕ → List ℕ → ℕ → Type 0
WithinSizes m d ps k = (length ps ≤ 2) × (1 ≤ m) × (m ≤ 2) × (d ≤ 1) × (k ≤ 4)

unfoldable pub BeyondFirst : Type 0
BeyondFirst = (m d : ℕ) (ps : List ℕ) (k : ℕ) → (WithinSizes m d ps k → ⊥) → census m d ps k ≡ Err CensusSize

-- ---- rows
-- "For L = 0 they are 1, 0, 0"
unfoldable pub NoSteps : Type 0
NoSteps = (m d : ℕ) (ps : List ℕ) → number_of (opening m d ps).answer ≡ 0 → ends_from (opening m d ps).board 0 ≡ record { finished = 1; busy = 0; other = 0 }

-- "For n = 1, M = 1, L = 1 they are 6, 1, 0"
unfoldable pub OneStep : Type 0
OneStep = (d : ℕ) → number_of (opening 1 d []).answer ≡ 0 → ends_from (opening 1 d []).board 1 ≡ record { finished = 6; busy = 1; other = 0 }
