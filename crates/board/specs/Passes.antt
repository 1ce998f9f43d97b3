-- What the two passes of the soundness test say of a board, in the words of the rules.
-- For private contracts only; a reader of the claim may skip this.
use Rattle.std.specs.Prelude.{◌≡◌, Bool, false, List, [], ◌∷◌, ℕ, ◌+◌, ◌<◌, length, get_or, take, Option, Some, None}
use Rattle.rules.specs.Facts.{Fact, at_most, equal, holds, tests, each, one_if}
use Rattle.rules.specs.Sheets.Sheet.{Sheet, parent_at}
use Rattle.rules.specs.Sheets.Sound.{sizes, parent_row, unit_row, slot_row_on, pending, units_weight, slots_weight, work_under_way, created_row, processed_row, total}
use Rattle.rules.specs.Records.{ceiling}
use Rattle.rules.specs.Rounds.{Seen, mark_row, rounds_row}
use Rattle.rules.specs.declared.Kind.{Kind}
use Rattle.rules.specs.declared.Kind.TheVariants.{Empty, Work, Return, Request, Supply}
use Rattle.rules.specs.declared.UnitRecord.{UnitRecord}
use Rattle.rules.specs.declared.Slot.{Slot}
use Rattle.rules.specs.declared.Rounds.{Rounds}

-- the ranges of a board's numbers, without the lengths of its arrays, which its type says
abbrev pub ranges_row : Sheet → List Fact
ranges_row b = at_most b.debt ceiling ∷ take 5 (sizes b)

-- the unit that a slot is a request from or a supply to
abbrev pub pends_for : Slot → Kind → Option ℕ
pends_for y Empty = None
pends_for y Work = None
pends_for y Return = None
pends_for y Request = Some y.from
pends_for y Supply = Some y.to

-- what is asked of all slots together: each fits, and their weight is at most the debt
abbrev pub slots_row : Sheet → List Fact
slots_row b = holds (each (slot_row_on b) b.slots) ∷ at_most (slots_weight b.slots) b.debt ∷ []

-- what they leave of the debt, how many of them are work, and how many pend for each unit
pub record AreTotals (b : Sheet) (left work : ℕ) (counts : List ℕ) : Type 0 where
  pub leaves : left + slots_weight b.slots ≡ b.debt
  pub worked : work ≡ work_under_way b.slots
  pub counted : (i : ℕ) → i < 64 → get_or counts i 0 ≡ pending b.slots i

-- what is asked of unit i, of its parent entry p, and of the number of slots that are pending for it
abbrev pub entry_row : ℕ → ℕ → ℕ → UnitRecord → ℕ → ℕ → List Fact
entry_row n delay i u p count = holds (tests (unit_row n delay i u)) ∷ holds (tests (parent_row n i p)) ∷ equal count (one_if u.suspended) ∷ []

-- what is asked of all units together, where so much is left of the debt and so many slots are pending for each: each fits, and their weight
-- is what is left
abbrev pub units_row : Sheet → ℕ → List ℕ → List Fact
units_row b left counts = holds (each (λ i u. entry_row b.n b.delay i u (parent_at b i) (get_or counts i 0)) b.units) ∷ equal (units_weight b.units) left ∷ []

-- ---- counts
-- what is asked of the counts of unit i, and of its mark, where a round is running or none
abbrev pub count_row : ℕ → Bool → ℕ → ℕ → ℕ → Bool → List Fact
count_row n running i c p t = holds (tests (created_row n i c)) ∷ holds (tests (processed_row n i p)) ∷ holds (tests (mark_row n running i t)) ∷ []

-- what the rounds see of these counts; whether a unit is active is not asked
abbrev pub seen_by : ℕ → List ℕ → List ℕ → Seen
seen_by n created processed = record { n = n; created = λ i. get_or created i 0; processed = λ i. get_or processed i 0; active = λ i. false }

-- what is asked of all counts and of the rounds, where so much work is under way
abbrev pub counts_row : ℕ → List ℕ → List ℕ → Rounds → ℕ → List Fact
counts_row n created processed k work =
    holds (each (created_row n) created)
    ∷ holds (each (processed_row n) processed)
    ∷ equal (total created) (total processed + work)
    ∷ holds (tests (rounds_row (seen_by n created processed) k))
    ∷ []
