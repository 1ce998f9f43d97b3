-- What a step changes, from what it finds at its places alone.
-- For private contracts only; a reader of the claim may skip this.
use Rattle.std.specs.Prelude.{◌≡◌, ℕ, ◌+◌, min, Result, Err}
use Rattle.refusals.specs.declared.Refusal.{Refusal}
use Rattle.rules.specs.Facts.{judge}
use Rattle.rules.specs.Letters.{place_checks}
use Rattle.rules.specs.Effects.{record_rule, created_by, processed_by, change_of}
use Rattle.rules.specs.Records.{full}
use Rattle.rules.specs.Sheets.Sheet.{Sheet, unit_at, parent_at, slot_at, counts_at}
use Rattle.rules.specs.Sheets.Steps.{stored}
use Rattle.rules.specs.Boards.{view}
use Rattle.rules.specs.Steps.{on_board}
use Rattle.rules.specs.declared.Board.{Board}
use Rattle.rules.specs.declared.Outcome.{Outcome}
use Rattle.rules.specs.declared.UnitRecord.{UnitRecord}
use Rattle.rules.specs.declared.Slot.{Slot}
use Rattle.rules.specs.declared.StepRecord.{StepRecord}
use Rattle.rules.specs.declared.Action.{Action}
use Rattle.rules.specs.declared.Effect.{Effect}
use Rattle.rules.specs.declared.Counts.{Counts}
use Rattle.rules.specs.declared.Change.{Change}
use Rattle.steps.specs.declared.found.Found.{Found}
use Rattle.steps.specs.declared.places.Places.{Places}

-- what stands on a sheet at a step's places, and its debt and its delay
pub record FoundAt (b : Sheet) (at : Places) (f : Found) : Type 0 where
  pub unit : f.unit ≡ unit_at b at.unit
  pub parent : f.parent ≡ parent_at b at.unit
  pub counts : f.counts ≡ counts_at b at.unit
  pub slot : f.slot ≡ slot_at b at.slot
  pub debt : f.debt ≡ b.debt
  pub delay : f.delay ≡ b.delay

-- the bracket of a step on a sound board, then what its effect leaves; p is the unit's parent
abbrev pub effect_on : ℕ → ℕ → ℕ → ℕ → StepRecord → UnitRecord → ℕ → Slot → ℕ → Action → Result Effect Refusal
effect_on n m debt delay r x p y made a = judge Err (place_checks n m r a) (record_rule debt delay r x p y made a)

-- the counts after an accepted step; a full count, which no accepted step raises, stays
abbrev pub counted_up : Counts → Slot → Action → Counts
counted_up k y a = record { created = min (k.created + created_by a) full; processed = k.processed + processed_by y a }

abbrev pub change_at : ℕ → ℕ → ℕ → ℕ → StepRecord → UnitRecord → ℕ → Slot → Counts → Action → Change
change_at n m debt delay r x p y k a = change_of (effect_on n m debt delay r x p y k.created a) x p y debt k (counted_up k y a)

-- the outcome that a change makes of a board where it is stored; an accepted start drops the rounds
abbrev pub stored_on : Board → Action → Places → Change → Outcome
stored_on b a at c = on_board b.rounds a (stored (view b) at.unit at.slot c)
