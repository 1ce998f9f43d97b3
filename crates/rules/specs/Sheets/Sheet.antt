-- A sheet: what a board holds but for its counting rounds, and how it is read.
use Rattle.std.specs.Prelude.{List, ℕ, get_or, Result}
use Rattle.refusals.specs.declared.Refusal.{Refusal}
use Rattle.rules.specs.Records.{blank_unit, blank_slot, UnitRecord, Slot, Counts}

pub record Sheet : Type 0 where
  pub n : ℕ
  pub m : ℕ
  pub delay : ℕ
  pub debt : ℕ
  pub parents : List ℕ
  pub units : List UnitRecord
  pub slots : List Slot
  pub created : List ℕ
  pub processed : List ℕ

-- the entries of a sheet by their numbers
abbrev pub parent_at : Sheet → ℕ → ℕ
parent_at b i = get_or b.parents i 0

abbrev pub unit_at : Sheet → ℕ → UnitRecord
unit_at b i = get_or b.units i blank_unit

abbrev pub slot_at : Sheet → ℕ → Slot
slot_at b j = get_or b.slots j blank_slot

abbrev pub counts_at : Sheet → ℕ → Counts
counts_at b i = record { created = get_or b.created i 0; processed = get_or b.processed i 0 }

-- what a step on a sheet gives: the sheet after it, and the answer
pub record Outcome : Type 0 where
  pub sheet : Sheet
  pub answer : Result (Unit {0}) Refusal
