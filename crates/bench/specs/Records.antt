-- A list of numbers as step records: four numbers a record, in the order kind, unit, other, slot.
use Rattle.std.specs.Prelude.{List, [], ◌∷◌, ℕ, get_or}
use Rattle.rules.specs.declared.StepRecord.{StepRecord}

-- fewer than four numbers left over count as nothing
unfoldable pub records_in : List ℕ → List StepRecord
records_in [] = []
records_in (k ∷ []) = []
records_in (k ∷ u ∷ []) = []
records_in (k ∷ u ∷ v ∷ []) = []
records_in (k ∷ u ∷ v ∷ s ∷ more) = record { kind = k; unit = u; other = v; slot = s } ∷ records_in more

-- the record of four numbers
abbrev pub record_of : List ℕ → StepRecord
record_of xs = record { kind = get_or xs 0 0; unit = get_or xs 1 0; other = get_or xs 2 0; slot = get_or xs 3 0 }
