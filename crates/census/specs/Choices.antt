-- The steps to choose from (M-106): those of the seven kinds with every unit and slot in range, and all lists of them of one length.
use Rattle.std.specs.Prelude.{List, [], ◌∷◌, ℕ, zero, suc, ◌+◌, ◌*◌}
use Rattle.std.specs.List.{flat_map, range_with_len}
use Rattle.rules.specs.Actions.{kind_of}
use Rattle.rules.specs.Letters.{Place, among_units, among_slots, Letter, letters, with_field}
use Rattle.rules.specs.declared.StepRecord.{StepRecord}
use Rattle.rules.specs.declared.Action.{Action}
use Rattle.rules.specs.declared.Action.TheVariants.{Start, Send, Request as RequestStep, Deliver, Rest, Tick, Release}

-- "the seven kinds", listed here and not taken from the table of all kinds: one that is added there is not counted
abbrev pub seven_kinds : List Action
seven_kinds = Start ∷ Send ∷ RequestStep ∷ Deliver ∷ Rest ∷ Tick ∷ Release ∷ []

-- how many values a letter has
abbrev pub range_of : ℕ → ℕ → Place → ℕ
range_of n m among_units = n
range_of n m among_slots = m

-- how many values each field has in a step of kind k with these letters: one, 0, where the field has no letter
abbrev pub ranges_of : ℕ → ℕ → ℕ → List Letter → StepRecord
ranges_of n m k [] = record { kind = k; unit = 1; other = 1; slot = 1 }
ranges_of n m k (l ∷ ls) = with_field (ranges_of n m k ls) l.field (range_of n m l.place)

abbrev pub ranges : ℕ → ℕ → Action → StepRecord
ranges n m a = ranges_of n m (kind_of a) (letters a)

-- how many steps there are in such ranges
abbrev pub range_size : StepRecord → ℕ
range_size c = c.unit * (c.other * c.slot)

-- the lists that the elements of a list give, one behind the other, as loops are read
unfoldable pub for_each : {A B : Type 0} → List A → (A → List B) → List B
for_each xs f = flat_map f xs

-- every step of one kind whose fields lie in these ranges
unfoldable pub steps_in : StepRecord → List StepRecord
steps_in c =
    for_each (range_with_len 0 c.unit) (λ u.
    for_each (range_with_len 0 c.other) (λ v.
    for_each (range_with_len 0 c.slot) (λ s. record { kind = c.kind; unit = u; other = v; slot = s } ∷ [])))

unfoldable pub choices : ℕ → ℕ → List StepRecord
choices n m = for_each seven_kinds (λ a. steps_in (ranges n m a))

-- "The steps to choose from number 3n + n²M + M + 2nM"
abbrev pub choice_number : ℕ → ℕ → ℕ
choice_number n m = 3 * n + n * n * m + m + 2 * n * m

-- all lists of k choices; a step that is refused is a member like any other
unfoldable pub lists : List StepRecord → ℕ → List (List StepRecord)
lists cs zero = [] ∷ []
lists cs (suc k) = for_each cs (λ r. for_each (lists cs k) (λ rs. (r ∷ rs) ∷ []))
