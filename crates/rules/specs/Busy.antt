-- Whether work is being done, as the census (M-106) and the longest drain (M-109) ask.
use Rattle.std.specs.Prelude.{Bool, not, ◌||◌, List, ℕ, eqb}
use Rattle.rules.specs.Facts.{one_if, sum_of}
use Rattle.rules.specs.Records.{is_active, is_work, Board}

-- how many elements of a list are such
unfoldable pub how_many : {A : Type 0} → (A → Bool) → List A → ℕ
how_many is xs = sum_of (λ i x. one_if (is x)) xs

abbrev pub some : {A : Type 0} → (A → Bool) → List A → Bool
some is xs = not (eqb (how_many is xs) 0)

-- "some unit is active or work is under way"
unfoldable pub is_busy : Board → Bool
is_busy b = some (λ u. is_active u.state) b.units || some (λ y. is_work y.kind) b.slots
