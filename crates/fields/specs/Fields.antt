-- Bytes up to a separator and past it; the fields of a line, parted by tabs.
use Rattle.std.specs.Prelude.{cond, List, [], ◌∷◌, ℕ, zero, suc, ◌+◌, ◌-◌, length, drop, eqb, leb}

-- the bytes before the first separator e, all of them where there is none
unfoldable pub up_to : ℕ → List ℕ → List ℕ
up_to e [] = []
up_to e (c ∷ cs) = cond (eqb c e) [] (c ∷ up_to e cs)

-- the bytes after it, none where there is none
unfoldable pub past : ℕ → List ℕ → List ℕ
past e [] = []
past e (c ∷ cs) = cond (eqb c e) cs (past e cs)

-- how often e stands in the bytes
unfoldable pub count_of : ℕ → List ℕ → ℕ
count_of e [] = 0
count_of e (c ∷ cs) = cond (eqb c e) (suc (count_of e cs)) (count_of e cs)

abbrev pub tab : ℕ
tab = 9

-- field k, from 0, and where it starts; past the last field that is the empty part at the line's end
unfoldable pub field_of : ℕ → List ℕ → List ℕ
field_of zero l = up_to tab l
field_of (suc k) l = field_of k (past tab l)

unfoldable pub field_start : ℕ → List ℕ → ℕ
field_start zero l = 0
field_start (suc k) l = (length l - length (past tab l)) + field_start k (past tab l)

unfoldable pub field_count : List ℕ → ℕ
field_count l = suc (count_of tab l)

-- the place of the first separator e at or after a place, or the end
unfoldable pub end_from : ℕ → ℕ → List ℕ → ℕ
end_from e from l = cond (leb from (length l)) (from + length (up_to e (drop from l))) (length l)
