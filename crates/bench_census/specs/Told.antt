-- A census told as one number, for a caller that names the sort of boards to count.
use Rattle.std.specs.Prelude.{ℕ, zero, suc, Result, Ok, Err}
use Rattle.census.specs.declared.Ends.{Ends}
use Rattle.refusals.specs.declared.Refusal.{Refusal}
use Rattle.refusals.specs.Numbers.{number}

-- the count of one sort: 0 finished, 1 busy, from 2 on other
abbrev pub count_of_sort : ℕ → Ends → ℕ
count_of_sort zero e = e.finished
count_of_sort (suc zero) e = e.busy
count_of_sort (suc (suc k)) e = e.other

-- that count, or the number that refused the census
abbrev pub census_told : ℕ → Result Ends Refusal → ℕ
census_told k (Ok e) = count_of_sort k e
census_told k (Err j) = number j
