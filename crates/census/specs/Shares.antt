-- The counts of a census as shares of all its lists.
use Rattle.std.specs.Prelude.{ℕ, ◌+◌, ◌*◌, ◌/◌}
use Rattle.census.specs.declared.Ends.{Ends}
use Rattle.census.specs.declared.PerMille.{PerMille}

-- how many lists there are
abbrev pub all_ends : Ends → ℕ
all_ends e = e.finished + e.busy + e.other

-- a part of a whole in thousandths, tenths of a percent, to the nearest, a half up; 0 of nothing
abbrev pub share_of : ℕ → ℕ → ℕ
share_of part whole = (2000 * part + whole) / (2 * whole)

abbrev pub shares_of : Ends → PerMille
shares_of e = record { finished = share_of e.finished (all_ends e); busy = share_of e.busy (all_ends e); other = share_of e.other (all_ends e) }
