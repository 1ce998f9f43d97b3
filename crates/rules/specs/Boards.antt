-- A board: the sheet that it shows, and its counting rounds, which the sheet forgets.
use Rattle.std.specs.Prelude.{get_or}
use Rattle.rules.specs.Records.{is_active, Rounds, Board}
use Rattle.rules.specs.Rounds.{Seen}
use Rattle.rules.specs.Sheets.Sheet.{Sheet, unit_at}

abbrev pub view : Board → Sheet
view b = record {
  n = b.n;
  m = b.m;
  delay = b.delay;
  debt = b.debt;
  parents = b.parents;
  units = b.units;
  slots = b.slots;
  created = b.created;
  processed = b.processed;
}

-- the board of a sheet and of rounds
abbrev pub board_of : Sheet → Rounds → Board
board_of b k = record {
  n = b.n;
  m = b.m;
  delay = b.delay;
  debt = b.debt;
  parents = b.parents;
  units = b.units;
  slots = b.slots;
  created = b.created;
  processed = b.processed;
  rounds = k;
}

-- what the counting rounds see of a sheet
abbrev pub seen_of : Sheet → Seen
seen_of b = record { n = b.n; created = λ i. get_or b.created i 0; processed = λ i. get_or b.processed i 0; active = λ i. is_active (unit_at b i).state }
