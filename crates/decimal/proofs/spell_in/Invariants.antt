-- The digits that are left of the rest, and those that are written, are all of the number's.
use Rattle.std.proofs.Common.{◌≡◌, ◌++◌, ◌^◌, ◌<◌, length, drop}
use Rattle.decimal.specs.Spelling.{spell}
use Rattle.decimal.proofs.spell_in.Given as goal

abbrev pub invariant-loop-i : goal.invariant-loop-i
invariant-loop-i l =
    record {
      fits : l.rest < 10 ^ l.i;
      spelled : spell l.i l.rest ++ drop l.i l.digits ≡ spell (length l.fn.digits) l.n;
    }
