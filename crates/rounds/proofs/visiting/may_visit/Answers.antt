-- A unit in use of a sound board is one of 64.
use Rattle.std.proofs.Common.{◌≡◌, true}
use Rattle.rules.specs.Sound.{sound}
use Rattle.rounds.proofs.visiting.Room.{place}
use Rattle.rounds.proofs.visiting.may_visit.Goals as goal

pub bounds-b-i : goal.bounds-b-i
bounds-b-i c = rw c.from-i.ensures (place c.args.b.now c.args.u (cc) c.if-u-b.false)

pub bounds-b-i-2 : goal.bounds-b-i-2
bounds-b-i-2 c = rw c.from-i.ensures (place c.args.b.now c.args.u (cc) c.if-u-b.false)
