-- On a sound board round one is open, any other is left.
use Rattle.std.proofs.Common.{◌≡◌, refl, true, false}
use Rattle.rules.specs.Sound.{sound}
use Rattle.rounds.proofs.BeginLaws.{begin_refused, begin_opened, begin_meets}
use Rattle.rounds.proofs.begin.Goals as goal

pub returns-then-not-is_sound : goal.returns-then-not-is_sound
returns-then-not-is_sound c =
    let so : sound c.args.b ≡ false = cc in
    let met = begin_meets c.args.b _ (begin_refused c.args.b so) in
    record { value = met.0; carries = met.1 }

pub returns : goal.returns
returns c =
    let so : sound c.args.b ≡ true = cc in
    let met = begin_meets c.args.b _ (begin_opened c.args.b _ so refl) in
    record { value = met.0; carries = met.1 }
