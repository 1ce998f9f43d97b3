-- On a sound board the weights are parts of the debt, and a processed count is far below 2^64.
use Rattle.rules.specs.Boards.{view}
use Rattle.rules.proofs.SoundLaws.{sound_claims}
use Rattle.rules.proofs.Sheets.SoundLaws.{weights_fit}
use Rattle.steps.proofs.Changing.{processed_room}
use Rattle.steps.proofs.found.Found.at.Goals as goal

pub invariant_of-result : goal.invariant_of-result
invariant_of-result c =
    let h = (sound_claims c.args.b.now c.requires.is_sound).sheet in
    record {
      weights_fit = weights_fit (view c.args.b.now) h c.args.at.unit c.args.at.slot;
      debt_fits = h.s5_s6_debt.1.0;
      processed_fits = processed_room (view c.args.b.now) h c.args.at.unit;
    }
