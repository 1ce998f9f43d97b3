-- The effect is the one of the places and the rule, and the counts are those of its action.
use Rattle.steps.proofs.Changing.{effect_placed}
use Rattle.steps.proofs.found.Found.change.Goals as goal

pub returns : goal.returns
returns c =
    let a = c.args in
    let f = a.self in
    rw (c.change_of.ensures, c.and.ensures, c.effect-effect.ensures, c.counted_up-counts.ensures, effect_placed a.n a.m f.debt f.delay a.r f.unit f.parent f.slot f.counts.created a.a _ c.in_use.ensures)
