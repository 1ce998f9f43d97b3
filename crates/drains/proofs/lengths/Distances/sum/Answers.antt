-- The sum, part by part.
use Rattle.std.proofs.Common.{ap, ◌∙◌, arith}
use Rattle.drains.proofs.lengths.LengthLaws.{none_yet, one_more}
use Rattle.drains.proofs.lengths.Distances.sum.Goals as goal

pub loop-i-init : goal.loop-i-init
loop-i-init g c = none_yet _ _ _

pub loop-i-preserved : goal.loop-i-preserved
loop-i-preserved g c =
    one_more _ _ _ c.loop-i.i c.loop-i.sum c.steps_length-sum.result c.index-sources-i.result c.loop-i.invariant c.loop-i-test.true
    (c.steps_length-sum.ensures.exact ∙ ap (λ (x : g.row.S.Denot). g.S.Source.steps_length c.args.self.now c.loop-i.i x) c.index-sources-i.is) (omega (arith, c.steps_length-sum.ensures.few))
