-- The sums by the table of depths are the length.
use Rattle.std.proofs.Common.{◌+◌, ◌∙◌}
use Rattle.rules.specs.Boards.{view}
use Rattle.drains.proofs.lengths.LengthLaws.{all_lower, receivers_near, length_by_table}
use Rattle.drains.proofs.lengths.length_of.Goals as goal

pub depth_table-requires : goal.depth_table-requires
depth_table-requires c = all_lower (view c.args.b.now) c.requires.sheet

pub sum-requires-2-clause-within : goal.sum-requires-2-clause-within
sum-requires-2-clause-within c = receivers_near (view c.args.b.now) c.requires.sheet

pub returns : goal.returns
returns c =
    (λ i. c.sum.ensures.exact i + c.sum-2.ensures.exact i) ∙ length_by_table (view c.args.b.now) c.requires.sheet c.depth_table.result c.depth_table.ensures
