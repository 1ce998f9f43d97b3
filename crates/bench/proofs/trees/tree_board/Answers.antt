-- The part of the table that is lent is the tree's front.
use Rattle.std.proofs.Common.{ap, ◌∙◌, ℕ, min}
use Rattle.rules.specs.declared.Outcome.{Outcome}
use Rattle.bench.proofs.trees.TreeLaws.{front_opened}
use Rattle.bench.proofs.trees.tree_board.Goals as goal

pub returns : goal.returns
returns c =
    ap (λ (o : Outcome). o.board) c.open.ensures
    ∙ front_opened _ _ _ _ (c.min-parents.ensures ∙ ap (λ (k : ℕ). min k 63) (c.from.ensures ∙ c.saturating_sub.ensures))
