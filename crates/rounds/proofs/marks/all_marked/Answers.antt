-- `all` answers whether the units in use are marked.
use Rattle.std.proofs.Common.{◌∙◌, rules}
use Rattle.std.proofs.lemmas.Iterator.{YieldsList-from_slice, YieldsList-from_take}
use Rattle.std.proofs.lemmas.Iterator.Search.{all_from_yields_List}
use borrow.Author.Tests.{tests}
use Rattle.rounds.proofs.marks.Marking.{marked_all}
use Rattle.rounds.proofs.marks.all_marked.Goals as goal

pub returns : goal.returns
returns c =
    all_from_yields_List (λ t. t) _ _ _ c.all.ensures.ran (YieldsList-from_take c.args.n (YieldsList-from_slice c.args.k.now.visited (cc)) (cc)) (λ x b q k. search (rules, tests))
    ∙ marked_all c.args.n c.args.k.now.visited
