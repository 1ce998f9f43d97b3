-- `count_before`: the first place of the separator is as many bytes behind the start as stand before it.
use Rattle.std.proofs.Common.{rules, ◌==◌, ◌∙◌}
use borrow.Author.Tests.{tests}
use Rattle.std.proofs.lemmas.Iterator.{YieldsList-from_slice}
use Rattle.std.proofs.lemmas.Iterator.Search.{position_from_yields_List}
use Rattle.fields.proofs.PartLaws.{position_before}
use Rattle.fields.proofs.count_before.Goals as goal

pub returns : goal.returns
returns c =
    c.unwrap_or.ensures
    ∙ position_before c.args.e c.args.s.now
    (position_from_yields_List (λ x. x == c.args.e) _ _ c.position.result c.position.ensures.ran (YieldsList-from_slice c.args.s.now cc) (λ x b q k. search (rules, tests)))
