-- `all` answers whether each parent is below its unit.
use Rattle.std.proofs.Common.{ℕ, ◌∙◌, rules}
use lib.Dec.{leb}
use Rattle.std.proofs.lemmas.Iterator.{YieldsList-from_slice}
use Rattle.std.proofs.lemmas.Iterator.Consumers.{YieldsList-from_enumerate}
use Rattle.std.proofs.lemmas.Iterator.Search.{all_from_yields_List}
use borrow.Author.Tests.{tests}
use Rattle.board.proofs.opening.OpeningLaws.{lower_all}
use Rattle.board.proofs.opening.are_lower.Goals as goal

pub returns : goal.returns
returns c =
    all_from_yields_List (λ (p : ℕ × ℕ). leb p.1 p.0) _ _ _ c.all.ensures.ran (YieldsList-from_enumerate (YieldsList-from_slice c.args.parents.now (cc)) (cc)) (λ x b q k. search (rules, tests))
    ∙ lower_all c.args.parents.now
