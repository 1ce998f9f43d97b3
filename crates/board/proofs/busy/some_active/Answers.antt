-- `any` answers whether some unit is active.
use Rattle.std.proofs.Common.{◌∙◌, rules}
use Rattle.std.proofs.lemmas.Iterator.{YieldsList-from_slice}
use Rattle.std.proofs.lemmas.Iterator.Search.{any_from_yields_List}
use borrow.Author.Tests.{tests}
use Rattle.rules.specs.Records.{is_active}
use Rattle.board.proofs.AnyLaws.{some_any}
use Rattle.board.proofs.busy.some_active.Goals as goal

pub returns : goal.returns
returns c =
    any_from_yields_List (λ u. is_active u.state) _ _ _ c.any.ensures.ran (YieldsList-from_slice c.args.units (cc)) (λ x b q k. search (rules, tests))
    ∙ some_any (λ u. is_active u.state) c.args.units
