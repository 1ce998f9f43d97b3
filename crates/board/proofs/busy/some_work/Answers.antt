-- `any` answers whether some slot is work.
use Rattle.std.proofs.Common.{◌∙◌, rules}
use Rattle.std.proofs.lemmas.Iterator.{YieldsList-from_slice}
use Rattle.std.proofs.lemmas.Iterator.Search.{any_from_yields_List}
use borrow.Author.Tests.{tests}
use Rattle.rules.specs.Records.{is_work}
use Rattle.board.proofs.AnyLaws.{some_any}
use Rattle.board.proofs.busy.some_work.Goals as goal

pub returns : goal.returns
returns c =
    any_from_yields_List (λ y. is_work y.kind) _ _ _ c.any.ensures.ran (YieldsList-from_slice c.args.slots (cc)) (λ x b q k. search (rules, tests))
    ∙ some_any (λ y. is_work y.kind) c.args.slots
