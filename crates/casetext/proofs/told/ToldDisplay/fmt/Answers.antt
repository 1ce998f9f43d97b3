-- A number is spelled as std writes it.
use Rattle.std.proofs.Common.{rules, arith}
use Rattle.casetext.proofs.SpelledLaws.{spelled_decimal}
use Rattle.casetext.proofs.told.ToldDisplay.fmt.Goals as goal

pub returns-in-Err-clause-writes : goal.returns-in-Err-clause-writes
returns-in-Err-clause-writes g c =
    rw (c.in-Err.is, spelled_decimal c.in-Err.k (omega arith)) (search rules)
