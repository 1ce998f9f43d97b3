-- A length that is told is that of the list that is shown.
use Rattle.std.proofs.Common.{sym, ◌∙◌}
use Rattle.drains.proofs.MeetLaws.{length_exact}
use Rattle.drains.proofs.longest_length.Goals as goal

pub returns-clause-exact : goal.returns-clause-exact
returns-clause-exact c = λ k q. length_exact c.args.b k (sym c.told_length.ensures ∙ q)
