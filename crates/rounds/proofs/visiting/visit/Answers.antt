-- The outcome of the visit on its own board.
use Rattle.std.proofs.Common.{sym}
use Rattle.rounds.proofs.visiting.VisitLaws.{visit_meets}
use Rattle.rounds.proofs.visiting.visit.Goals as goal

pub returns : goal.returns
returns c = visit_meets c.args.b c.args.u _ (sym c.visit_lent-finding.ensures)
