-- The lines behind the first are left where that is accepted, and none where it is refused.
use Rattle.listing.proofs.StartLaws.{start_asked}
use Rattle.listing.proofs.endings.EndingLaws.{ending_is}
use Rattle.listing.proofs.endings.ending.Goals as goal

pub take_lines-requires : goal.take_lines-requires
take_lines-requires c = start_asked c.args.script.now c.start_outcome-o.ensures c.start_place.ensures

pub returns : goal.returns
returns c = ending_is c.args.script.now c.start_outcome-o.ensures c.start_place.ensures c.take_lines.ensures
