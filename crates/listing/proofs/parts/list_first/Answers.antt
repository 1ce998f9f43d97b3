-- The laws of a call from the beginning, on what the calls gave.
use Rattle.listing.proofs.parts.CaseLaws.{start_27, start_asks, start_part}
use Rattle.listing.proofs.parts.list_first.Goals as goal

pub list_lines-p-requires : goal.list_lines-p-requires
list_lines-p-requires c = start_asks c.args.script.now c.args.out.now c.start_outcome-o.ensures c.write_first.ensures c.in-Ok.is c.start_place.ensures

pub returns-in-Ok : goal.returns-in-Ok
returns-in-Ok c = start_part c.args.script.now c.args.out.now c.start_outcome-o.ensures c.write_first.ensures c.in-Ok.is c.start_place.ensures c.list_lines-p.ensures

pub returns-in-Err : goal.returns-in-Err
returns-in-Err c = start_27 c.args.script.now c.args.out.now c.start_outcome-o.ensures c.write_first.ensures c.in-Err.is
