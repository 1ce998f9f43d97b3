-- A step by its number is found by division.
use Rattle.std.proofs.Common.{sym}
use Rattle.census.proofs.choices.RangeLaws.{step_in_at}
use Rattle.census.proofs.choices.step_in.Goals as goal

pub returns : goal.returns
returns c = sym (step_in_at c.args.ranges c.args.i c.requires.2)
