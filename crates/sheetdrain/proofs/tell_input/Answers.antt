-- `tell_input`: what has reached the output of the bytes read is the line for the whole input.
use Rattle.std.proofs.Common.{rules}
use Rattle.reading.proofs.OutputLaws.{read_arrives}
use Rattle.sheetdrain.specs.Lines.{script_line}
use Rattle.sheetdrain.proofs.WholeLaws.{line_cut}
use Rattle.sheetdrain.proofs.tell_input.Goals as goal

pub returns : goal.returns
returns g c =
    read_arrives script_line 65535 line_cut _ _ _ _ c.read_input-read.new.buf (search rules) c.read_input-read.result c.tell_read.result c.read_input-read.ensures.bound c.read_input-read.ensures.bytes c.tell_read.ensures.told c.tell_read.ensures.bytes
