-- `list_input`: what was handed over and has reached the output of the bytes read is that of the whole input.
use Rattle.std.proofs.Common.{rules}
use Rattle.listing.specs.Scripts.{listing}
use Rattle.reading.proofs.OutputLaws.{read_arrives}
use Rattle.sheetboard.proofs.WholeLaws.{listing_cut, lists_read}
use Rattle.sheetboard.proofs.list_input.Goals as goal

pub returns-clause-handed : goal.returns-clause-handed
returns-clause-handed g c =
    lists_read _ _ c.read_input-read.new.buf _ (search rules) c.read_input-read.result c.list_read.result c.read_input-read.ensures.bound c.read_input-read.ensures.bytes c.list_read.ensures.told c.list_read.ensures.handed

pub returns-clause-bytes : goal.returns-clause-bytes
returns-clause-bytes g c =
    read_arrives listing 65535 listing_cut _ _ _ _ c.read_input-read.new.buf (search rules) c.read_input-read.result c.list_read.result c.read_input-read.ensures.bound c.read_input-read.ensures.bytes c.list_read.ensures.told c.list_read.ensures.bytes
