use Rattle.std.proofs.Common.{◌∙◌}
use Rattle.cal_fields.proofs.BigEndianLemmas.{big_bytes-big_endian}
use Rattle.cal_fields.proofs.put.bytes_of_u16.Goals as goal

pub returns : goal.returns
returns c = c.write_u16.ensures ∙ big_bytes-big_endian 2 c.args.number
