use Rattle.std.proofs.Common.{sym, arith}
use Rattle.cal_fields.proofs.BigEndianLemmas.{big_endian-number}
use Rattle.cal_fields.proofs.take.number_u32.Goals as goal

pub returns : goal.returns
returns c = rw c.read_u32.ensures (sym (big_endian-number 4 c.args.bytes.now c.requires (λ i. omega (arith, c.type_inv.bytes i))))
