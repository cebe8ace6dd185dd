use Rattle.std.proofs.Common.{arith, length-append}
use Rattle.cal_fields.specs.BigEndian.{big_endian}
use Rattle.cal_fields.proofs.BigEndianLemmas.{length-big_endian}
use Rattle.request_log.proofs.write.why_size.Goals as goal

pub returns-in-NoSpace : goal.returns-in-NoSpace
returns-in-NoSpace c =
    rw c.in-NoSpace.is (omega (arith, length-append (big_endian 2 c.in-NoSpace.free) (big_endian 2 c.in-NoSpace.needed), length-big_endian 2 c.in-NoSpace.free, length-big_endian 2 c.in-NoSpace.needed))
