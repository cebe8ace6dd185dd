use Rattle.std.proofs.Common.{arith, length, length-append, ap}
use Rattle.cal_fields.specs.BigEndian.{big_endian}
use Rattle.cal_fields.proofs.BigEndianLemmas.{length-big_endian}
use Rattle.inode.proofs.read.fields_of.Goals as goal

pub pointers_of-blocks-requires : goal.pointers_of-blocks-requires
pointers_of-blocks-requires c =
    let kind = rw c.unwrap-kind_byte.ensures at c.take_u8.ensures.taken in
    let named = rw c.unwrap-named_byte.ensures at c.take_u8-2.ensures.taken in
    let size = rw c.unwrap-size.ensures at c.take_u32.ensures.taken in
    omega (arith, ap length kind, ap length named, ap length size, length-append (big_endian 4 c.unwrap-size.result) c.take_u32.new.from.now, length-big_endian 4 c.unwrap-size.result)
