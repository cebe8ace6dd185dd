use Rattle.std.proofs.Common.{◌≤◌, ap, arith, rules, length, length-append}
use Rattle.cal_fields.specs.BigEndian.{big_endian}
use Rattle.cal_fields.proofs.BigEndianLemmas.{length-big_endian}
use Rattle.request_log.proofs.read.head_of.Goals as goal

pub unwrap-flush-requires : goal.unwrap-flush-requires
unwrap-flush-requires c =
    let first = rw c.unwrap-purged.ensures at c.take_u8.ensures.taken in
    let second = rw c.unwrap-call.ensures at c.take_u64.ensures.taken in
    let size : 8 ≤ length c.take_u64.new.from.now = omega (arith, ap length first, ap length second, length-append (big_endian 8 c.unwrap-call.result) c.take_u64.new.from.now, length-big_endian 8 c.unwrap-call.result) in
    search rules

pub unwrap-size-requires : goal.unwrap-size-requires
unwrap-size-requires c =
    let first = rw c.unwrap-purged.ensures at c.take_u8.ensures.taken in
    let second = rw c.unwrap-call.ensures at c.take_u64.ensures.taken in
    let third = rw c.unwrap-flush.ensures at c.take_u64-2.ensures.taken in
    let size : 2 ≤ length c.take_u64-2.new.from.now = omega (
      arith,
      ap length first,
      ap length second,
      length-append (big_endian 8 c.unwrap-call.result) c.take_u64.new.from.now,
      length-big_endian 8 c.unwrap-call.result,
      ap length third,
      length-append (big_endian 8 c.unwrap-flush.result) c.take_u64-2.new.from.now,
      length-big_endian 8 c.unwrap-flush.result,
    ) in
    search rules

pub returns-clause-length : goal.returns-clause-length
returns-clause-length c =
    let first = rw c.unwrap-purged.ensures at c.take_u8.ensures.taken in
    let second = rw c.unwrap-call.ensures at c.take_u64.ensures.taken in
    let third = rw c.unwrap-flush.ensures at c.take_u64-2.ensures.taken in
    let fourth = rw c.unwrap-size.ensures at c.take_u16.ensures.taken in
    omega (
      arith,
      ap length first,
      ap length second,
      length-append (big_endian 8 c.unwrap-call.result) c.take_u64.new.from.now,
      length-big_endian 8 c.unwrap-call.result,
      ap length third,
      length-append (big_endian 8 c.unwrap-flush.result) c.take_u64-2.new.from.now,
      length-big_endian 8 c.unwrap-flush.result,
      ap length fourth,
      length-append (big_endian 2 c.unwrap-size.result) c.take_u16.new.from.now,
      length-big_endian 2 c.unwrap-size.result,
    )
