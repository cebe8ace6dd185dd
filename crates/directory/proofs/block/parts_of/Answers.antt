use Rattle.std.proofs.Common.{◌≤◌, ◌∙◌, ◌++◌, ℕ, List, ap, arith, rules, length, length-append}
use Rattle.cal_fields.specs.BigEndian.{big_endian}
use Rattle.cal_fields.proofs.BigEndianLemmas.{length-big_endian}
use Rattle.directory.proofs.block.parts_of.Goals as goal

pub unwrap-count-requires : goal.unwrap-count-requires
unwrap-count-requires c =
    let first = rw c.unwrap-ino.ensures at c.take_u32.ensures.taken in
    let size : 1 ≤ length c.take_u32.new.from.now = omega (arith, ap length first, length-append (big_endian 4 c.unwrap-ino.result) c.take_u32.new.from.now, length-big_endian 4 c.unwrap-ino.result) in
    search rules

pub returns : goal.returns
returns c =
    let first = rw c.unwrap-ino.ensures at c.take_u32.ensures.taken in
    let second = rw c.unwrap-count.ensures at c.take_u8.ensures.taken in
    record {
      parts = first ∙ ap (λ (xs : List ℕ). big_endian 4 c.unwrap-ino.result ++ xs) second;
      length = omega (arith, ap length first, ap length second, length-append (big_endian 4 c.unwrap-ino.result) c.take_u32.new.from.now, length-big_endian 4 c.unwrap-ino.result);
    }
