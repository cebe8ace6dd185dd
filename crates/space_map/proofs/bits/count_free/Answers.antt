use Rattle.std.proofs.Common.{arith, refl}
use Rattle.space_map.specs.SpaceMap.{free_blocks}
use Rattle.space_map.proofs.FreeBlocks.{count_more}
use Rattle.space_map.proofs.bits.count_free.Goals as goal

pub loop-byte-init : goal.loop-byte-init
unfolding free_blocks
loop-byte-init c = record { count = refl; within = omega arith }

pub loop-byte-preserved : goal.loop-byte-preserved
loop-byte-preserved c =
    let small = c.type_inv.bytes c.loop-byte.byte-index in
    let more = count_more c.args.bytes.now c.loop-byte.byte-index _ c.loop-byte.count c.loop-byte-test.true refl (omega arith) c.loop-byte.invariant.count in
    record { count = more.1; within = (let before = c.loop-byte.invariant.within in omega arith) }
