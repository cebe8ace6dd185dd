use Rattle.std.proofs.Common.{arith, append-nil, sym}
use Rattle.inode.specs.Inode.{pointer_bytes}
use Rattle.inode.proofs.InodeLemmas.{put_more}
use Rattle.inode.proofs.write.put_pointers.Goals as goal

pub loop-pointer-init : goal.loop-pointer-init
unfolding pointer_bytes
loop-pointer-init c = record { put = sym (append-nil c.args.fields.now); length = omega arith }

pub loop-pointer-preserved : goal.loop-pointer-preserved
loop-pointer-preserved c = record {
  put = put_more c.args.fields.now _ _ c.args.pointers.now c.loop-pointer.pointer-index c.loop-pointer-test.true c.loop-pointer.invariant.put c.put_u16.ensures.fields;
  length = (let before = c.loop-pointer.invariant.length in let more = c.put_u16.ensures.length in omega arith);
}
