use Rattle.std.proofs.Common.{refl, arith, length, length-append, ap, ◌∙◌}
use Rattle.std.proofs.lemmas.List.{length-set}
use Rattle.cal_base.specs.Limits.{file_blocks}
use Rattle.cal_fields.specs.BigEndian.{big_endian}
use Rattle.cal_fields.proofs.BigEndianLemmas.{length-big_endian}
use Rattle.inode.specs.Inode.{pointer_bytes}
use Rattle.inode.proofs.InodeLemmas.{pointers_all, pointers_more, small_set, small_zeros}
use Rattle.inode.proofs.read.pointers_of.Goals as goal

pub loop-place-init : goal.loop-place-init
unfolding pointer_bytes
loop-place-init c = record { read = refl; left = omega (arith, c.requires); size = refl; small = λ place. omega (arith, small_zeros file_blocks place) }

pub loop-place-preserved : goal.loop-place-preserved
loop-place-preserved c =
    let taken = rw c.unwrap.ensures at c.take_u16.ensures.taken in
    let left = c.loop-place.invariant.left in
    let size = c.loop-place.invariant.size in
    record {
      read = pointers_more c.args.bytes.now c.loop-place.pointers _ _ c.loop-place.place c.unwrap.result (omega arith) c.loop-place.invariant.read taken;
      left = omega (arith, ap length taken, length-append (big_endian 2 c.unwrap.result) c.take_u16.new.from.now, length-big_endian 2 c.unwrap.result);
      size = length-set c.loop-place.pointers c.loop-place.place c.unwrap.result ∙ size;
      small = small_set c.loop-place.pointers c.loop-place.place c.unwrap.result c.loop-place.invariant.small (omega arith);
    }

pub returns-clause-read : goal.returns-clause-read
returns-clause-read c =
    let left = c.loop-place.invariant.left in
    let size = c.loop-place.invariant.size in
    pointers_all c.args.bytes.now c.loop-place.pointers _ c.loop-place.place (omega arith) (omega arith) c.loop-place.invariant.read

pub returns-clause-in_range : goal.returns-clause-in_range
returns-clause-in_range c = c.loop-place.invariant.small
