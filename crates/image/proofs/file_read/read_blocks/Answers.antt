use Rattle.std.proofs.Common.{◌≡◌, ◌<◌, ◌%◌, ◌/◌, ◌∙◌, ℕ, ap, arith, inl, refl, length, slice_index}
use Rattle.shared_disk.specs.Sectors.{written}
use Rattle.image.proofs.Filling.{holes_all, holes_more, holes_none, next_bytes, no_bytes}
use Rattle.image.proofs.Reading.{told_before}
use Rattle.image.proofs.file_read.read_blocks.Goals as goal

pub loop-into-preserved : goal.loop-into-preserved
loop-into-preserved g c =
    let i = c.loop-into.invariant in
    let now = c.in-Ok.ensures in
    let more = now.more in
    let whole = i.whole in
    let len = c.len.ensures in
    let first = c.len-in-loop-into.ensures in
    let second = c.len-in-loop-into-2.ensures in
    let least = c.min-count.ensures in
    let test = c.loop-into-test.true in
    let below : length c.loop-into.into.items < c.args.inode.now.size = omega arith in
    let blocks : length c.loop-into.into.items % 4096 ≡ 0 = i.whole below in
    let place : c.len-in-loop-into-2.result ≡ length c.loop-into.into.items = omega arith in
    let same = now.reads.same in
    let later = now.reads.later in
    let before = i.later in
    let capacity = now.capacity in
    let room = i.room in
    record {
      same = same ∙ i.same;
      later = omega arith;
      few = omega arith;
      whole = λ less. omega arith;
      room = omega arith;
      bytes = λ s t. next_bytes (written s c.args.writes.now) c.args.inode.now c.loop-into.into.items _ _ _ (i.bytes s t) blocks (omega arith)
          (ap (λ (n : ℕ). slice_index c.args.inode.now.blocks (n / 4096)) place) (now.block s (told_before (g.D.PortDisk.means c.args.disk.now) _ s i.same t));
      key = holes_more c.args.inode.now (length c.loop-into.into.items) _ _ (g.D.PortDisk.means c.args.disk.now) _ c.args.port.now.view i.same i.key blocks (omega arith)
          (ap (λ (n : ℕ). slice_index c.args.inode.now.blocks (n / 4096)) place) now.key;
    }

pub loop-into-init : goal.loop-into-init
loop-into-init g c =
    let none = ap length c.requires.empty in
    let room = c.requires.room in
    record {
      same = refl;
      later = omega arith;
      few = omega arith;
      whole = λ less. omega arith;
      room = room;
      bytes = λ s t. no_bytes (written s c.args.writes.now) c.args.inode.now c.args.into.now.items c.requires.empty;
      key = inl (holes_none c.args.inode.now c.args.into.now.items c.requires.empty);
    }

pub returns-clause-key : goal.returns-clause-key
returns-clause-key g c = holes_all c.args.inode.now (length c.loop-into.into.items) (g.D.PortDisk.means c.args.disk.now) c.args.port.now.view c.requires.inode (let test = c.loop-into-test.false in let len = c.len.ensures in omega arith) c.loop-into.invariant.key
