use Rattle.std.proofs.Common.{◌+◌, ℕ, arith, sym}
use Rattle.std.proofs.lemmas.List.{length-set}
use Rattle.inode.specs.Inode.{SpellsInode}
use Rattle.inode.specs.declared.inode.Inode.{Inode}
use Rattle.journal.specs.Layout.{sector}
use Rattle.image.specs.Damage.{FirstInode, LacksInode}
use Rattle.image.specs.Mount.{MayStand}
use Rattle.image.proofs.Listing.{each_more, inodes_stand}
use Rattle.image.proofs.Reading.{reads_from, reads_ok, reads_widen, told_before}
use Rattle.image.proofs.read_lists.read_inodes.Goals as goal

pub returns-in-Err-clause-reads : goal.returns-in-Err-clause-reads
returns-in-Err-clause-reads g c =
    let i = c.loop-number.invariant in
    let count = i.count in
    let test = c.loop-number-test.true in
    reads_from FirstInode _ _ _ _ _ _ _ _ i.same i.later (reads_widen (LacksInode c.loop-number.number) FirstInode _ _ _ _ _ _ (λ s at t lacks. record {
      number = c.loop-number.number;
      within = test;
      before = inodes_stand s c.loop-number.inodes c.loop-number.number (omega arith) i.stand (i.read s (told_before _ _ s (sym i.same) t));
      lacks = lacks;
    }) c.in-Err.ensures.reads)

pub loop-number-preserved : goal.loop-number-preserved
loop-number-preserved g c =
    let i = c.loop-number.invariant in
    let count = i.count in
    let test = c.loop-number-test.true in
    let now = c.in-Ok.ensures in
    let reads = reads_from FirstInode _ _ _ _ _ _ _ _ i.same i.later (reads_ok (LacksInode c.loop-number.number) FirstInode _ _ _ _ _ now.reads) in
    record {
      reads = λ some. reads;
      same = reads.same;
      later = reads.later;
      read = λ s t. each_more (λ (n : ℕ) (x : Inode). SpellsInode (sector s (36 + n)) x) c.loop-number.inodes c.loop-number.number _ (now.ok s (told_before (g.D.PortDisk.means c.args.disk.now) _ s i.same t)) (i.read s t);
      stand = each_more MayStand c.loop-number.inodes c.loop-number.number _ now.stands i.stand;
      count = (let size = length-set c.loop-number.inodes c.loop-number.number c.load_inode.new.inode in omega arith);
    }

pub returns-clause-ok : goal.returns-clause-ok
returns-clause-ok g c = λ s t number inode below.
    let test = c.loop-number-test.false in
    c.loop-number.invariant.read s t number inode (omega arith)

pub returns-clause-stand : goal.returns-clause-stand
returns-clause-stand g c = λ number inode below.
    let test = c.loop-number-test.false in
    c.loop-number.invariant.stand number inode (omega arith)
