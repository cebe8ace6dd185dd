use Rattle.std.proofs.Common.{sym, arith}
use Rattle.image.specs.Damage.{FirstBlock, FirstInode, FirstNode}
use Rattle.image.specs.Damage.FirstNode.{block, inode}
use Rattle.image.proofs.Fresh.{nodes_cleared}
use Rattle.image.proofs.Listing.{inodes_stand}
use Rattle.image.proofs.Reading.{reads_ok, reads_then, reads_widen, told_before}
use Rattle.image.proofs.read_lists.read_nodes.Goals as goal

pub read_directories-requires-clause-read : goal.read_directories-requires-clause-read
read_directories-requires-clause-read g c = λ s t. c.in-Ok.ensures.ok s (told_before _ (g.D.PortDisk.means c.args.disk.now) s (sym c.in-Ok.ensures.reads.same) t)

pub returns-in-Err-clause-reads : goal.returns-in-Err-clause-reads
returns-in-Err-clause-reads g c = reads_widen FirstInode FirstNode _ _ _ _ _ _ (λ s at t first. inode first) c.in-Err.ensures.reads

pub returns-in-Err-clause-nodes : goal.returns-in-Err-clause-nodes
returns-in-Err-clause-nodes g c = nodes_cleared _ _ c.clear_nodes.ensures.inodes c.clear_nodes.ensures.directories

pub returns-in-Ok-read_directories-clause-reads : goal.returns-in-Ok-read_directories-clause-reads
returns-in-Ok-read_directories-clause-reads g c =
    reads_then FirstNode _ _ _ _ _ _ _ _ (reads_ok FirstInode FirstNode _ _ _ _ _ c.in-Ok.ensures.reads) (reads_ok FirstBlock FirstNode _ _ _ _ _ c.in-Ok-read_directories.ensures.reads)

pub returns-in-Err-read_directories-clause-reads : goal.returns-in-Err-read_directories-clause-reads
returns-in-Err-read_directories-clause-reads g c =
    let count = c.in-Ok.ensures.count in
    reads_then FirstNode _ _ _ _ _ _ _ _ (reads_ok FirstInode FirstNode _ _ _ _ _ c.in-Ok.ensures.reads)
    (reads_widen FirstBlock FirstNode _ _ _ _ _ _ (λ s at t first. block (inodes_stand s _ 512 (omega arith) c.in-Ok.ensures.stand
    (c.in-Ok.ensures.ok s (told_before _ (g.D.PortDisk.means c.args.disk.now) s (sym c.in-Ok.ensures.reads.same) t))) first) c.in-Err-read_directories.ensures.reads)

pub returns-in-Err-read_directories-clause-nodes : goal.returns-in-Err-read_directories-clause-nodes
returns-in-Err-read_directories-clause-nodes g c = nodes_cleared _ _ c.clear_nodes-in-Err-read_directories.ensures.inodes c.clear_nodes-in-Err-read_directories.ensures.directories

pub returns-in-Ok-read_directories-clause-ok : goal.returns-in-Ok-read_directories-clause-ok
returns-in-Ok-read_directories-clause-ok g c = λ s t. c.in-Ok-read_directories.ensures.ok s (told_before (g.D.PortDisk.means c.args.disk.now) _ s c.in-Ok.ensures.reads.same t)
