use Rattle.std.proofs.Common.{subst}
use Rattle.inode.specs.declared.inode.Inode.{Inode}
use Rattle.shared_disk.specs.Sectors.{written}
use Rattle.volume_edit.specs.Edit.{inode_at}
use Rattle.image.specs.FileRead.{AreFirstBytes}
use Rattle.image.proofs.Filling.{inode_fits, outside_bytes_behind}
use Rattle.image.proofs.Mounting.{on_ok}
use Rattle.image.proofs.file_read.read_file_behind.Goals as goal

pub read_blocks-requires-clause-fits : goal.read_blocks-requires-clause-fits
read_blocks-requires-clause-fits g c = inode_fits c.inode.result.now c.inode.ensures.inode

pub returns-clause-volume : goal.returns-clause-volume
returns-clause-volume g c = on_ok c.read_blocks.result (λ read s t.
    outside_bytes_behind s c.args.writes.now (inode_at c.args.image.now.inodes c.args.ino.0) c.read_blocks.new.into.items
    (subst (λ (x : Inode). AreFirstBytes (written s c.args.writes.now) x c.read_blocks.new.into.items) c.inode.ensures.at (read s t))) c.read_blocks.ensures.bytes
