use Rattle.image.proofs.Lookups.{inode_read}
use Rattle.image.proofs.image.Image.inode.Goals as goal

pub returns-clause-inode : goal.returns-clause-inode
returns-clause-inode c = inode_read _ c.args.ino.0 _ c.self.invariant.volume c.requires c.index.ensures
