use Rattle.directory.proofs.Directories.{directory_replaced}
use Rattle.directory.proofs.dir_blocks.DirBlocks.replace.Goals as goal

pub invariant_of-self : goal.invariant_of-self
invariant_of-self c = directory_replaced c.self.inside.table _ _ _ c.self.invariant c.requires.from_one c.requires.to_511 c.set_ino.ensures
