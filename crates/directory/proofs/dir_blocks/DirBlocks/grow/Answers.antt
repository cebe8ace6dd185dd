use Rattle.std.proofs.Common.{◌<◌, length, sym, subst}
use Rattle.directory.specs.Directory.{IsDirectory}
use Rattle.directory.proofs.Edits.{directory_grown}
use Rattle.directory.proofs.dir_blocks.DirBlocks.grow.Goals as goal

pub invariant_of-self : goal.invariant_of-self
invariant_of-self c =
    let room : length c.self.inside.table < 1024 = rw c.self.view_is c.requires in
    subst IsDirectory (sym c.push_block.ensures) (directory_grown c.self.inside.table c.self.invariant room)
