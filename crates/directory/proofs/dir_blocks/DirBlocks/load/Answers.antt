use Rattle.std.proofs.Common.{◌<◌, length}
use Rattle.directory.proofs.Directories.{directory_loaded}
use Rattle.directory.proofs.dir_blocks.DirBlocks.load.Goals as goal

pub invariant_of-self : goal.invariant_of-self
invariant_of-self c =
    let room : length c.self.inside.table < 1024 = rw c.self.view_is c.requires in
    directory_loaded c.self.inside.table _ _ c.self.invariant room c.in-Ok.ensures.ok
