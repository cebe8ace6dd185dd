use Rattle.std.proofs.Common.{sym, subst}
use Rattle.directory.specs.Directory.{IsDirectory}
use Rattle.directory.proofs.Directories.{directory_removed}
use Rattle.directory.proofs.dir_blocks.DirBlocks.clear.Goals as goal

pub invariant_of-self : goal.invariant_of-self
invariant_of-self c = subst IsDirectory (sym c.clear_any.ensures) (directory_removed c.self.inside.table c.args.place c.self.invariant)
