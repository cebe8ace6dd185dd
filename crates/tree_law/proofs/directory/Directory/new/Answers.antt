use Rattle.tree_law.proofs.DirectoryNames.{none}
use Rattle.tree_law.proofs.directory.Directory.new.Goals as goal

pub returns : goal.returns
returns c = none _ c.new.ensures.empty
