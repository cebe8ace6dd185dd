use Rattle.std.proofs.Common.{◌∙◌}
use Rattle.tree_law.proofs.DirectoryNames.{counted}
use Rattle.tree_law.proofs.directory.Directory.len.Goals as goal

pub returns : goal.returns
returns c = rw (← c.self.view_is) (c.len.ensures.len ∙ counted _ c.self.invariant)
