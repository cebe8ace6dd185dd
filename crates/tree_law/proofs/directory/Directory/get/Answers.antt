use Rattle.std.proofs.Common.{◌∙◌}
use Rattle.tree_law.proofs.DirectoryNames.{got}
use Rattle.tree_law.proofs.directory.Directory.get.Goals as goal

pub returns : goal.returns
returns c = rw (← c.self.view_is) (c.copied.ensures ∙ c.get.ensures.value ∙ got _ _ c.self.invariant)
