use Rattle.image.proofs.FreshMade.{root_put}
use Rattle.image.proofs.made.clear_inodes.Goals as goal

pub returns : goal.returns
returns c = root_put _ _ _ c.free_inodes.ensures c.requires c.blank_inode.ensures
