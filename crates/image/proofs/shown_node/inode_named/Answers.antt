use Rattle.image.proofs.Shown.{named_is}
use Rattle.image.proofs.shown_node.inode_named.Goals as goal

pub returns : goal.returns
returns c = named_is c.args.blocks.now _ c.args.name.now c.find.result c.as_slice.ensures c.find.ensures.directory c.find.ensures.named c.find.ensures.absent
