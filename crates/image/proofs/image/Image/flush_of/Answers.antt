use Rattle.std.proofs.Common.{rules}
use Rattle.image.proofs.EntryPlans.{flush_is}
use Rattle.image.proofs.FlushPlans.{blocks_small}
use Rattle.image.proofs.image.Image.flush_of.Goals as goal

pub flushed_inode-requires-clause-blocks : goal.flushed_inode-requires-clause-blocks
flushed_inode-requires-clause-blocks c = blocks_small c.args.self.now c.args.flush.now _ c.counted.ensures.volume.map c.requires.blocks

pub returns-clause-is : goal.returns-clause-is
returns-clause-is c = flush_is c.args.self.now c.args.client c.args.flush.now _ (search rules) c.counted.ensures.volume c.requires.known c.counted.ensures.fits c.requires.is c.requires.file c.requires.enough
