use Rattle.space_map.proofs.FreeBlocks.{least-free_blocks}
use Rattle.space_map.proofs.bits.least_block.Goals as goal

pub returns-clause-least : goal.returns-clause-least
returns-clause-least c = least-free_blocks c.args.bytes.now c.args.at _ c.requires.full c.requires.within c.lowest_free.ensures.within c.lowest_free.ensures.least
