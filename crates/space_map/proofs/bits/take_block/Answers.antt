use Rattle.space_map.proofs.FreeBlocks.{least-free_blocks, set-free_blocks}
use Rattle.space_map.proofs.bits.take_block.Goals as goal

pub returns-clause-least : goal.returns-clause-least
returns-clause-least c = least-free_blocks c.args.bytes.now c.args.at c.lowest_free-bit.result c.requires.full c.requires.within c.lowest_free-bit.ensures.within c.lowest_free-bit.ensures.least

pub returns-clause-taken : goal.returns-clause-taken
returns-clause-taken c = set-free_blocks c.args.bytes.now c.args.at c.lowest_free-bit.result _ _ c.lowest_free-bit.ensures.within c.requires.within c.with_used.ensures
