use Rattle.std.proofs.Common.{refl}
use Rattle.message.specs.Spelling.{block_bytes}
use Rattle.message.proofs.Flat.{flat_more, flat_all}
use Rattle.message.proofs.put.put_each_block.Goals as goal

pub loop-block-preserved : goal.loop-block-preserved
loop-block-preserved c = flat_more block_bytes _ _ _ _ _ _ _ c.loop-block-test.true c.loop-block.invariant refl c.in_ok-put_block.ensures

pub returns : goal.returns
returns c = flat_all block_bytes _ _ _ _ c.loop-block-test.false c.loop-block.invariant
