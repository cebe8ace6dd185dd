use Rattle.std.proofs.Common.{refl}
use Rattle.message.specs.Spelling.{item_bytes}
use Rattle.message.proofs.Flat.{flat_more, flat_all}
use Rattle.message.proofs.put.put_each_item.Goals as goal

pub loop-item-preserved : goal.loop-item-preserved
loop-item-preserved c = flat_more item_bytes _ _ _ _ _ _ _ c.loop-item-test.true c.loop-item.invariant refl c.in_ok-put_item.ensures

pub returns : goal.returns
returns c = flat_all item_bytes _ _ _ _ c.loop-item-test.false c.loop-item.invariant
