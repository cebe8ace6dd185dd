use Rattle.message.specs.Fits.{ContentFits}
use Rattle.message.specs.Spelling.{grant_item_bytes}
use Rattle.message.proofs.Flat.{flat_more, flat_all, one_of}
use Rattle.message.proofs.put.put_each_grant_item.Goals as goal

pub put_grant_item-requires : goal.put_grant_item-requires
put_grant_item-requires c = one_of (λ item. ContentFits item.content) _ _ _ _ c.requires c.loop-item-test.true c.item-item.is

pub loop-item-preserved : goal.loop-item-preserved
loop-item-preserved c = flat_more grant_item_bytes _ _ _ _ _ _ _ c.loop-item-test.true c.loop-item.invariant c.item-item.is c.in_ok-put_grant_item.ensures

pub returns : goal.returns
returns c = flat_all grant_item_bytes _ _ _ _ c.loop-item-test.false c.loop-item.invariant
