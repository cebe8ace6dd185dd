use Rattle.message.specs.Fits.{NameFits}
use Rattle.message.specs.Spelling.{entry_bytes}
use Rattle.message.proofs.Flat.{flat_more, flat_all, one_of}
use Rattle.message.proofs.put.put_each_entry.Goals as goal

pub put_entry-requires : goal.put_entry-requires
put_entry-requires c = one_of (λ entry. NameFits entry.name) _ _ _ _ c.requires c.loop-entry-test.true c.entry-item.is

pub loop-entry-preserved : goal.loop-entry-preserved
loop-entry-preserved c = flat_more entry_bytes _ _ _ _ _ _ _ c.loop-entry-test.true c.loop-entry.invariant c.entry-item.is c.in_ok-put_entry.ensures

pub returns : goal.returns
returns c = flat_all entry_bytes _ _ _ _ c.loop-entry-test.false c.loop-entry.invariant
