use Rattle.std.proofs.Common.{◌∙◌}
use Rattle.message.specs.Fits.{NameFits}
use Rattle.message.specs.Spelling.{name_bytes}
use Rattle.message.proofs.Flat.{flat_more, flat_all, one_of}
use Rattle.message.proofs.put.put_names.Goals as goal

pub put_name-requires : goal.put_name-requires
put_name-requires c = one_of (NameFits) _ _ _ _ c.requires c.loop-name-test.true (c.as_slice.ensures ∙ c.name-item.is)

pub loop-name-preserved : goal.loop-name-preserved
loop-name-preserved c = flat_more name_bytes _ _ _ _ _ _ _ c.loop-name-test.true c.loop-name.invariant (c.as_slice.ensures ∙ c.name-item.is) c.in_ok-put_name.ensures

pub returns : goal.returns
returns c = flat_all name_bytes _ _ _ _ c.loop-name-test.false c.loop-name.invariant
