use Rattle.std.proofs.Common.{refl}
use Rattle.message.specs.Spelling.{reported_bytes}
use Rattle.message.proofs.Flat.{flat_more, flat_all}
use Rattle.message.proofs.put.put_each_reported.Goals as goal

pub loop-hold-preserved : goal.loop-hold-preserved
loop-hold-preserved c = flat_more reported_bytes _ _ _ _ _ _ _ c.loop-hold-test.true c.loop-hold.invariant refl c.in_ok-put_reported.ensures

pub returns : goal.returns
returns c = flat_all reported_bytes _ _ _ _ c.loop-hold-test.false c.loop-hold.invariant
