use Rattle.std.proofs.Common.{refl}
use Rattle.cal_fields.specs.Padded.{zeros}
use Rattle.cal_fields.proofs.PaddedLemmas.{zero_at, zeros_more}
use Rattle.cal_fields.proofs.padding.is_zeros.Goals as goal

pub loop-byte-init : goal.loop-byte-init
unfolding zeros
loop-byte-init c = refl

pub loop-byte-preserved : goal.loop-byte-preserved
loop-byte-preserved c = zeros_more c.loop-byte.byte-index c.args.bytes.now c.loop-byte-test.true c.loop-byte.invariant c.if-byte-ne0.false

pub returns-then-byte-ne0 : goal.returns-then-byte-ne0
returns-then-byte-ne0 c = (λ no. cc, λ all. absurd (c.if-byte-ne0.true (zero_at _ c.loop-byte.byte-index c.args.bytes.now all c.loop-byte-test.true)))
