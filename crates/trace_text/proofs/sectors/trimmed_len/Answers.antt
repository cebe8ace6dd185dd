use Rattle.std.proofs.Common.{arith}
use Rattle.trace_text.proofs.Trimming.{trim_more, trim_ends}
use Rattle.trace_text.proofs.sectors.trimmed_len.Goals as goal

pub loop-count-preserved : goal.loop-count-preserved
loop-count-preserved c = (omega (arith, c.loop-count.invariant.0), trim_more c.loop-count.count c.args.bytes.now c.loop-count-test.true c.loop-count.invariant.0 c.if-bytes-count-eq0.true c.loop-count.invariant.1)

pub returns-else-bytes-count-eq0-clause-value : goal.returns-else-bytes-count-eq0-clause-value
returns-else-bytes-count-eq0-clause-value c = trim_ends c.loop-count.count c.args.bytes.now c.loop-count-test.true c.loop-count.invariant.0 c.if-bytes-count-eq0.false c.loop-count.invariant.1
