use Rattle.std.proofs.Common.{arith}
use Rattle.change_reply.proofs.ReplyLemmas.{two_bytes}
use Rattle.change_reply.proofs.put.put_no_space.Goals as goal

pub returns-clause-ok : goal.returns-clause-ok
returns-clause-ok c =
    rw (← two_bytes c.args.free (omega (arith, c.ranges.free.fits)), ← two_bytes c.args.needed (omega (arith, c.ranges.needed.fits))) c.put_bytes.ensures.ok
