use Rattle.std.proofs.Common.{sym, subst}
use Rattle.revocation.specs.Waiting.{IsLine}
use Rattle.revocation.proofs.Requests.{line_empty}
use Rattle.revocation.proofs.line.Line.new.Goals as goal

pub invariant_of-result : goal.invariant_of-result
invariant_of-result c = subst IsLine (sym c.new.ensures.items) line_empty
