use Rattle.std.proofs.Common.{sym, subst}
use Rattle.revocation.specs.Waiting.{IsLine}
use Rattle.revocation.proofs.Requests.{line_rest}
use Rattle.revocation.proofs.line.Line.pop.Goals as goal

pub invariant_of-self : goal.invariant_of-self
invariant_of-self c = subst IsLine (sym c.pop_front.ensures.rest) (line_rest c.self.inside.requests.items c.self.invariant)
