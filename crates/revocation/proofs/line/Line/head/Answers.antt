use Rattle.std.proofs.Common.{subst}
use Rattle.std.specs.List.{All}
use Rattle.revocation.specs.Waiting.{IsRequest, Waiting}
use Rattle.revocation.proofs.line.Line.head.Goals as goal

pub returns-clause-each : goal.returns-clause-each
returns-clause-each c = subst (λ (w : Waiting). All IsRequest w.requests) c.self.view_is c.self.invariant.each
