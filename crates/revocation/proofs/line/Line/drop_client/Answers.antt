use Rattle.std.proofs.Common.{sym, subst, not}
use Rattle.token_table.specs.Table.{same_client}
use Rattle.revocation.specs.Waiting.{IsLine}
use Rattle.revocation.proofs.Requests.{line_filter}
use Rattle.revocation.proofs.line.Line.drop_client.Goals as goal

pub invariant_of-self : goal.invariant_of-self
invariant_of-self c = subst IsLine (sym c.drop_requests.ensures) (line_filter (λ r. not (same_client c.args.c r.client)) c.self.inside.requests.items c.self.invariant)
