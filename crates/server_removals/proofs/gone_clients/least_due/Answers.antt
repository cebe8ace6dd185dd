use Rattle.std.proofs.Common.{◌<◌, ◌&&◌, ap, sym, ◌∙◌, arith}
use Rattle.std.specs.List.{filter}
use Rattle.cal_base.specs.declared.identity.ClientId.{ClientId}
use Rattle.token_table.specs.Blockers.{clients_below}
use Rattle.volume.specs.Volume.{Volume}
use Rattle.cluster_law.specs.Lists.{first_of}
use Rattle.cluster_law.specs.ServerState.{is_present}
use Rattle.server_removals.specs.Removals.{gone_in}
use Rattle.server_removals.proofs.Firsts.{first-client, no-client}
use Rattle.server_removals.proofs.gone_clients.least_due.Goals as goal

pub returns-then-is_due-clause-value : goal.returns-then-is_due-clause-value
returns-then-is_due-clause-value c = λ server same.
    let v = c.args.image.now in
    let within : c.loop-number.number < v.clients = omega (arith, c.clients-number-end.ensures.clients) in
    sym (ap (λ (u : Volume). first_of (filter (λ (client : ClientId). gone_in c.args.members.now client && is_present u client) (clients_below u.clients))) same
    ∙ first-client (λ (client : ClientId). gone_in c.args.members.now client && is_present v client) v.clients c.loop-number.number within (sym c.is_due.ensures ∙ c.if-is_due.true) c.loop-number.invariant)

pub returns-clause-value : goal.returns-clause-value
returns-clause-value c = λ server same.
    let v = c.args.image.now in
    sym (ap (λ (u : Volume). first_of (filter (λ (client : ClientId). gone_in c.args.members.now client && is_present u client) (clients_below u.clients))) same
    ∙ no-client (λ (client : ClientId). gone_in c.args.members.now client && is_present v client) v.clients
    (λ k lt. c.loop-number.invariant k (omega (arith, c.clients-number-end.ensures.clients))))
