use Rattle.std.proofs.Common.{◌≡◌, ◌≢◌, ◌≤◌, ◌<◌, ◌∙◌, [], false, true, sym, rules}
use Rattle.std.specs.Prelude.{None}
use Rattle.tree_law.specs.declared.request.Asked.TheVariants.{Want as Wants}
use Rattle.volume_plan.specs.Plans.{free_count}
use Rattle.server_line.specs.Known.{SeesOwn}
use Rattle.cluster_law.specs.ServerState.{as_request}
use Rattle.server_line.proofs.Counting.{has-head}
use Rattle.server_line.proofs.Going.{serves-blind}
use Rattle.server_line.proofs.Wanted.{all-grantable, all-lack, is-enough, is-less, refuse-well, stops-by, would}
use Rattle.server_line.proofs.granting.serve_want.Goals as goal

pub returns-then-not-is_free-clause-serves : goal.returns-then-not-is_free-clause-serves
returns-then-not-is_free-clause-serves g c =
    let taken : c.is_free.result ≡ false = search rules in
    serves-blind (λ start. SeesOwn start c.args.port.now.view (g.D.PortDisk.means c.args.disk.now)) ((g.D.PortDisk.means c.args.disk.now).key ≢ c.args.port.now.view) c.args.draft.now c.rest.new.draft c.in_ok-blocked.blocked
    (c.in_ok-blocked.ensures (Wants c.requires.wants.want) c.requires.wants.head (c.requires.wants.is_gap []).blocked (sym c.is_free.ensures ∙ taken))

pub returns-then-free-gap-clause-serves : goal.returns-then-free-gap-clause-serves
returns-then-free-gap-clause-serves g c =
    let free : c.is_free.result ≡ true = search rules in
    let less : c.free-free.result < c.args.gap.now.wanted = c.if-free-gap.true in
    serves-blind (λ start. SeesOwn start c.args.port.now.view (g.D.PortDisk.means c.args.disk.now)) ((g.D.PortDisk.means c.args.disk.now).key ≢ c.args.port.now.view) c.args.draft.now c.answer.new.draft None
    (c.in_ok-answer.ensures (has-head c.args.draft.now (as_request c.args.client c.args.number (Wants c.requires.wants.want)) c.requires.wants.head) tt
    (refuse-well c.args.draft.now c.args.client c.args.number c.args.gap.now c.requires.wants.want c.requires.wants.head c.requires.wants.is_gap (sym c.is_free.ensures ∙ free)
    (is-less c.free-free.result (free_count c.args.draft.now.image) c.args.gap.now.wanted c.free-free.ensures.free less) c.free-free.result c.free-free.ensures.free))

pub grant-requires-clause-apart : goal.grant-requires-clause-apart
grant-requires-clause-apart g c =
    let free : c.is_free.result ≡ true = search rules in
    all-grantable c.args.draft.now c.args.client c.args.number c.requires.wants.want c.args.gap.now (c.requires.wants.is_gap []) (sym c.is_free.ensures ∙ free)

pub grant-requires-clause-needs : goal.grant-requires-clause-needs
grant-requires-clause-needs g c = (c.requires.wants.is_gap []).needs

pub grant-requires-clause-lacks : goal.grant-requires-clause-lacks
grant-requires-clause-lacks g c = all-lack c.args.draft.now c.args.client c.args.number c.requires.wants.want c.args.gap.now (c.requires.wants.is_gap [])

pub returns-in-Ok-clause-serves : goal.returns-in-Ok-clause-serves
returns-in-Ok-clause-serves g c =
    let free : c.is_free.result ≡ true = search rules in
    let enough : c.args.gap.now.wanted ≤ c.free-free.result = c.if-free-gap.false in
    c.in-Ok.ensures.serves c.requires.wants.want c.requires.wants.head c.requires.wants.is_gap (sym c.is_free.ensures ∙ free) (is-enough c.free-free.result (free_count c.args.draft.now.image) c.args.gap.now.wanted c.free-free.ensures.free enough)

pub returns-in-Err-clause-stops : goal.returns-in-Err-clause-stops
returns-in-Err-clause-stops g c =
    let free : c.is_free.result ≡ true = search rules in
    let enough : c.args.gap.now.wanted ≤ c.free-free.result = c.if-free-gap.false in
    stops-by c.args.draft.now c.grant.new.draft c.in-Err.error c.in-Err.ensures.same
    (λ why is. would c.args.draft.now c.args.client c.args.number c.args.gap.now c.requires.wants.want c.requires.wants.head c.requires.wants.is_gap (sym c.is_free.ensures ∙ free)
    (is-enough c.free-free.result (free_count c.args.draft.now.image) c.args.gap.now.wanted c.free-free.ensures.free enough) (c.in-Err.ensures.stops why is))
