use Rattle.cluster_law.specs.ServerState.{is_admitted}
use Rattle.server_opening.specs.Opens.{begun, occasion}
use Rattle.server_turn.proofs.Ending.{may-be-refused, plans}
use Rattle.server_turn.proofs.planning.plan_step.Goals as goal

pub returns-in-Ok-clause-planned : goal.returns-in-Ok-clause-planned
returns-in-Ok-clause-planned g c = λ server out names sees.
    let view = c.args.port.now.view in
    let o = occasion view c.args.members.now (is_admitted server) c.args.coming in
    let start = begun view server c.args.coming in
    let old = c.in_ok-draft.draft in
    let new = c.serve_line.new.draft in
    let done = c.in_ok-draft.ensures.collected view server out in
    let named = c.in_ok-draft.ensures.names names in
    let serves = c.in-Ok.ensures in
    plans view o start (g.D.PortDisk.means c.args.disk.now) old (record { draft = new; head = c.in-Ok.head }) done (serves.follows view o start sees named done.follows) serves.standing serves.lower
    (λ client. serves.told view client) (serves.rests view o start sees named done.follows) (λ client test. c.what_is_done_stays_done.ensures.told view client test old.acts new.acts serves.grows)
    (λ client. c.what_is_done_stays_done.ensures.purged view client old.acts new.acts serves.grows) (λ ino. c.what_is_done_stays_done.ensures.freed view ino old.acts new.acts serves.grows) (serves.names named)
    (λ other unread. serves.reads_own_key view o start sees other named done.follows unread)

pub returns-in-Err-clause-refused : goal.returns-in-Err-clause-refused
returns-in-Err-clause-refused g c = λ server out names sees.
    let view = c.args.port.now.view in
    let o = occasion view c.args.members.now (is_admitted server) c.args.coming in
    let start = begun view server c.args.coming in
    let old = c.in_ok-draft.draft in
    let done = c.in_ok-draft.ensures.collected view server out in
    let named = c.in_ok-draft.ensures.names names in
    may-be-refused view o start (g.D.PortDisk.means c.args.disk.now) old c.serve_line.new.draft c.in-Err.error c.in-Err.ensures.follows sees named done.follows
    (c.in-Err.ensures.stops view o start sees named done.follows)
