use Rattle.std.proofs.Common.{length, sym, ◌∙◌}
use Rattle.cluster_law.specs.ServerState.{is_admitted}
use Rattle.server_opening.specs.Opens.{begun, occasion}
use Rattle.server_turn.proofs.Ending.{collects, collects-few, was-admitted}
use Rattle.server_turn.proofs.planning.open_and_collect.Goals as goal

pub returns-clause-collected : goal.returns-clause-collected
returns-clause-collected c = λ view server out.
    let o = occasion view c.args.members.now (is_admitted server) c.args.coming in
    let start = begun view server c.args.coming in
    let opened = c.in_ok-draft.draft in
    let new = c.collect.new.draft in
    let opens = c.in_ok-draft.ensures.opens view server out in
    let was = was-admitted c.args.desk server out.like ∙ sym c.is_admitted-was_admitted.ensures in
    let acts = c.in_ok-collect.ensures.acts in
    collects view o start opened new opens c.in_ok-collect.ensures.state acts (c.in_ok-collect.ensures.follows view o start opens.follows was opens.nobody)
    (c.in_ok-collect.ensures.collected view o start opens.follows was opens.nobody) (λ client test. c.what_is_done_stays_done.ensures.told view client test opened.acts new.acts acts.grows)
    (λ client. c.what_is_done_stays_done.ensures.purged view client opened.acts new.acts acts.grows) (λ ino. c.what_is_done_stays_done.ensures.freed view ino opened.acts new.acts acts.grows)

pub returns-clause-few : goal.returns-clause-few
returns-clause-few c = λ to. collects-few (length c.args.desk.requests) c.in_ok-draft.draft c.collect.new.draft to c.in_ok-collect.ensures.state (c.in_ok-draft.ensures.few to) (c.in_ok-collect.ensures.few to)
