use Rattle.std.proofs.Common.{ap}
use Rattle.cluster_law.specs.ServerState.{hearing}
use Rattle.server_draft.specs.declared.draft.Draft.{Draft}
use Rattle.server_opening.proofs.Begun.{begins-heard, opens-answer}
use Rattle.server_opening.proofs.Counting.{answer-few, first-named, heard-few}
use Rattle.server_opening.proofs.opening.answer.Goals as goal

pub returns-clause-opens : goal.returns-clause-opens
returns-clause-opens c = λ view o server out took tick.
    let like = c.in_ok-owed.ensures.heard server out.like out.volume_is in
    let follows = c.new-draft.ensures.follows view o (hearing server c.args.client c.args.message) (begins-heard view server c.args.desk c.hear.new.desk c.args.image c.args.client c.args.message c.new-draft.result out like c.new-draft.ensures.draft) in
    opens-answer view o server c.args.desk c.hear.new.desk c.args.image c.args.client c.args.message c.new-draft.result c.pay.new.draft c.in_ok-owed.owed
    out like took tick c.in_ok-owed.ensures.owed c.new-draft.ensures.draft
    (λ owed. c.in_ok-pay.ensures.follows view o (hearing server c.args.client c.args.message) follows (ap (λ (d : Draft). d.acts) c.new-draft.ensures.draft) owed)
    (c.in_ok-pay.ensures.paid view o (hearing server c.args.client c.args.message) follows (ap (λ (d : Draft). d.acts) c.new-draft.ensures.draft))
    (c.in_ok-pay.ensures.nobody view (ap (λ (d : Draft). d.acts) c.new-draft.ensures.draft))
    (c.in_ok-pay.ensures.ungranted view (ap (λ (d : Draft). d.acts) c.new-draft.ensures.draft))

pub returns-clause-few : goal.returns-clause-few
returns-clause-few c to =
    answer-few to c.args.desk c.hear.new.desk c.args.image c.new-draft.result c.pay.new.draft c.new-draft.ensures.draft
    (heard-few c.args.desk c.hear.new.desk c.args.image c.args.client c.args.message c.in_ok-owed.ensures.heard) (c.in_ok-pay.ensures.few to)

pub returns-clause-names : goal.returns-clause-names
returns-clause-names c names = c.in_ok-pay.ensures.names (first-named c.hear.new.desk c.args.image c.new-draft.result c.new-draft.ensures.draft names)
