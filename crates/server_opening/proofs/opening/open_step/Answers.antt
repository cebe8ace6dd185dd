use Rattle.std.proofs.Common.{length, refl, ap, subst, sym}
use Rattle.cluster_law.specs.ServerState.{is_admitted}
use Rattle.server_draft.specs.Draft.{told_or_waiting}
use Rattle.server_draft.specs.declared.draft.Draft.{Draft}
use Rattle.server_opening.proofs.Begun.{begins-still, opens-nothing}
use Rattle.server_opening.proofs.Counting.{begin-few, first-named, first-waiting, inodes-few, two-few}
use Rattle.server_opening.specs.Opens.{GoesOut, Opens, begun, occasion}
use Rattle.server_opening.specs.declared.opening.Coming.{Coming}
use Rattle.server_opening.specs.declared.opening.Coming.TheVariants.{Nothing, Message, Tick}
use Rattle.server_opening.proofs.opening.open_step.Goals as goal

pub returns-in-Nothing-clause-opens : goal.returns-in-Nothing-clause-opens
returns-in-Nothing-clause-opens c = λ view server. subst (λ (x : Coming). GoesOut view server c.args.desk c.args.image x → Opens view (occasion view c.args.members.now (is_admitted server) x) (begun view server x) c.new.result) (sym c.in-Nothing.is)
    (λ out. let o = occasion view c.args.members.now (is_admitted server) Nothing in
    opens-nothing view o server c.new.result refl refl (ap (λ (d : Draft). d.acts) c.new.ensures.draft) (c.new.ensures.follows view o server (begins-still view server c.args.desk c.args.image Nothing c.new.result refl out c.new.ensures.draft)))

pub returns-in_ok-draft-in-Message-clause-opens : goal.returns-in_ok-draft-in-Message-clause-opens
returns-in_ok-draft-in-Message-clause-opens c = λ view server. subst (λ (x : Coming). GoesOut view server c.args.desk c.args.image x → Opens view (occasion view c.args.members.now (is_admitted server) x) (begun view server x) c.in_ok-draft-in-Message.draft) (sym c.in-Message.is)
    (λ out. c.in_ok-draft-in-Message.ensures.opens view (occasion view c.args.members.now (is_admitted server) (Message c.in-Message.client c.in-Message.message)) server out refl refl)

pub returns-in_ok-draft-in-Tick-clause-opens : goal.returns-in_ok-draft-in-Tick-clause-opens
returns-in_ok-draft-in-Tick-clause-opens c = λ view server. subst (λ (x : Coming). GoesOut view server c.args.desk c.args.image x → Opens view (occasion view c.args.members.now (is_admitted server) x) (begun view server x) c.in_ok-draft-in-Tick.draft) (sym c.in-Tick.is)
    (λ out. c.in_ok-draft-in-Tick.ensures.opens view (occasion view c.args.members.now (is_admitted server) Tick) server out refl refl refl)

pub returns-in-Nothing-clause-few : goal.returns-in-Nothing-clause-few
returns-in-Nothing-clause-few c to = begin-few (told_or_waiting to c.new.result) (length c.args.desk.requests) (first-waiting to c.args.desk c.args.image c.new.result c.new.ensures.draft)

pub returns-in-Nothing-clause-names : goal.returns-in-Nothing-clause-names
returns-in-Nothing-clause-names c names = first-named c.args.desk c.args.image c.new.result c.new.ensures.draft names

pub returns-in_ok-draft-in-Message-clause-few : goal.returns-in_ok-draft-in-Message-clause-few
returns-in_ok-draft-in-Message-clause-few c to = two-few (told_or_waiting to c.in_ok-draft-in-Message.draft) (length c.args.desk.requests) (c.in_ok-draft-in-Message.ensures.few to)

pub returns-in_ok-draft-in-Tick-clause-few : goal.returns-in_ok-draft-in-Tick-clause-few
returns-in_ok-draft-in-Tick-clause-few c to = inodes-few (told_or_waiting to c.in_ok-draft-in-Tick.draft) (length c.args.desk.requests) (c.in_ok-draft-in-Tick.ensures.few to)
