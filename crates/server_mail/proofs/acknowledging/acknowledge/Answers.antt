use Rattle.std.proofs.Common.{ap, sym, ◌∙◌}
use Rattle.server_mail.specs.Step.{after_answering}
use Rattle.server_mail.proofs.Owing.{acknowledges, acknowledges-out}
use Rattle.server_mail.proofs.acknowledging.acknowledge.Goals as goal

pub returns-in_ok-acknowledge_to-in-Some-clause-sent : goal.returns-in_ok-acknowledge_to-in-Some-clause-sent
returns-in_ok-acknowledge_to-in-Some-clause-sent c = λ server view client between within.
    acknowledges server view _ _ _ c.in-Some.client client c.in-Some.is c.in_ok-acknowledge_to-in-Some.ensures between c.requires

pub returns-in_ok-acknowledge_to-in-Some-clause-out : goal.returns-in_ok-acknowledge_to-in-Some-clause-out
returns-in_ok-acknowledge_to-in-Some-clause-out c = λ server view between.
    acknowledges-out server view c.args.mail.now _ c.args.answers (c.in_ok-acknowledge_to-in-Some.ensures ∙ sym (ap (after_answering c.args.mail.now) c.in-Some.is)) between c.requires
