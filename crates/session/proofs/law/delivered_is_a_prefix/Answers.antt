use Rattle.session.proofs.DeliveryLemmas.{delivers, flows_all}
use Rattle.session.proofs.law.delivered_is_a_prefix.Goals as goal

pub returns-clause-to_right : goal.returns-clause-to_right
returns-clause-to_right c = λ me peer view events. delivers _ _ (flows_all me peer view events).to_right

pub returns-clause-to_left : goal.returns-clause-to_left
returns-clause-to_left c = λ me peer view events. delivers _ _ (flows_all me peer view events).to_left
