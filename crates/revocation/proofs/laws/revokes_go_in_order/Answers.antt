use Rattle.revocation.proofs.Sent.{sent_where_needed}
use Rattle.revocation.proofs.Order.{sent_in_order}
use Rattle.revocation.proofs.laws.revokes_go_in_order.Goals as goal

pub returns-clause-order : goal.returns-clause-order
returns-clause-order c = sent_in_order

pub returns-clause-needed : goal.returns-clause-needed
returns-clause-needed c = sent_where_needed
