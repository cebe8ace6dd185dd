use Rattle.client_facts.proofs.CallSteps.{call_followed}
use Rattle.client_facts.proofs.law.an_answered_call_is_followed.Goals as goal

pub returns : goal.returns
returns c = call_followed
