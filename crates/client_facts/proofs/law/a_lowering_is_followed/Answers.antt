use Rattle.client_facts.proofs.KnownSteps.{lowering_followed}
use Rattle.client_facts.proofs.law.a_lowering_is_followed.Goals as goal

pub returns : goal.returns
returns c = lowering_followed
