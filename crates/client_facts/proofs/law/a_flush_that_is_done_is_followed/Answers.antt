use Rattle.client_facts.proofs.FlushSteps.{done_followed}
use Rattle.client_facts.proofs.law.a_flush_that_is_done_is_followed.Goals as goal

pub returns : goal.returns
returns c = done_followed
