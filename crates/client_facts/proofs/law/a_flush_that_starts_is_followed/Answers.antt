use Rattle.client_facts.proofs.KnownSteps.{start_followed}
use Rattle.client_facts.proofs.law.a_flush_that_starts_is_followed.Goals as goal

pub returns : goal.returns
returns c = start_followed
