use Rattle.client_facts.proofs.FileSteps.{others_followed}
use Rattle.client_facts.proofs.law.what_others_do_is_followed.Goals as goal

pub returns : goal.returns
returns c = others_followed
