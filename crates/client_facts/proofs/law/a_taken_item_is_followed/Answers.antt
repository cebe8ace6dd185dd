use Rattle.client_facts.proofs.TakeSteps.{take_followed}
use Rattle.client_facts.proofs.law.a_taken_item_is_followed.Goals as goal

pub returns : goal.returns
returns c = take_followed
