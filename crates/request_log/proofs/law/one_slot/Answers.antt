use Rattle.request_log.proofs.SlotLemmas.{same_slot}
use Rattle.request_log.proofs.law.one_slot.Goals as goal

pub returns-clause-read : goal.returns-clause-read
returns-clause-read c = λ sector a b s t. same_slot sector a b s t
