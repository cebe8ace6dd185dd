use Rattle.volume_plan.proofs.Leading.{fits_leads}
use Rattle.volume_plan.proofs.RefusedCalls.{refusal_fits, same_fits}
use Rattle.volume_plan.proofs.making.a_refusal_stands.Goals as goal

pub returns-clause-refused : goal.returns-clause-refused
returns-clause-refused c = λ sectors v history client number call opened why mounted asked refused. fits_leads sectors v history _ _ mounted (refusal_fits sectors v history client number opened mounted call why asked refused)

pub returns-clause-same : goal.returns-clause-same
returns-clause-same c = λ sectors v history client number path goal opened move mounted asked moves same. fits_leads sectors v history _ _ mounted (same_fits sectors v history client number opened mounted path goal move asked moves same)
