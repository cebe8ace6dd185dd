use Rattle.cluster_law.proofs.refusals.no_server_halts_at_will.Goals as goal

pub returns-clause-stopped : goal.returns-clause-stopped
returns-clause-stopped c = λ boots view planned writes before after w. w.ends

pub returns-clause-fenced : goal.returns-clause-fenced
returns-clause-fenced c = λ boots view planned writes stop before after mine current w. w.ends.2

pub returns-clause-failed : goal.returns-clause-failed
returns-clause-failed c = λ boots view planned writes stop before after faults w. w.ends.1

pub returns-clause-damaged : goal.returns-clause-damaged
returns-clause-damaged c = λ boots view planned writes stop before after sector w. w.ends.0

pub returns-clause-goes_on : goal.returns-clause-goes_on
returns-clause-goes_on c = λ boots view planned writes stop before after w. w.ends.0
