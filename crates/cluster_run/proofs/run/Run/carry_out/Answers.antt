use Rattle.cluster_run.proofs.Turning.{carries_refused, carries_settled}
use Rattle.cluster_run.proofs.run.Run.carry_out.Goals as goal

pub returns-in_ok-put_refused-in-Refused-clause-carries : goal.returns-in_ok-put_refused-in-Refused-clause-carries
returns-in_ok-put_refused-in-Refused-clause-carries g c = carries_refused _ _ _ c.in-Refused.why c.cause_of.result _ _ c.in-Refused.is c.cause_of.ensures c.clear.ensures.items c.in_ok-put_refused-in-Refused.ensures

pub returns-in_ok-put_settled-in-Settled-clause-carries : goal.returns-in_ok-put_settled-in-Settled-clause-carries
returns-in_ok-put_settled-in-Settled-clause-carries g c = carries_settled _ _ _ _ _ _ _ c.in-Settled.is c.clear.ensures.items c.in_ok-put_settled-in-Settled.ensures
