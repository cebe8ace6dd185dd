use Rattle.cluster_run.proofs.Turning.{happens, is_refused}
use Rattle.cluster_run.proofs.run.Run.happen.Goals as goal

pub returns-in-Ok-clause-happens : goal.returns-in-Ok-clause-happens
returns-in-Ok-clause-happens g c = happens _ _ _ _ _ _ _ _ _ _ c.in-Ok.step _ c.in-Ok.ensures.made (c.a_step_is_counted.ensures _ _ _ _ _ _ _ _ c.in-Ok.ensures.made.1) c.requires.empty c.note.ensures.world c.note.ensures.schedule c.note.ensures.text

pub returns-in-Err-Refused-clause-happens : goal.returns-in-Err-Refused-clause-happens
returns-in-Err-Refused-clause-happens g c = is_refused _ _ _ _ _ _ _ _ c.in-Err-Refused.why c.cause_of.result _ (rw c.in-Err-Refused.field-0-is at c.in-Err-Refused.ensures.refused) c.cause_of.ensures c.requires.empty c.put_refused.ensures
