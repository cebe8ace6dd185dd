use Rattle.volume_plan.proofs.Removals.{rmdir_leads, unlink_leads}
use Rattle.volume_plan.proofs.removing.a_removal_stands.Goals as goal

pub returns-clause-unlink : goal.returns-clause-unlink
returns-clause-unlink c = λ sectors v history client number path opened m a done. unlink_leads sectors v history client number opened m path a done

pub returns-clause-rmdir : goal.returns-clause-rmdir
returns-clause-rmdir c = λ sectors v history client number path opened m a done. rmdir_leads sectors v history client number opened m path a done
