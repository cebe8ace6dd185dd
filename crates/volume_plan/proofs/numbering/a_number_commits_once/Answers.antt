use Rattle.volume_plan.proofs.SlotNumbers.{flush_is_counted, number_is_kept}
use Rattle.volume_plan.proofs.numbering.a_number_commits_once.Goals as goal

pub returns-clause-change : goal.returns-clause-change
returns-clause-change c = number_is_kept

pub returns-clause-flush : goal.returns-clause-flush
returns-clause-flush c = flush_is_counted
