use Rattle.fence.proofs.EndingLemmas.{ends_as, counts_and_keeps, run_keeps_count}
use Rattle.fence.proofs.endings.a_run_tells_what_was_written.Goals as goal

pub returns-clause-ends : goal.returns-clause-ends
returns-clause-ends c = λ port old writes result port' new h. ends_as writes port old result port' new h

pub returns-clause-keeps : goal.returns-clause-keeps
returns-clause-keeps c = λ port made. counts_and_keeps made port

pub returns-clause-count : goal.returns-clause-count
returns-clause-count c = λ port old writes result port' new h. run_keeps_count writes port old result port' new h
