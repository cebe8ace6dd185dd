use Rattle.volume_plan.proofs.FlushedBytes.{data_goes_to_free}
use Rattle.volume_plan.proofs.Reaping.{reap_takes}
use Rattle.volume_plan.proofs.TakenFree.{flush_takes_free, plan_takes}
use Rattle.volume_plan.proofs.edits.a_plan_takes_free_blocks.Goals as goal

pub returns-clause-change : goal.returns-clause-change
returns-clause-change c = λ v client number call opened is kept. plan_takes v client number call opened is kept

pub returns-clause-flush : goal.returns-clause-flush
returns-clause-flush c = λ v client flush is kept can. flush_takes_free v client flush is kept can

pub returns-clause-pieces : goal.returns-clause-pieces
returns-clause-pieces c = λ v flush. data_goes_to_free v flush

pub returns-clause-purge : goal.returns-clause-purge
returns-clause-purge c = λ v client. record { inode = tt; growth = tt }

pub returns-clause-reap : goal.returns-clause-reap
returns-clause-reap c = λ v ino. reap_takes v ino
