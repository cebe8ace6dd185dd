use Rattle.std.proofs.Common.{refl}
use Rattle.volume_space.proofs.Planning.{plan_has_needed, plan_takes_needed, reap_takes_none}
use Rattle.volume_space.proofs.Taking.{flush_takes_pieces}
use Rattle.volume_space.proofs.law.a_plan_takes_what_it_needs.Goals as goal

pub returns-clause-change : goal.returns-clause-change
returns-clause-change c = λ v client number call opened is kept. plan_takes_needed v client number call opened is kept

pub returns-clause-within : goal.returns-clause-within
returns-clause-within c = λ v client number call opened enough. plan_has_needed v client number call opened enough

pub returns-clause-flush : goal.returns-clause-flush
returns-clause-flush c = λ v client flush is kept. flush_takes_pieces v client flush is kept

pub returns-clause-purge : goal.returns-clause-purge
returns-clause-purge c = λ v client. refl

pub returns-clause-reap : goal.returns-clause-reap
returns-clause-reap c = λ v ino. reap_takes_none v ino
