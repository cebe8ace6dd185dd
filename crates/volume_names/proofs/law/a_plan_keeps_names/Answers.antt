use Rattle.volume_names.proofs.Plans.{alone_named, flush_named, plan_named, reap_named}
use Rattle.volume_names.proofs.law.a_plan_keeps_names.Goals as goal

pub returns-clause-change : goal.returns-clause-change
returns-clause-change c = λ v client number call opened is all. plan_named v client number call opened is all

pub returns-clause-flush : goal.returns-clause-flush
returns-clause-flush c = λ v client flush is all. flush_named v client flush is all

pub returns-clause-purge : goal.returns-clause-purge
returns-clause-purge c = λ v client all. alone_named v _ all

pub returns-clause-reap : goal.returns-clause-reap
returns-clause-reap c = λ v ino is all kind nameless. reap_named v ino is all kind nameless
