use Rattle.volume_space.proofs.Refusing.{plan_refused_alone, plan_refused_free}
use Rattle.volume_space.proofs.law.a_refused_change_takes_nothing.Goals as goal

pub returns-clause-slot : goal.returns-clause-slot
returns-clause-slot c = λ v client number call opened why refused. plan_refused_alone v client number call opened why refused

pub returns-clause-free : goal.returns-clause-free
returns-clause-free c = λ v client number call opened why refused. plan_refused_free v client number call opened why refused
