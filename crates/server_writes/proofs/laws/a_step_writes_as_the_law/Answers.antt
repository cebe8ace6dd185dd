use Rattle.server_writes.proofs.Ending.{are_left, some_planned, writes_as_the_law}
use Rattle.server_writes.proofs.laws.a_step_writes_as_the_law.Goals as goal

pub returns-clause-writes : goal.returns-clause-writes
returns-clause-writes c = λ planned port port' old new faults faults' result before after ready a b runs. writes_as_the_law planned port port' old new faults faults' result before after ready a b runs

pub returns-clause-left : goal.returns-clause-left
returns-clause-left c = λ planned port port' old new faults faults' result ready runs. are_left planned port port' old new faults faults' result ready runs

pub returns-clause-some : goal.returns-clause-some
returns-clause-some c = λ planned port port' old new faults faults' halt runs. some_planned planned port port' old new faults faults' halt runs
