use Rattle.std.proofs.Common.{arith}
use Rattle.cluster_run.proofs.Command.{is_command}
use Rattle.cluster_run.proofs.cluster.is_run_command.Goals as goal

pub returns-in-len1 : goal.returns-in-len1
returns-in-len1 c = is_command _ _ c.eq.result (omega arith) c.eq.ensures
