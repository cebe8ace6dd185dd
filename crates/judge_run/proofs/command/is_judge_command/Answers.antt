use Rattle.std.proofs.Common.{arith}
use Rattle.judge_run.proofs.Ends.{is_command}
use Rattle.judge_run.proofs.command.is_judge_command.Goals as goal

pub returns-in-len1 : goal.returns-in-len1
returns-in-len1 c = is_command _ _ c.eq.result (omega arith) c.eq.ensures
