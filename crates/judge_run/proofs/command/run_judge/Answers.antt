use Rattle.std.proofs.Common.{rules}
use Rattle.judge_run.proofs.Ends.{usage_failed, read_fault_failed, verdict_ends}
use Rattle.judge_run.proofs.command.run_judge.Goals as goal

pub returns-in-Err : goal.returns-in-Err
returns-in-Err g c = record { ends = usage_failed _ (record { left = g.S.Source.left c.args.source.now; faults = g.S.Source.fault_count c.args.source.now }) _ _ c.in-Err.error _ c.status_of.ensures (search rules) c.in-Err.ensures }

pub returns-in-Ok-judge_text : goal.returns-in-Ok-judge_text
returns-in-Ok-judge_text g c = record { ends = verdict_ends _ _ _ _ _ c.in-Ok-judge_text.verdict c.tell_verdict.result (search rules) c.in-Ok-judge_text.ensures.ok c.tell_verdict.ensures }

pub returns-in-Err-print : goal.returns-in-Err-print
returns-in-Err-print g c = record { ends = read_fault_failed _ _ _ _ _ c.in-Err-print.error _ c.status_of-in-Err-print.ensures (search rules) (rw c.in-Err-ReadFault.field-0-is at c.in-Err-ReadFault.ensures.err) c.in-Err-print.ensures }
