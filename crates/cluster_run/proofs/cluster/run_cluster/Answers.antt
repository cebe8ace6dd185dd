use Rattle.std.proofs.Common.{rules}
use Rattle.cluster_run.proofs.Ends.{bytes_end, unread_told, usage_told}
use Rattle.cluster_run.proofs.cluster.run_cluster.Goals as goal

pub returns-then-not-is_run_command : goal.returns-then-not-is_run_command
returns-then-not-is_run_command g c = record { ends = usage_told _ (record { left = g.S.Source.left c.args.source.now; faults = g.S.Source.fault_count c.args.source.now }) _ _ _ _ (search rules) c.tell.ensures }

pub returns-in-Ok : goal.returns-in-Ok
returns-in-Ok g c = record { ends = bytes_end _ _ _ _ _ _ _ _ _ _ (search rules) c.in-Ok.ensures.ok c.as_slice.ensures.value c.run_bytes.ensures }

pub returns-in-Err-ReadFault : goal.returns-in-Err-ReadFault
returns-in-Err-ReadFault g c = record { ends = unread_told _ _ _ _ _ _ _ (search rules) (rw c.in-Err-ReadFault.field-0-is at c.in-Err-ReadFault.ensures.err) c.tell-in-Err-ReadFault.ensures }
