use Rattle.cluster_run.proofs.Taken.{IsTakenSo}
use Rattle.cluster_run.proofs.reading.read_all.Given as goal

abbrev pub invariant-loop : goal.invariant-loop
invariant-loop g l = IsTakenSo (record { left = g.S.Source.left l.fn.source; faults = g.S.Source.fault_count l.fn.source }) l.bytes.items (record { left = g.S.Source.left l.source; faults = g.S.Source.fault_count l.source })
