use Rattle.std.proofs.Common.{◌≤◌, length}
use Rattle.run_status.proofs.Printed.{IsPrintedTo}
use Rattle.run_status.proofs.printout.write_lines.Given as goal

abbrev pub invariant-loop-rest : goal.invariant-loop-rest
invariant-loop-rest g l =
    IsPrintedTo (record { held = g.K.Sink.held l.fn.sink; faults = g.K.Sink.fault_count l.fn.sink }) (record { held = g.K.Sink.held l.sink; faults = g.K.Sink.fault_count l.sink }) l.text l.rest × (length l.rest ≤ g.K.Sink.room l.sink)

abbrev pub decreases-loop-rest : goal.decreases-loop-rest
decreases-loop-rest g l = length l.rest
