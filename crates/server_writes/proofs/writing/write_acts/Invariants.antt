use Rattle.std.proofs.Common.{take, Ok}
use Rattle.fence.specs.Writes.{Runs}
use Rattle.server_writes.proofs.Planning.{planned}
use Rattle.server_writes.proofs.writing.write_acts.Given as goal

abbrev pub invariant-loop-act : goal.invariant-loop-act
invariant-loop-act g l =
    let means = g.D.PortDisk.means in
    let faults = g.D.PortDisk.fault_count in
    Runs l.fn.port (means l.fn.disk) (faults l.fn.disk) (planned (take l.act-index l.acts)) (Ok tt) l.port (means l.disk) (faults l.disk)
