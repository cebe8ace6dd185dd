use Rattle.std.proofs.Common.{take, Ok}
use Rattle.fence.specs.Writes.{Runs}
use Rattle.fence.proofs.port.Port.write_all.Given as goal

abbrev pub invariant-loop-sector : goal.invariant-loop-sector
invariant-loop-sector g l =
    let means = g.D.PortDisk.means in
    let faults = g.D.PortDisk.fault_count in
    Runs l.fn.self (means l.fn.disk) (faults l.fn.disk) (take l.sector-index l.writes) (Ok tt) l.self (means l.disk) (faults l.disk)
