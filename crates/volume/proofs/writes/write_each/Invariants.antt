use Rattle.std.proofs.Common.{◌≤◌, ◌+◌, Ok}
use Rattle.fence.specs.Writes.{Runs}
use Rattle.volume.specs.Format.{to_each}
use Rattle.volume.proofs.writes.write_each.Given as goal

abbrev pub invariant-loop-i : goal.invariant-loop-i
invariant-loop-i g l =
    let means = g.D.PortDisk.means in
    let faults = g.D.PortDisk.fault_count in
    record {
      runs : Runs l.fn.port (means l.fn.disk) (faults l.fn.disk) (to_each l.i l.first l.from) (Ok tt) l.port (means l.disk) (faults l.disk);
      room : (means l.fn.disk).room ≤ (means l.disk).room + l.i;
    }
