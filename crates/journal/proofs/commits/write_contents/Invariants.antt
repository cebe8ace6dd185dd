use Rattle.std.proofs.Common.{◌≤◌, ◌+◌, take, Ok}
use Rattle.fence.specs.Writes.{Runs}
use Rattle.journal.specs.Layout.{contents_at}
use Rattle.journal.proofs.commits.write_contents.Given as goal

abbrev pub invariant-loop-i : goal.invariant-loop-i
invariant-loop-i g l =
    let means = g.D.PortDisk.means in
    let faults = g.D.PortDisk.fault_count in
    record {
      runs : Runs l.fn.port (means l.fn.disk) (faults l.fn.disk) (contents_at 3 (take l.i l.homes)) (Ok tt) l.port (means l.disk) (faults l.disk);
      room : (means l.fn.disk).room ≤ (means l.disk).room + l.i;
    }
