use Rattle.std.proofs.Common.{◌≡◌, ◌≤◌, ◌+◌, take, Ok}
use Rattle.journal.specs.Layout.{body, homes_in, with_contents}
use Rattle.journal.specs.Replay.{Attempts}
use Rattle.journal.proofs.write_back.copy_all.Given as goal

abbrev pub invariant-loop-i : goal.invariant-loop-i
invariant-loop-i g l =
    let means = g.D.PortDisk.means in
    let faults = g.D.PortDisk.fault_count in
    record {
      attempts : Attempts (λ s. take l.i (with_contents (homes_in l.header) (body s))) l.i l.fn.port (means l.fn.disk) (faults l.fn.disk) (Ok tt) l.port (means l.disk) (faults l.disk);
      own : (means l.disk).key ≡ l.port.view;
      room : (means l.fn.disk).room ≤ (means l.disk).room + l.i;
    }
