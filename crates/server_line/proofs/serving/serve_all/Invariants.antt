use Rattle.std.proofs.Common.{◌≡◌, ◌≢◌, ◌≤◌, length}
use Rattle.server_line.specs.Known.{SeesOwn}
use Rattle.server_line.specs.Served.{Goes, GrewBy}
use Rattle.server_line.proofs.serving.serve_all.Given as goal

abbrev pub invariant-loop-alloc : goal.invariant-loop-alloc
invariant-loop-alloc g l = record {
  goes : Goes (λ start. SeesOwn start l.port.view (g.D.PortDisk.means l.fn.disk)) ((g.D.PortDisk.means l.fn.disk).key ≢ l.port.view) l.fn.draft l.draft;
  few : GrewBy 0 l.fn.draft l.draft;
  same : g.D.PortDisk.means l.disk ≡ g.D.PortDisk.means l.fn.disk;
  later : g.D.PortDisk.fault_count l.fn.disk ≤ g.D.PortDisk.fault_count l.disk;
}

abbrev pub decreases-loop-alloc : goal.decreases-loop-alloc
decreases-loop-alloc g l = length l.draft.desk.requests
