use Rattle.std.proofs.Common.{◌≡◌, ◌≤◌, take}
use Rattle.server_line.specs.Granted.{AreAnswers}
use Rattle.server_line.proofs.granting.items_for.Given as goal

abbrev pub invariant-loop-token : goal.invariant-loop-token
invariant-loop-token g l = record {
  answers : AreAnswers l.draft l.port.view (g.D.PortDisk.means l.fn.disk) l.client (take l.token-index l.lacking) l.items;
  same : g.D.PortDisk.means l.disk ≡ g.D.PortDisk.means l.fn.disk;
  later : g.D.PortDisk.fault_count l.fn.disk ≤ g.D.PortDisk.fault_count l.disk;
}
