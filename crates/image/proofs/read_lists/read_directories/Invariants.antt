use Rattle.std.proofs.Common.{◌≡◌, Ok, length}
use Rattle.cal_base.specs.Limits as limits
use Rattle.image.specs.Damage.{FirstBlock}
use Rattle.image.specs.Mount.{AreNodesRead, ReadsOnly, Told}
use Rattle.image.proofs.Listing.{AreNodesTo}
use Rattle.image.proofs.read_lists.read_directories.Given as goal

abbrev pub invariant-loop-number : goal.invariant-loop-number
invariant-loop-number g l = record {
  reads : ReadsOnly FirstBlock (g.D.PortDisk.means l.fn.disk) l.port.view (g.D.PortDisk.fault_count l.fn.disk) (Ok tt) (g.D.PortDisk.means l.disk) (g.D.PortDisk.fault_count l.disk);
  read : Told (g.D.PortDisk.means l.fn.disk) (λ sectors. AreNodesRead sectors l.number l.inodes l.directories);
  nodes : AreNodesTo l.number l.inodes l.directories;
  count : length l.directories ≡ limits.inodes;
}
