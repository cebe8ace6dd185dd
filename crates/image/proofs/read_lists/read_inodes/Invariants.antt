use Rattle.std.proofs.Common.{◌≡◌, ◌≤◌, ◌<◌, Ok, length}
use Rattle.cal_base.specs.Limits as limits
use Rattle.image.specs.Damage.{FirstInode}
use Rattle.image.specs.Mount.{AreInodesRead, MayAllStand, ReadsOnly, Told}
use Rattle.image.proofs.read_lists.read_inodes.Given as goal

abbrev pub invariant-loop-number : goal.invariant-loop-number
invariant-loop-number g l = record {
  reads : 0 < l.number → ReadsOnly FirstInode (g.D.PortDisk.means l.fn.disk) l.port.view (g.D.PortDisk.fault_count l.fn.disk) (Ok tt) (g.D.PortDisk.means l.disk) (g.D.PortDisk.fault_count l.disk);
  same : g.D.PortDisk.means l.disk ≡ g.D.PortDisk.means l.fn.disk;
  later : g.D.PortDisk.fault_count l.fn.disk ≤ g.D.PortDisk.fault_count l.disk;
  read : Told (g.D.PortDisk.means l.fn.disk) (λ sectors. AreInodesRead sectors l.number l.inodes);
  stand : MayAllStand l.number l.inodes;
  count : length l.inodes ≡ limits.inodes;
}
