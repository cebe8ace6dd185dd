use Rattle.std.proofs.Common.{◌≡◌, ◌⊎◌, ◌≤◌, ◌<◌, ◌-◌, ◌%◌, length, vec_capacity}
use Rattle.shared_disk.specs.Sectors.{written}
use Rattle.image.specs.FileRead.{AreFirstBytes}
use Rattle.image.specs.Mount.{Told}
use Rattle.image.proofs.Filling.{AreHolesTo}
use Rattle.image.proofs.file_read.read_blocks.Given as goal

abbrev pub invariant-loop-into : goal.invariant-loop-into
invariant-loop-into g l = record {
  same : g.D.PortDisk.means l.disk ≡ g.D.PortDisk.means l.fn.disk;
  later : g.D.PortDisk.fault_count l.fn.disk ≤ g.D.PortDisk.fault_count l.disk;
  few : length l.into.items ≤ l.inode.size;
  whole : length l.into.items < l.inode.size → length l.into.items % 4096 ≡ 0;
  room : l.inode.size ≤ vec_capacity l.into;
  bytes : Told (g.D.PortDisk.means l.fn.disk) (λ sectors. AreFirstBytes (written sectors l.writes) l.inode l.into.items);
  key : AreHolesTo l.inode (length l.into.items) ⊎ ((g.D.PortDisk.means l.fn.disk).key ≡ l.port.view);
}

abbrev pub decreases-loop-into : goal.decreases-loop-into
decreases-loop-into g l = l.inode.size - length l.into.items
