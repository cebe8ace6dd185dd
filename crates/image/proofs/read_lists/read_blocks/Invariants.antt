use Rattle.std.proofs.Common.{◌≡◌, ◌≤◌, ◌-◌, ◌/◌, ◌%◌, Ok, length}
use Rattle.image.specs.Damage.{LacksBlock, Loads}
use Rattle.image.specs.Mount.{ReadsOnly, Told}
use Rattle.image.proofs.read_lists.read_blocks.Given as goal

abbrev pub invariant-loop-directory : goal.invariant-loop-directory
invariant-loop-directory g l = record {
  reads : ReadsOnly (LacksBlock l.number) (g.D.PortDisk.means l.fn.disk) l.port.view (g.D.PortDisk.fault_count l.fn.disk) (Ok tt) (g.D.PortDisk.means l.disk) (g.D.PortDisk.fault_count l.disk);
  loaded : Told (g.D.PortDisk.means l.fn.disk) (λ sectors. Loads sectors l.inode (length l.directory / 128) l.directory);
  whole : length l.directory % 128 ≡ 0;
  few : length l.directory ≤ l.end;
}

abbrev pub decreases-loop-directory : goal.decreases-loop-directory
decreases-loop-directory g l = l.end - length l.directory
