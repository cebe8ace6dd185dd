use Rattle.std.proofs.Common.{◌≡◌, ◌≤◌, ◌<◌, Ok, length}
use Rattle.image.specs.Damage.{FirstSlot}
use Rattle.image.specs.Mount.{AreSlots, AreSlotsRead, ReadsOnly, Told}
use Rattle.image.proofs.read_lists.read_slots.Given as goal

abbrev pub invariant-loop-client : goal.invariant-loop-client
invariant-loop-client g l = record {
  reads : 0 < l.client → ReadsOnly FirstSlot (g.D.PortDisk.means l.fn.disk) l.port.view (g.D.PortDisk.fault_count l.fn.disk) (Ok tt) (g.D.PortDisk.means l.disk) (g.D.PortDisk.fault_count l.disk);
  same : g.D.PortDisk.means l.disk ≡ g.D.PortDisk.means l.fn.disk;
  later : g.D.PortDisk.fault_count l.fn.disk ≤ g.D.PortDisk.fault_count l.disk;
  read : Told (g.D.PortDisk.means l.fn.disk) (λ sectors. AreSlotsRead sectors l.client l.slots);
  kept : AreSlots l.fn.slots → AreSlots l.slots;
  count : length l.slots ≡ 16;
}
