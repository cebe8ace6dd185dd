use Rattle.std.proofs.Common.{arith, sym}
use Rattle.image.specs.Damage.{FirstNode, FirstSlot, IsDamage, LacksHead, LacksMap}
use Rattle.image.specs.Damage.IsDamage.{head, map, node, slot}
use Rattle.image.proofs.Listing.{slots_stand}
use Rattle.image.proofs.Reading.{reads_ok, reads_then, reads_widen, told_before}
use Rattle.image.proofs.mounts.read_volume.Goals as goal

pub returns-in-Err-clause-reads : goal.returns-in-Err-clause-reads
returns-in-Err-clause-reads g c = reads_widen LacksHead IsDamage _ _ _ _ _ _ (λ s at t lacks. head lacks) c.in-Err.ensures.reads

pub returns-in-Err-read_map-clause-reads : goal.returns-in-Err-read_map-clause-reads
returns-in-Err-read_map-clause-reads g c =
    let clients = c.in-Ok.ensures in
    reads_then IsDamage _ _ _ _ _ _ _ _ (reads_ok LacksHead IsDamage _ _ _ _ _ clients.reads) (reads_widen LacksMap IsDamage _ _ _ _ _ _ (λ s at t lacks.
    let one = told_before _ (g.D.PortDisk.means c.args.disk.now) s (sym clients.reads.same) t in
    map (record { clients = _; spelled = clients.ok s one }) lacks) c.in-Err-read_map.ensures.reads)

pub returns-in-Err-read_slots-clause-reads : goal.returns-in-Err-read_slots-clause-reads
returns-in-Err-read_slots-clause-reads g c =
    let clients = c.in-Ok.ensures in
    let read = c.in-Ok-read_map.ensures in
    let before = reads_then IsDamage _ _ _ _ _ _ _ _ (reads_ok LacksHead IsDamage _ _ _ _ _ clients.reads) (reads_ok LacksMap IsDamage _ _ _ _ _ read.reads) in
    reads_then IsDamage _ _ _ _ _ _ _ _ before (reads_widen FirstSlot IsDamage _ _ _ _ _ _ (λ s at t first.
    let two = told_before _ (g.D.PortDisk.means c.read_clients.new.disk) s (sym read.reads.same) t in
    let one = told_before _ (g.D.PortDisk.means c.args.disk.now) s (sym clients.reads.same) two in
    slot (record { clients = _; spelled = clients.ok s one }) (record { free = _; spelled = read.ok s two }) first) c.in-Err-read_slots.ensures.reads)

pub returns-in-Ok-read_nodes-clause-reads : goal.returns-in-Ok-read_nodes-clause-reads
returns-in-Ok-read_nodes-clause-reads g c =
    let before = reads_then IsDamage _ _ _ _ _ _ _ _ (reads_ok LacksHead IsDamage _ _ _ _ _ c.in-Ok.ensures.reads) (reads_ok LacksMap IsDamage _ _ _ _ _ c.in-Ok-read_map.ensures.reads) in
    let slots = reads_then IsDamage _ _ _ _ _ _ _ _ before (reads_ok FirstSlot IsDamage _ _ _ _ _ c.in-Ok-read_slots.ensures.reads) in
    reads_then IsDamage _ _ _ _ _ _ _ _ slots (reads_ok FirstNode IsDamage _ _ _ _ _ c.in-Ok-read_nodes.ensures.reads)

pub returns-in-Err-read_nodes-clause-reads : goal.returns-in-Err-read_nodes-clause-reads
returns-in-Err-read_nodes-clause-reads g c =
    let clients = c.in-Ok.ensures in
    let read = c.in-Ok-read_map.ensures in
    let known = c.in-Ok-read_slots.ensures in
    let count = known.count in
    let before = reads_then IsDamage _ _ _ _ _ _ _ _ (reads_ok LacksHead IsDamage _ _ _ _ _ clients.reads) (reads_ok LacksMap IsDamage _ _ _ _ _ read.reads) in
    let slots = reads_then IsDamage _ _ _ _ _ _ _ _ before (reads_ok FirstSlot IsDamage _ _ _ _ _ known.reads) in
    reads_then IsDamage _ _ _ _ _ _ _ _ slots (reads_widen FirstNode IsDamage _ _ _ _ _ _ (λ s at t first.
    let three = told_before _ (g.D.PortDisk.means c.read_map.new.disk) s (sym known.reads.same) t in
    let two = told_before _ (g.D.PortDisk.means c.read_clients.new.disk) s (sym read.reads.same) three in
    let one = told_before _ (g.D.PortDisk.means c.args.disk.now) s (sym clients.reads.same) two in
    node (record { clients = _; spelled = clients.ok s one }) (record { free = _; spelled = read.ok s two }) (slots_stand s _ 16 (omega arith) (known.ok s three)) first) c.in-Err-read_nodes.ensures.reads)

pub returns-in-Ok-read_nodes-clause-ok : goal.returns-in-Ok-read_nodes-clause-ok
returns-in-Ok-read_nodes-clause-ok g c = λ s t.
    let one = told_before (g.D.PortDisk.means c.args.disk.now) (g.D.PortDisk.means c.read_clients.new.disk) s c.in-Ok.ensures.reads.same t in
    let two = told_before (g.D.PortDisk.means c.read_clients.new.disk) (g.D.PortDisk.means c.read_map.new.disk) s c.in-Ok-read_map.ensures.reads.same one in
    let three = told_before (g.D.PortDisk.means c.read_map.new.disk) (g.D.PortDisk.means c.read_slots.new.disk) s c.in-Ok-read_slots.ensures.reads.same two in
    record {
      head_read = c.in-Ok.ensures.ok s t;
      map_read = c.in-Ok-read_map.ensures.ok s one;
      slots_read = c.in-Ok-read_slots.ensures.ok s two;
      nodes_read = c.in-Ok-read_nodes.ensures.ok s three;
    }

pub returns-in-Ok-read_nodes-clause-kept : goal.returns-in-Ok-read_nodes-clause-kept
returns-in-Ok-read_nodes-clause-kept g c = λ are. record {
  count = c.in-Ok.ensures.kept are.count;
  map_is = c.in-Ok-read_map.ensures.kept are.map_is;
  slots_are = c.in-Ok-read_slots.ensures.kept are.slots_are;
  nodes_are = c.in-Ok-read_nodes.ensures.nodes;
}

pub returns-in-Err-read_nodes-clause-kept : goal.returns-in-Err-read_nodes-clause-kept
returns-in-Err-read_nodes-clause-kept g c = λ are. record {
  count = c.in-Ok.ensures.kept are.count;
  map_is = c.in-Ok-read_map.ensures.kept are.map_is;
  slots_are = c.in-Ok-read_slots.ensures.kept are.slots_are;
  nodes_are = c.in-Err-read_nodes.ensures.nodes;
}
