use Rattle.std.proofs.Common.{arith, ◌<◌, length}
use Rattle.directory.proofs.Tables.{table_push}
use Rattle.directory.proofs.slot_table.SlotTable.push_empty.Goals as goal

pub invariant_of-self : goal.invariant_of-self
invariant_of-self c =
    let room : length c.self.inside.slots.items < 1024 = rw c.self.view_is c.requires in
    let items = rw c.unwrap.ensures at c.push.ensures.items in
    let capacity = c.push.ensures.capacity in
    (table_push c.self.inside.slots.items _ _ _ c.self.invariant.0 room items, omega (arith, c.self.invariant.1), c.self.invariant.2)
