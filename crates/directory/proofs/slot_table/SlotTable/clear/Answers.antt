use Rattle.std.proofs.Common.{arith}
use Rattle.directory.proofs.Tables.{table_empty_slot}
use Rattle.directory.proofs.slot_table.SlotTable.clear.Goals as goal

pub invariant_of-self : goal.invariant_of-self
invariant_of-self c =
    let least = c.min-self-inside.ensures in
    let capacity = c.remove.ensures.capacity in
    rw c.take_entry.ensures.empty (
      table_empty_slot c.self.inside.slots.items _ _ _ _ _ _ _ c.self.invariant.0 c.deref-2.ensures.value c.rank-at.ensures.within c.rank-at.ensures.is c.remove.ensures.items (omega arith) (omega arith),
      c.self.invariant.1,
      omega (arith, c.self.invariant.2),
    )
