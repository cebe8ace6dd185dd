use Rattle.directory.proofs.Tables.{table_empty}
use Rattle.directory.proofs.slot_table.SlotTable.room.Goals as goal

pub invariant_of-result : goal.invariant_of-result
invariant_of-result c =
    (table_empty _ _ c.in_ok-slots.ensures.items c.in_ok-index.ensures.items, c.in_ok-slots.ensures.capacity, c.in_ok-index.ensures.capacity)
