use Rattle.std.proofs.Common.{arith}
use Rattle.directory.proofs.Tables.{table_empty}
use Rattle.directory.proofs.slot_table.SlotTable.clear_all.Goals as goal

pub invariant_of-self : goal.invariant_of-self
invariant_of-self c =
    let slots = c.clear.ensures.capacity in
    let index = c.clear-2.ensures.capacity in
    (table_empty _ _ c.clear.ensures.items c.clear-2.ensures.items, omega (arith, c.self.invariant.1), omega (arith, c.self.invariant.2))
