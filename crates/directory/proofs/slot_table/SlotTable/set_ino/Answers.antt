use Rattle.directory.proofs.Tables.{table_set_ino}
use Rattle.directory.proofs.slot_table.SlotTable.set_ino.Goals as goal

pub invariant_of-self : goal.invariant_of-self
invariant_of-self c = (
  table_set_ino _ c.self.inside.slots.items _ _ _ _ _ _ _ c.self.invariant.0 c.self.view_is c.in-Some.ensures.found c.index_mut.ensures.value c.change_ino.ensures,
  c.self.invariant.1,
  c.self.invariant.2,
)
