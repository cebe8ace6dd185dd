use Rattle.directory.proofs.Tables.{gap_is_absent}
use Rattle.directory.proofs.slot_table.SlotTable.find.Goals as goal

pub returns-in-Err-clause-absent : goal.returns-in-Err-clause-absent
returns-in-Err-clause-absent c =
    gap_is_absent _ _ _ _ _ _ _ _ c.self.invariant.0 c.self.view_is c.deref.ensures.value c.deref-2.ensures.value c.in-Err.ensures.absent
