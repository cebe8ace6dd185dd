use Rattle.std.proofs.Common.{subst}
use Rattle.directory.specs.Directory.{AreDistinct}
use Rattle.directory.proofs.Order.{same_place}
use Rattle.directory.proofs.slot_table.SlotTable.slots.Goals as goal

pub returns-clause-distinct : goal.returns-clause-distinct
returns-clause-distinct c = subst AreDistinct c.self.view_is (same_place _ _ c.self.invariant.0.index)
