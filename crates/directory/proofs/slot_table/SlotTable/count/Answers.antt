use Rattle.std.proofs.Common.{arith}
use Rattle.directory.proofs.Tables.{index_few}
use Rattle.directory.proofs.slot_table.SlotTable.count.Goals as goal

pub returns-clause-few : goal.returns-clause-few
returns-clause-few c = (let few = index_few _ _ _ c.self.invariant.0 in omega arith)
