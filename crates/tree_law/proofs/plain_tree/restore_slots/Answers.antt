use Rattle.std.proofs.Common.{arith}
use Rattle.tree_law.specs.After.{restored_node}
use Rattle.tree_law.proofs.Places.{same_places}
use Rattle.tree_law.proofs.plain_tree.restore_slots.Goals as goal

pub returns : goal.returns
returns c = same_places (restored_node c.args.client) c.args.slots.now c.loop-slot.slots (omega arith) (λ k below. c.loop-slot.invariant.0 k (omega arith))
