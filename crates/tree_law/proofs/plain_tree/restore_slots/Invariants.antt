use Rattle.std.proofs.Common.{◌≡◌, ℕ, ◌<◌, ◌≤◌, None, get_or}
use Rattle.tree_law.specs.After.{restored_node}
use Rattle.tree_law.proofs.plain_tree.restore_slots.Given as goal

abbrev pub invariant-loop-slot : goal.invariant-loop-slot
invariant-loop-slot l =
    ((k : ℕ) → k < l.slot-index → get_or l.slots k None ≡ restored_node l.client (get_or l.initial.slots k None))
    × ((k : ℕ) → l.slot-index ≤ k → get_or l.slots k None ≡ get_or l.initial.slots k None)
