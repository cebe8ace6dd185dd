use Rattle.std.proofs.Common.{◌≡◌, ◌<◌, ℕ, get_or}
use Rattle.volume_edit.specs.Edit.{first_slot}
use Rattle.image.proofs.made.clear_slots.Given as goal

abbrev pub invariant-loop-slot : goal.invariant-loop-slot
invariant-loop-slot l = (k : ℕ) → k < l.slot-index → get_or l.slots k first_slot ≡ first_slot
