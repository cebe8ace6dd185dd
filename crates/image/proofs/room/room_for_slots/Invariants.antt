use Rattle.std.proofs.Common.{◌≡◌, replicate}
use Rattle.volume_edit.specs.Edit.{first_slot}
use Rattle.image.proofs.room.room_for_slots.Given as goal

abbrev pub invariant-loop-client : goal.invariant-loop-client
invariant-loop-client l = l.slots.items ≡ replicate l._client first_slot
