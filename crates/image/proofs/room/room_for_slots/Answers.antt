use Rattle.std.proofs.Common.{◌≡◌, ◌∙◌, ℕ, ap, arith, replicate}
use Rattle.volume_edit.specs.Edit.{first_slot}
use Rattle.image.specs.Image.{fresh_slots}
use Rattle.image.proofs.room.room_for_slots.Goals as goal

pub returns : goal.returns
unfolding fresh_slots
returns c =
    let last : c.loop-client._client ≡ 16 = omega arith in
    c.loop-client.invariant ∙ ap (λ (n : ℕ). replicate n first_slot) last
