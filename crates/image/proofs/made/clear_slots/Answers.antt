use Rattle.std.proofs.Common.{◌≡◌, ◌∙◌, ℕ, length, replicate, ap, arith}
use Rattle.volume_edit.specs.Edit.{first_slot}
use Rattle.image.specs.Image.{fresh_slots}
use Rattle.image.proofs.FreshMade.{all_same}
use Rattle.image.proofs.made.clear_slots.Goals as goal

pub returns : goal.returns
unfolding fresh_slots
returns c =
    let count = c.requires in
    let same : length c.loop-slot.slots ≡ 16 = omega arith in
    all_same c.loop-slot.slots first_slot first_slot (λ k below. c.loop-slot.invariant k (omega arith)) ∙ ap (λ (n : ℕ). replicate n first_slot) same
