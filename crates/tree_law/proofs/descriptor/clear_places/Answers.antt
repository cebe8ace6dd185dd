use Rattle.std.proofs.Common.{◌≡◌, ◌∙◌, ℕ, None, length, replicate, ap, arith}
use Rattle.tree_law.proofs.Places.{all_none}
use Rattle.tree_law.proofs.descriptor.clear_places.Goals as goal

pub returns : goal.returns
returns c =
    let same : length c.loop-place.places ≡ length c.args.places.now = omega arith in
    all_none c.loop-place.places (λ k below. c.loop-place.invariant k (omega arith)) ∙ ap (λ (n : ℕ). replicate n None) same
