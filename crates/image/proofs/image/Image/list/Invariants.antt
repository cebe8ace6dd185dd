use Rattle.std.proofs.Common.{◌≡◌, map, take}
use Rattle.volume_plan.specs.Shown.{shown}
use Rattle.image.specs.Listed.{listed_at}
use Rattle.image.proofs.image.Image.list.Given as goal

abbrev pub invariant-loop-place : goal.invariant-loop-place
invariant-loop-place l = l.entries ≡ map (listed_at (shown l.self) l.slots) (take l.place-index l.places)
