use Rattle.std.proofs.Common.{◌≡◌, ◌++◌, drop, map, Ok}
use Rattle.tree_law.specs.Needs.{walk_needs}
use Rattle.tree_law.specs.Tree.{root}
use Rattle.volume_plan.specs.Shown.{shown}
use Rattle.image.specs.Needed.{needed}
use Rattle.image.proofs.image.Image.put_walk.Given as goal

abbrev pub invariant-loop-name : goal.invariant-loop-name
invariant-loop-name l = map needed l.tokens ++ walk_needs (shown l.self) (Ok l.at) (drop l.name-index l.path) ≡ map needed l.fn.tokens ++ walk_needs (shown l.self) (Ok root) l.path
