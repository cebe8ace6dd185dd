use Rattle.std.proofs.Common.{◌≡◌, drop, Ok}
use Rattle.tree_law.specs.Resolve.{walked, resolved}
use Rattle.tree_law.proofs.resolving.resolve.Given as goal

abbrev pub invariant-loop-name : goal.invariant-loop-name
invariant-loop-name g l = walked (g.L.Lookup.shows l.nodes) (Ok l.at) (drop l.name-index l.path) ≡ resolved (g.L.Lookup.shows l.nodes) l.path
