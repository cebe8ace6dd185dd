use Rattle.std.proofs.Common.{rules, ◌∙◌, sym}
use Rattle.tree_law.proofs.Placing.{placed}
use Rattle.tree_law.proofs.resolving.new_place.Goals as goal

pub returns-in-Ok : goal.returns-in-Ok
returns-in-Ok g c = c.room_for.ensures ∙ placed (g.L.Lookup.shows c.args.nodes.now) c.args.path.now _ c.in-Ok.ino (search rules) c.index-path-count.is (sym c.resolve.ensures ∙ c.in-Ok.is)
