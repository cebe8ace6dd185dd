use Rattle.std.proofs.Common.{sym, ◌∙◌}
use Rattle.tree_law.proofs.Walks.{walk_on, walk_ends}
use Rattle.tree_law.proofs.resolving.resolve.Goals as goal

pub loop-name-preserved : goal.loop-name-preserved
loop-name-preserved g c = sym (walk_on (g.L.Lookup.shows c.args.nodes.now) _ _ _ _ _ c.loop-name-test.true c.name-item.is (sym c.in-Ok.ensures)) ∙ c.loop-name.invariant

pub returns-in-Err : goal.returns-in-Err
returns-in-Err g c = sym (walk_ends (g.L.Lookup.shows c.args.nodes.now) _ _ _ _ _ c.loop-name-test.true c.name-item.is (sym c.in-Err.ensures)) ∙ c.loop-name.invariant
