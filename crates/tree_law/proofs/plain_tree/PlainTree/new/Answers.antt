use Rattle.std.proofs.Common.{◌≡◌, ◌∙◌, Bool, false, List, Option, None, length, suc, ap}
use Rattle.std.proofs.lemmas.List.{length-replicate}
use Rattle.tree_law.specs.declared.descriptor.Descriptor.{Descriptor}
use Rattle.tree_law.specs.declared.node.Node.{Node}
use Rattle.tree_law.specs.Tree.{Tree, empty_tree, first_nodes, no_descriptors}
use Rattle.tree_law.proofs.plain_tree.PlainTree.new.Goals as goal

first_count : length first_nodes ≡ 512
unfolding first_nodes
first_count = ap suc (length-replicate {A = Option Node} 511 None)

same_tree : (nodes nodes' : List (Option Node)) (tables tables' : List (List (Option Descriptor))) (purged purged' : List Bool) → nodes ≡ nodes' → tables ≡ tables' → purged ≡ purged'
    → let tree : Tree = record { nodes = nodes; tables = tables; purged = purged } in let tree' : Tree = record { nodes = nodes'; tables = tables'; purged = purged' } in tree ≡ tree'
same_tree nodes nodes' tables tables' purged purged' a b c = λ i. record { nodes = a i; tables = b i; purged = c i }

pub invariant_of-result : goal.invariant_of-result
invariant_of-result c = (ap length c.in_ok-nodes.ensures ∙ first_count, ap length c.in_ok-tables.ensures ∙ length-replicate 16 no_descriptors, ap length c.in_ok-purged.ensures ∙ length-replicate 16 false)

pub returns : goal.returns
unfolding empty_tree
returns c = same_tree _ _ _ _ _ _ c.in_ok-nodes.ensures c.in_ok-tables.ensures c.in_ok-purged.ensures
