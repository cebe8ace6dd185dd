use Rattle.std.proofs.Common.{◌≡◌, ◌≤◌, ◌+◌, ◌-◌, ℕ, List, [], ◌∷◌, ◌++◌, Option, Some, None, replicate, sym, ap, ◌∙◌, arith}
use Rattle.std.proofs.lemmas.Grind.{replicate_next}
use Rattle.tree_law.specs.declared.node.Node.{Node}
use Rattle.tree_law.specs.Tree.{first_nodes, empty_directory}
use Rattle.tree_law.proofs.plain_tree.first_nodes.Goals as goal

one_free_more : (i : ℕ) (nodes longer : List (Option Node)) → 1 ≤ i → longer ≡ nodes ++ None ∷ [] → nodes ≡ Some empty_directory ∷ replicate (i - 1) None → longer ≡ Some empty_directory ∷ replicate (i + 1 - 1) None
one_free_more i nodes longer from pushed is =
    let count : i + 1 - 1 ≡ (i - 1) + 1 = omega arith in
    rw (pushed, is, count) (ap (λ (rest : List (Option Node)). Some empty_directory ∷ rest) (sym (replicate_next (i - 1) None)))

pub loop-i-preserved : goal.loop-i-preserved
loop-i-preserved c = one_free_more _ _ _ (omega arith) c.in_ok-push-2.ensures.items c.loop-i.invariant

pub returns : goal.returns
unfolding first_nodes
returns c =
    let last : c.loop-i._i ≡ 512 = omega arith in
    c.loop-i.invariant ∙ ap (λ (i : ℕ). Some empty_directory ∷ replicate (i - 1) None) last
