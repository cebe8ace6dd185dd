use Rattle.std.proofs.Common.{◌≡◌, ◌∙◌, ℕ, sym, ap, arith}
use Rattle.tree_law.specs.Tree.{Tree}
use Rattle.tree_law.specs.Idle.{dropped, swept_below}
use Rattle.tree_law.proofs.Sweeping.{swept_none, swept_more}
use Rattle.tree_law.proofs.plain_tree.PlainTree.sweep.Goals as goal

pub loop-number-init : goal.loop-number-init
loop-number-init c = swept_none _

pub loop-number-preserved : goal.loop-number-preserved
loop-number-preserved c = c.drop_idle.ensures ∙ ap (λ (tree : Tree). dropped tree c.loop-number.number) c.loop-number.invariant ∙ sym (swept_more _ _)

pub returns : goal.returns
returns c = let last : c.loop-number.number ≡ 512 = omega arith in c.loop-number.invariant ∙ ap (λ (number : ℕ). swept_below c.args.self.now number) last
