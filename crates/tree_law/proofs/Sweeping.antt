-- Dropping idle files number by number.
use Rattle.std.proofs.Common.{◌≡◌, ◌+◌, ℕ, suc, refl, arith}
use Rattle.tree_law.specs.Tree.{Tree}
use Rattle.tree_law.specs.Idle.{dropped, swept_below}

pub swept_none : (tree : Tree) → tree ≡ swept_below tree 0
unfolding swept_below
swept_none tree = refl

swept_suc : (tree : Tree) (number : ℕ) → swept_below tree (suc number) ≡ dropped (swept_below tree number) number
unfolding swept_below
swept_suc tree number = refl

-- one number more is swept
pub swept_more : (tree : Tree) (number : ℕ) → swept_below tree (number + 1) ≡ dropped (swept_below tree number) number
swept_more tree number = let same : number + 1 ≡ suc number = omega arith in rw (same) (swept_suc tree number)
