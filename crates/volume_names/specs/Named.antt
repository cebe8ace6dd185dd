-- Each name of a volume stands for something.
use Rattle.std.specs.Prelude.{◌≡◌, ◌≢◌, ℕ, true, List, Some, Ok, All, is_some}
use Rattle.std.specs.FinMap as finite
use Rattle.cal_base.specs.declared.identity.Ino.{Ino}
use Rattle.tree_law.specs.Names.{Names}
use Rattle.tree_law.specs.Resolve.{looked_up}
use Rattle.tree_law.specs.Tree.{node_at, root}
use Rattle.tree_law.specs.declared.node.Node.TheVariants.{Directory}
use Rattle.volume.specs.Volume.{Volume}
use Rattle.volume_plan.specs.Shown.{shown}

-- each name in a directory that the volume shows stands for what it shows too, no inode has two names, and the root
-- has none
pub record AreNamed (v : Volume) : Type 0 where
  pub stand : (place : Ino) (names : Names) → node_at (shown v) place ≡ Some (Directory names) → All (λ pair. is_some (node_at (shown v) pair.1) ≡ true) (finite.entries names)
  pub once : (place other : Ino) (name another : List ℕ) (ino : Ino) → looked_up (node_at (shown v) place) name ≡ Ok ino → looked_up (node_at (shown v) other) another ≡ Ok ino → (place ≡ other) × (name ≡ another)
  pub unrooted : (place : Ino) (name : List ℕ) → looked_up (node_at (shown v) place) name ≢ Ok root
