-- What a name of a directory stands for.
use Rattle.std.specs.Prelude.{◌≡◌, ◌≢◌, ◌≤◌, ℕ, List, None, Ok}
use Rattle.cal_base.specs.declared.identity.Ino.{Ino}
use Rattle.tree_law.specs.Tree.{Tree, node_at}
use Rattle.tree_law.specs.Resolve.{looked_up}

-- a name in a directory stands for this inode
abbrev pub StandsFor : Tree → Ino → List ℕ → Ino → Type 0
StandsFor tree directory name ino = looked_up (node_at tree directory) name ≡ Ok ino

-- a number that isn't the root's, at which something stands
pub record IsTaken (tree : Tree) (ino : Ino) : Type 0 where
  pub from_one : 1 ≤ ino.0
  pub to_511 : ino.0 ≤ 511
  pub there : node_at tree ino ≢ None

-- two names are one name in one directory
pub record IsSameName (directory other : Ino) (name goal : List ℕ) : Type 0 where
  pub directories : directory.0 ≡ other.0
  pub names : name ≡ goal
