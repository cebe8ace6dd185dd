-- When what a client knows is that of a tree.
use Rattle.std.specs.Prelude.{◌≡◌, true, Some}
use Rattle.cal_base.specs.declared.identity.ClientId.{ClientId}
use Rattle.cal_base.specs.declared.identity.Ino.{Ino}
use Rattle.delayed_write.specs.Delayed.{Turns}
use Rattle.tree_law.specs.FileState.{FileState}
use Rattle.tree_law.specs.PartOf.{IsPartOf}
use Rattle.tree_law.specs.Tree.{Tree, node_at}
use Rattle.tree_law.specs.declared.node.Node.TheVariants.{Regular}
use Rattle.client_cache.specs.Holds.{is_held}
use Rattle.client_cache.specs.Known.{Known, inode_at, is_settled, part_of}

-- held entries, bytes and sizes are the tree's, but of files with an outstanding flush; the descriptors are
-- the client's; and the flush of a file whose bytes are held turns what lasts of it into its present bytes
pub record Agrees (tree : Tree) (client : ClientId) (known : Known) : Type 0 where
  pub part : IsPartOf tree client (part_of known)
  pub turns : (ino : Ino) (file : FileState) → node_at tree ino ≡ Some (Regular file) → is_held (inode_at known ino).holds.contents ≡ true
      → is_settled known ino ≡ true → Turns file.kept (inode_at known ino).file
