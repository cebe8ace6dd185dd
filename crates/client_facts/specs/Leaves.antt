-- What an entry of the tree leaves as it was, as far as a client holds it.
use Rattle.std.specs.Prelude.{◌≡◌, ◌≢◌, ℕ, true, false, All, length, Option, Some, None}
use Rattle.cal_base.specs.declared.identity.ClientId.{ClientId}
use Rattle.cal_base.specs.declared.identity.Ino.{Ino}
use Rattle.client_cache.specs.declared.cached_inode.CachedInode.{CachedInode}
use Rattle.client_cache.specs.Follows.{counted_hold, has_written}
use Rattle.client_cache.specs.Holds.{is_held}
use Rattle.client_cache.specs.Known.{Known, flush_at, inode_at}
use Rattle.token_kind.specs.declared.flush.Flush.{Flush}
use Rattle.tree_law.specs.FileState.{FileState}
use Rattle.tree_law.specs.PartOf.{kind_of}
use Rattle.tree_law.specs.Tree.{Tree, descriptor_at, node_at, root, table_of}
use Rattle.tree_law.specs.declared.descriptor.Descriptor.{Descriptor}
use Rattle.tree_law.specs.declared.node.Node.{Node}
use Rattle.tree_law.specs.declared.node.Node.TheVariants.{Directory, Regular}

-- the bytes of a file are held, also by what an outstanding flush that is in the tree leaves; so is its size
abbrev pub HoldsBytes : ℕ → CachedInode → Option Flush → Type 0
HoldsBytes done inode flush = (is_held inode.holds.contents ≡ true) × (is_held (counted_hold done inode.holds.contents (λ f. f.leave_data) flush) ≡ true)

abbrev pub HoldsSize : ℕ → CachedInode → Option Flush → Type 0
HoldsSize done inode flush = (is_held inode.holds.attr ≡ true) × (is_held (counted_hold done inode.holds.attr (λ f. f.leave_attr) flush) ≡ true)

-- a file goes on: with the same bytes, present and lasting, where the client holds them; with the same size
-- where it holds that; as it was where the client has written to it; and nothing is written for the client
pub record LeavesFile (client : ClientId) (done : ℕ) (inode : CachedInode) (flush : Option Flush) (file next : FileState) : Type 0 where
  pub contents : HoldsBytes done inode flush → next.contents ≡ file.contents
  pub kept : HoldsBytes done inode flush → next.kept ≡ file.kept
  pub size : HoldsSize done inode flush → length next.contents ≡ length file.contents
  pub written : has_written done inode flush ≡ true → next ≡ file
  pub writer : next.writer ≡ Some client → file.writer ≡ Some client

-- a file is made where the client holds and has written nothing
pub record IsMadeUnheld (client : ClientId) (done : ℕ) (inode : CachedInode) (flush : Option Flush) (next : FileState) : Type 0 where
  pub bytes : is_held inode.holds.contents ≡ false
  pub size : is_held inode.holds.attr ≡ false
  pub written : has_written done inode flush ≡ false
  pub writer : next.writer ≢ Some client

-- a file that stands after the entry stood before it and goes on, or is made
abbrev pub LeavesNode : ClientId → ℕ → CachedInode → Option Flush → Option Node → FileState → Type 0
LeavesNode client done inode flush (Some (Regular file)) next = LeavesFile client done inode flush file next
LeavesNode client done inode flush (Some (Directory names)) next = IsMadeUnheld client done inode flush next
LeavesNode client done inode flush None next = IsMadeUnheld client done inode flush next

-- the root stays a directory; the client's descriptors stay, each for a file; and a directory whose entries
-- are held stays as it was, each of its entries with its kind
pub record LeavesNames (tree next : Tree) (client : ClientId) (known : Known) : Type 0 where
  pub root_stays : kind_of (node_at next root) ≡ kind_of (node_at tree root)
  pub table : table_of next client ≡ table_of tree client
  pub open_files : (fd : ℕ) (descriptor : Descriptor) → descriptor_at tree client fd ≡ Some descriptor → kind_of (node_at next descriptor.ino) ≡ kind_of (node_at tree descriptor.ino)
  pub directories : (ino : Ino) → is_held (inode_at known ino).holds.names ≡ true → node_at next ino ≡ node_at tree ino
  pub kinds : (ino : Ino) → is_held (inode_at known ino).holds.names ≡ true → All (λ entry. kind_of (node_at next entry.ino) ≡ kind_of (node_at tree entry.ino)) (inode_at known ino).entries

-- a tree that goes on to another leaves what a client holds
pub record LeavesHeld (tree next : Tree) (client : ClientId) (done : ℕ) (known : Known) : Type 0 where
  pub names : LeavesNames tree next client known
  pub files : (ino : Ino) (file : FileState) → node_at next ino ≡ Some (Regular file) → LeavesNode client done (inode_at known ino) (flush_at known ino) (node_at tree ino) file

-- a flush leaves nothing of its file that isn't held
pub record LeavesOfHeld (inode : CachedInode) (flush : Flush) : Type 0 where
  pub bytes : is_held flush.leave_data ≡ true → is_held inode.holds.contents ≡ true
  pub size : is_held flush.leave_attr ≡ true → is_held inode.holds.attr ≡ true
