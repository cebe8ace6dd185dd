-- What may come with a grant.
use Rattle.std.specs.Prelude.{◌≡◌, ◌<◌, ℕ, true, false, ⊤, List, Option, Some, None}
use Rattle.cal_base.specs.Limits.{inodes}
use Rattle.cal_base.specs.declared.identity.Ino.{Ino}
use Rattle.client_cache.specs.declared.cached_inode.CachedInode.{CachedInode}
use Rattle.client_cache.specs.Follows.{is_under_way}
use Rattle.client_cache.specs.Holds.{is_held}
use Rattle.client_cache.specs.Known.{Known, flush_at, inode_at}
use Rattle.client_facts.specs.Leaves.{HoldsBytes, HoldsSize}
use Rattle.token_kind.specs.declared.«class».Class.{Class}
use Rattle.token_kind.specs.declared.«class».Class.TheVariants.{Names, Data, Attr, Open}
use Rattle.token_kind.specs.declared.content.Content.{Content}
use Rattle.token_kind.specs.declared.content.Content.TheVariants.{Nothing as Empty, Names as Entries, Bytes, Size}
use Rattle.token_kind.specs.declared.flush.Flush.{Flush}
use Rattle.token_kind.specs.declared.grant_item.GrantItem.{GrantItem}
use Rattle.token_kind.specs.declared.hold.Hold.{Hold}
use Rattle.token_kind.specs.declared.hold.Hold.TheVariants.{Write}
use Rattle.tree_law.specs.PartOf.{HasEntries, HasSize}
use Rattle.tree_law.specs.Tree.{Tree, node_at}
use Rattle.tree_law.specs.declared.node.Node.{Node}
use Rattle.tree_law.specs.declared.node.Node.TheVariants.{Directory, Regular}

-- bytes are those of a file, if one stands there: the present ones, which all last
abbrev pub HasLasting : Option Node → List ℕ → Type 0
HasLasting (Some (Directory names)) bytes = ⊤
HasLasting (Some (Regular file)) bytes = (file.contents ≡ bytes) × (file.kept ≡ bytes)
HasLasting None bytes = ⊤

-- bytes that come are the file's, and where bytes are held already none of them is unflushed
pub record BringsBytes (inode : CachedInode) (node : Option Node) (bytes : List ℕ) : Type 0 where
  pub lasting : HasLasting node bytes
  pub flushed : is_held inode.holds.contents ≡ true → inode.file.unflushed ≡ false

-- what comes with an item is of its class, and the tree's. An item of Open brings nothing, and another one may
-- bring nothing only where something is held, also by what an outstanding flush leaves that is in the tree
abbrev pub Brings : Tree → ℕ → Ino → CachedInode → Option Flush → Class → Content → Type 0
Brings tree done ino inode flush Names Empty = is_held inode.holds.names ≡ true
Brings tree done ino inode flush Names (Entries entries) = HasEntries tree (node_at tree ino) entries
Brings tree done ino inode flush Names (Bytes bytes) = ⊥
Brings tree done ino inode flush Names (Size size) = ⊥
Brings tree done ino inode flush Data Empty = HoldsBytes done inode flush
Brings tree done ino inode flush Data (Entries entries) = ⊥
Brings tree done ino inode flush Data (Bytes bytes) = BringsBytes inode (node_at tree ino) bytes
Brings tree done ino inode flush Data (Size size) = ⊥
Brings tree done ino inode flush Attr Empty = HoldsSize done inode flush
Brings tree done ino inode flush Attr (Entries entries) = ⊥
Brings tree done ino inode flush Attr (Bytes bytes) = ⊥
Brings tree done ino inode flush Attr (Size size) = HasSize (node_at tree ino) size
Brings tree done ino inode flush Open Empty = ⊤
Brings tree done ino inode flush Open (Entries entries) = ⊥
Brings tree done ino inode flush Open (Bytes bytes) = ⊥
Brings tree done ino inode flush Open (Size size) = ⊥

-- no flush of the file is under way, and where something of it is unflushed, Write stays held
pub record KeepsWrites (done : ℕ) (inode : CachedInode) (flush : Option Flush) (hold : Hold) : Type 0 where
  pub no_flush : is_under_way done flush ≡ false
  pub write : inode.file.unflushed ≡ true → hold ≡ Write

-- that is so where Data or Attr comes
abbrev pub MayCome : ℕ → CachedInode → Option Flush → Class → Hold → Type 0
MayCome done inode flush Names hold = ⊤
MayCome done inode flush Data hold = KeepsWrites done inode flush hold
MayCome done inode flush Attr hold = KeepsWrites done inode flush hold
MayCome done inode flush Open hold = ⊤

-- an item of a grant may be taken
pub record MayTake (tree : Tree) (done : ℕ) (known : Known) (item : GrantItem) : Type 0 where
  pub inside : item.ino.0 < inodes
  pub comes : MayCome done (inode_at known item.ino) (flush_at known item.ino) item.«class» item.hold
  pub brings : Brings tree done item.ino (inode_at known item.ino) (flush_at known item.ino) item.«class» item.content
