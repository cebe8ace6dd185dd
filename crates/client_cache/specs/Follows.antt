-- What a client knows follows a tree that goes on by entries: its own calls and flushes, and those of others.
use Rattle.std.specs.Prelude.{◌≡◌, ◌↔◌, ◌||◌, ℕ, Bool, true, false, nat_le, nat_lt, length, Option, Some, None, if◌then◌else◌}
use Rattle.cal_base.specs.declared.directory_entry.EntryKind.TheVariants.{File as IsFile, Directory as IsDirectory}
use Rattle.cal_base.specs.declared.identity.ClientId.{ClientId}
use Rattle.cal_base.specs.declared.identity.Ino.{Ino}
use Rattle.delayed_write.specs.Delayed.{Turns}
use Rattle.token_kind.specs.Flush.{IsFlushed}
use Rattle.token_kind.specs.declared.flush.Flush.{Flush}
use Rattle.token_kind.specs.declared.hold.Hold.{Hold}
use Rattle.token_kind.specs.declared.hold.Hold.TheVariants.{Write}
use Rattle.tree_law.specs.FileState.{FileState}
use Rattle.tree_law.specs.PartOf.{HasEntries, IsKind}
use Rattle.tree_law.specs.Tree.{Tree, descriptor_at, node_at, root, table_of}
use Rattle.tree_law.specs.declared.descriptor.Descriptor.{Descriptor}
use Rattle.tree_law.specs.declared.node.Node.TheVariants.{Regular}
use Rattle.client_cache.specs.declared.cached_inode.CachedInode.{CachedInode}
use Rattle.client_cache.specs.Holds.{is_held}
use Rattle.client_cache.specs.Known.{Known, flush_at, inode_at}

-- the hold that counts for others: once the outstanding flush of a file is in the tree, which has the client's
-- flushes up to a number, what that leaves; before that the hold
abbrev pub counted_hold : ℕ → Hold → (Flush → Hold) → Option Flush → Hold
counted_hold done hold leaves None = hold
counted_hold done hold leaves (Some flush) = if nat_le flush.number done then leaves flush else hold

-- a flush is outstanding that isn't in the tree yet
abbrev pub is_under_way : ℕ → Option Flush → Bool
is_under_way done None = false
is_under_way done (Some flush) = nat_lt done flush.number

-- the client has written to the file since the tree's last flush of it
abbrev pub has_written : ℕ → CachedInode → Option Flush → Bool
has_written done inode flush = inode.file.unflushed || is_under_way done flush

-- of a file with this outstanding flush, where the tree has the client's flushes up to a number: the bytes and
-- the size that are held and count are the tree's; what is unflushed, or else the flush under way, turns what
-- lasts into the present bytes; the client is the writer exactly where it has written, and then holds Write
-- of both; and nothing is unflushed beside a flush
pub record FollowsFile (client : ClientId) (done : ℕ) (inode : CachedInode) (flush : Option Flush) (file : FileState) : Type 0 where
  pub contents : is_held inode.holds.contents ≡ true → is_held (counted_hold done inode.holds.contents (λ f. f.leave_data) flush) ≡ true → file.contents ≡ inode.file.contents
  pub size : is_held inode.holds.attr ≡ true → is_held (counted_hold done inode.holds.attr (λ f. f.leave_attr) flush) ≡ true → length file.contents ≡ inode.size
  pub turns : is_held inode.holds.contents ≡ true → is_held (counted_hold done inode.holds.contents (λ f. f.leave_data) flush) ≡ true → is_under_way done flush ≡ false → Turns file.kept inode.file
  pub flushes : (f : Flush) → flush ≡ Some f → is_under_way done flush ≡ true → IsFlushed file.kept f.size f.cut f.pieces file.contents
  pub writer : (file.writer ≡ Some client) ↔ (has_written done inode flush ≡ true)
  pub writes_bytes : has_written done inode flush ≡ true → inode.holds.contents ≡ Write
  pub writes_size : has_written done inode flush ≡ true → inode.holds.attr ≡ Write
  pub one_place : (f : Flush) → flush ≡ Some f → inode.file.unflushed ≡ false

-- what is known follows a tree that has the client's flushes up to a number: the descriptors are the client's,
-- held entries are the tree's, and so is each file
pub record Follows (tree : Tree) (client : ClientId) (done : ℕ) (known : Known) : Type 0 where
  pub root_is : IsKind tree root IsDirectory
  pub table : known.table ≡ table_of tree client
  pub open_files : (fd : ℕ) (descriptor : Descriptor) → descriptor_at tree client fd ≡ Some descriptor → IsKind tree descriptor.ino IsFile
  pub entries : (ino : Ino) → is_held (inode_at known ino).holds.names ≡ true → HasEntries tree (node_at tree ino) (inode_at known ino).entries
  pub files : (ino : Ino) (file : FileState) → node_at tree ino ≡ Some (Regular file) → FollowsFile client done (inode_at known ino) (flush_at known ino) file
