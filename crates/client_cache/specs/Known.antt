-- What a client knows and may answer from.
use Rattle.std.specs.Prelude.{ℕ, Bool, true, false, ◌&&◌, nat_eq, find, is_none, List, [], Option, Some, None, slice_index_or, replicate}
use Rattle.cal_base.specs.Limits.{inodes}
use Rattle.cal_base.specs.declared.identity.Ino.{Ino}
use Rattle.delayed_write.specs.Delayed.{clean}
use Rattle.token_kind.specs.declared.flush.Flush.{Flush}
use Rattle.tree_law.specs.Part.{Part}
use Rattle.tree_law.specs.Tree.{no_descriptors}
use Rattle.tree_law.specs.declared.descriptor.Descriptor.{Descriptor}
use Rattle.client_cache.specs.declared.cached_inode.CachedInode.{CachedInode}
use Rattle.client_cache.specs.Holds.{is_held, no_holds}

-- what it holds and has of each of the 512 inodes; its 32 descriptors; its outstanding flushes, in the order
-- of their numbers; the number of its last flush
pub record Known : Type 0 where
  pub inodes : List CachedInode
  pub table : List (Option Descriptor)
  pub flushes : List Flush
  pub last_flush : ℕ

-- an inode of which nothing is held
abbrev pub nothing_known : CachedInode
nothing_known = record { holds = no_holds; entries = []; file = clean []; size = 0 }

-- what a client knows at first: it holds nothing, has no descriptor in use, and has made no flush
unfoldable pub first_known : Known
first_known = record { inodes = replicate inodes nothing_known; table = no_descriptors; flushes = []; last_flush = 0 }

abbrev pub inode_at : Known → Ino → CachedInode
inode_at known ino = slice_index_or known.inodes ino.0 nothing_known

-- a flush is of this file
abbrev pub is_flush_of : Ino → Flush → Bool
is_flush_of ino flush = nat_eq flush.ino.0 ino.0

-- the outstanding flush of a file
abbrev pub flush_at : Known → Ino → Option Flush
flush_at known ino = find (is_flush_of ino) known.flushes

abbrev pub is_settled : Known → Ino → Bool
is_settled known ino = is_none (flush_at known ino)

abbrev pub known_if : {X : Type 0} → Bool → X → Option X
known_if true x = Some x
known_if false x = None

-- what of it is a part of the tree: the entries where Names is held, and of a file without an outstanding
-- flush the bytes where Data is held and the size where Attr is held; and the descriptors
abbrev pub part_of : Known → Part
part_of known = record {
  entries = λ ino. known_if (is_held (inode_at known ino).holds.names) (inode_at known ino).entries;
  contents = λ ino. known_if (is_held (inode_at known ino).holds.contents && is_settled known ino) (inode_at known ino).file.contents;
  size = λ ino. known_if (is_held (inode_at known ino).holds.attr && is_settled known ino) (inode_at known ino).size;
  table = known.table;
}
