-- What stands at all times of what a client knows.
use Rattle.std.specs.Prelude.{◌≡◌, ◌≢◌, ◌<◌, ◌≤◌, ◌^◌, ⊤, All, length, Option, Some, None, Result, Ok, Err}
use Rattle.std.specs.List.{AllPairs}
use Rattle.cal_base.specs.Limits.{descriptors, file_size, inodes}
use Rattle.delayed_write.specs.Delayed.{IsDelayed}
use Rattle.token_kind.specs.Flush.{IsFlush}
use Rattle.token_kind.specs.Hold.{hold_number}
use Rattle.token_kind.specs.declared.flush.Flush.{Flush}
use Rattle.tree_law.specs.Part.{Place}
use Rattle.tree_law.specs.declared.reply.Why.{Why}
use Rattle.tree_law.specs.declared.descriptor.Descriptor.{Descriptor}
use Rattle.client_cache.specs.declared.cached_inode.CachedInode.{CachedInode}
use Rattle.tree_law.specs.Entries.{AreEntries}
use Rattle.client_cache.specs.Known.{Known}

-- of an inode: Names and Open are held at most for reading, its entries are those of a directory, and its
-- bytes and its size are within the limits of a file
pub record IsCached (inode : CachedInode) : Type 0 where
  pub names : hold_number inode.holds.names ≤ 1
  pub «open» : hold_number inode.holds.«open» ≤ 1
  pub entries : AreEntries inode.entries
  pub file : IsDelayed inode.file
  pub size : inode.size ≤ file_size

-- a descriptor that is open stands for an inode of the volume
abbrev pub IsOpenFile : Option Descriptor → Type 0
IsOpenFile (Some descriptor) = descriptor.ino.0 < inodes
IsOpenFile None = ⊤

-- resolving ends at an inode of the volume, or nowhere
abbrev pub IsPlace : Option (Result Place Why) → Type 0
IsPlace (Some (Ok place)) = place.0.0 < inodes
IsPlace (Some (Err why)) = ⊤
IsPlace None = ⊤

-- a flush was started after another, and is of another file
pub record IsLater (flush later : Flush) : Type 0 where
  pub number : flush.number < later.number
  pub file : flush.ino.0 ≢ later.ino.0

-- there are 512 inodes and 32 descriptors; each outstanding flush is one, they stand in the order of their
-- numbers, at most one of a file, and none was started after the last
pub record IsKnown (known : Known) : Type 0 where
  pub inodes : length known.inodes ≡ inodes
  pub table : length known.table ≡ descriptors
  pub cached : All IsCached known.inodes
  pub open_files : All IsOpenFile known.table
  pub flushes : All IsFlush known.flushes
  pub order : AllPairs IsLater known.flushes
  pub started : All (λ flush. flush.number ≤ known.last_flush) known.flushes
  pub last : known.last_flush < 2 ^ 64
