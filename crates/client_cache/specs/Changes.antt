-- What a grant, a lowering and a flush make of what a client knows.
use Rattle.std.specs.Prelude.{◌+◌, ◌++◌, ◌∷◌, ◌≤◌, ℕ, Bool, true, ⊤, not, nat_eq, find, filter, map, length, [], Option, Some, None, slice_set, if◌then◌else◌}
use Rattle.cal_base.specs.Limits.{file_size}
use Rattle.cal_base.specs.declared.identity.Ino.{Ino}
use Rattle.delayed_write.specs.Delayed.{clean, flush_of}
use Rattle.token_kind.specs.Hold.{lesser_of}
use Rattle.token_kind.specs.declared.«class».Class.{Class}
use Rattle.token_kind.specs.declared.«class».Class.TheVariants.{Names, Data, Attr, Open}
use Rattle.token_kind.specs.declared.content.Content.{Content}
use Rattle.token_kind.specs.declared.content.Content.TheVariants.{Nothing as Empty, Names as Entries, Bytes, Size}
use Rattle.token_kind.specs.declared.flush.Flush.{Flush}
use Rattle.token_kind.specs.declared.grant_item.GrantItem.{GrantItem}
use Rattle.token_kind.specs.declared.hold.Hold.{Hold}
use Rattle.token_kind.specs.declared.hold.Hold.TheVariants.{None as Nothing, Read, Write}
use Rattle.client_cache.specs.declared.cached_inode.CachedInode.{CachedInode}
use Rattle.client_cache.specs.declared.flushes.Left.{Left}
use Rattle.tree_law.specs.Entries.{AreEntries}
use Rattle.client_cache.specs.Holds.{hold_in, is_held, with_hold}
use Rattle.client_cache.specs.Known.{Known, inode_at}

-- another hold in a class
abbrev pub holding : CachedInode → Class → Hold → CachedInode
holding inode cls hold = record { holds = with_hold inode.holds cls hold; entries = inode.entries; file = inode.file; size = inode.size }

-- what comes with a grant takes the place of what was known; nothing takes the place of nothing
abbrev pub with_content : CachedInode → Content → CachedInode
with_content inode Empty = inode
with_content inode (Entries entries) = record { holds = inode.holds; entries = entries; file = inode.file; size = inode.size }
with_content inode (Bytes bytes) = record { holds = inode.holds; entries = inode.entries; file = clean bytes; size = inode.size }
with_content inode (Size size) = record { holds = inode.holds; entries = inode.entries; file = inode.file; size = size }

abbrev pub granted : CachedInode → Class → Hold → Content → CachedInode
granted inode cls hold content = holding (with_content inode content) cls hold

-- a flush that leaves another hold of a class
abbrev pub leaving : Class → Hold → Flush → Flush
leaving Names hold flush = flush
leaving Data hold flush = record { number = flush.number; ino = flush.ino; size = flush.size; cut = flush.cut; leave_data = hold; leave_attr = flush.leave_attr; pieces = flush.pieces }
leaving Attr hold flush = record { number = flush.number; ino = flush.ino; size = flush.size; cut = flush.cut; leave_data = flush.leave_data; leave_attr = hold; pieces = flush.pieces }
leaving Open hold flush = flush

-- a flush leaves another hold of a class, if it is of this file
abbrev pub raised : Ino → Class → Hold → Flush → Flush
raised ino cls hold flush = if nat_eq flush.ino.0 ino.0 then leaving cls hold flush else flush

-- an item is taken: the granted hold is held, what came along is known, and the outstanding flush of the
-- file, if there is one, leaves the granted hold too; a flush leaves at most Read
abbrev pub after_take : Known → GrantItem → Known
after_take known item = record {
  inodes = slice_set known.inodes item.ino.0 (granted (inode_at known item.ino) item.«class» item.hold item.content);
  table = known.table;
  flushes = map (raised item.ino item.«class» (lesser_of item.hold Read)) known.flushes;
  last_flush = known.last_flush;
}

-- what may come with a grant: entries that a directory may have, bytes that a file may have, or their size
abbrev pub IsContent : Content → Type 0
IsContent Empty = ⊤
IsContent (Entries entries) = AreEntries entries
IsContent (Bytes bytes) = length bytes ≤ file_size
IsContent (Size size) = size ≤ file_size

-- without content come Open, and classes in which something is held
abbrev pub is_expected : CachedInode → Class → Content → Bool
is_expected inode Names Empty = is_held inode.holds.names
is_expected inode Data Empty = is_held inode.holds.contents
is_expected inode Attr Empty = is_held inode.holds.attr
is_expected inode Open content = true
is_expected inode cls content = true

-- what is known in a class is forgotten
abbrev pub forgotten : Class → CachedInode → CachedInode
forgotten Names inode = record { holds = inode.holds; entries = []; file = inode.file; size = inode.size }
forgotten Data inode = record { holds = inode.holds; entries = inode.entries; file = clean []; size = inode.size }
forgotten Attr inode = record { holds = inode.holds; entries = inode.entries; file = inode.file; size = 0 }
forgotten Open inode = inode

-- an inode of which this hold is left in a class; where it is none, what was known in the class is forgotten
abbrev pub left_with : Class → Hold → CachedInode → CachedInode
left_with cls Nothing inode = forgotten cls (holding inode cls Nothing)
left_with cls Read inode = holding inode cls Read
left_with cls Write inode = holding inode cls Write

abbrev pub lowered : Class → Hold → CachedInode → CachedInode
lowered cls to inode = left_with cls (lesser_of (hold_in inode.holds cls) to) inode

abbrev pub after_lower : Known → Ino → Class → Hold → Known
after_lower known ino cls to = record {
  inodes = slice_set known.inodes ino.0 (lowered cls to (inode_at known ino));
  table = known.table;
  flushes = known.flushes;
  last_flush = known.last_flush;
}

-- a file whose unflushed writes are all in a flush: nothing of it is unflushed
abbrev pub cleaned : CachedInode → CachedInode
cleaned inode = record { holds = inode.holds; entries = inode.entries; file = clean inode.file.contents; size = inode.size }

-- a flush starts: it is outstanding from then on, and nothing of its file is unflushed
abbrev pub after_start : Known → Flush → Known
after_start known flush = record {
  inodes = slice_set known.inodes flush.ino.0 (cleaned (inode_at known flush.ino));
  table = known.table;
  flushes = known.flushes ++ flush ∷ [];
  last_flush = known.last_flush + 1;
}

abbrev pub new_flush : Known → Ino → Hold → Hold → Flush
new_flush known ino leave_data leave_attr = flush_of (inode_at known ino).file ino leave_data leave_attr (known.last_flush + 1)

abbrev pub is_numbered : ℕ → Flush → Bool
is_numbered number flush = nat_eq flush.number number

-- the outstanding flush with a number
abbrev pub flush_numbered : Known → ℕ → Option Flush
flush_numbered known number = find (is_numbered number) known.flushes

-- a file whose flush is done: the holds are what the flush left
abbrev pub flushed_inode : Hold → Hold → CachedInode → CachedInode
flushed_inode leave_data leave_attr inode = left_with Attr leave_attr (left_with Data leave_data inode)

-- what a flush leaves
abbrev pub left_of : Flush → Left
left_of flush = record { ino = flush.ino; leave_data = flush.leave_data; leave_attr = flush.leave_attr }

abbrev pub flush_left : Known → ℕ → Left → Known
flush_left known number left = record {
  inodes = slice_set known.inodes left.ino.0 (flushed_inode left.leave_data left.leave_attr (inode_at known left.ino));
  table = known.table;
  flushes = filter (λ flush. not (is_numbered number flush)) known.flushes;
  last_flush = known.last_flush;
}

abbrev pub without_flush : Known → ℕ → Option Flush → Known
without_flush known number None = known
without_flush known number (Some flush) = flush_left known number (left_of flush)

-- the flush with this number, if one is outstanding, is done
abbrev pub after_flushed : Known → ℕ → Known
after_flushed known number = without_flush known number (flush_numbered known number)
