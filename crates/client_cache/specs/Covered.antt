-- Which calls a client answers by itself.
use Rattle.std.specs.Prelude.{◌≤◌, ◌+◌, ◌||◌, ◌&&◌, ℕ, Bool, true, false, ⊤, not, nat_eq, nat_le, nat_lt, List, length, count_by, Option, Some, None, Result, Ok, Err}
use Rattle.std.specs.List.{list_all}
use Rattle.cal_base.specs.Limits.{unflushed_blocks}
use Rattle.cal_base.specs.declared.directory_entry.EntryKind.{EntryKind}
use Rattle.cal_base.specs.declared.directory_entry.EntryKind.TheVariants.{File as IsFile, Directory as IsDirectory}
use Rattle.cal_base.specs.declared.identity.Ino.{Ino}
use Rattle.delayed_write.specs.Delayed.{Delayed}
use Rattle.delayed_write.specs.Marks.{marked_by_truncate, marked_by_write, marked_count}
use Rattle.tree_law.specs.Descriptors.{opened, within_limit, writable}
use Rattle.tree_law.specs.Idle.{opens_it}
use Rattle.tree_law.specs.Needs.{Need}
use Rattle.tree_law.specs.Part.{Place, needs_in}
use Rattle.tree_law.specs.declared.call.Call.{Call}
use Rattle.tree_law.specs.declared.call.Call.TheVariants.{Create, Mkdir, Unlink, Rmdir, Rename, Open, Close, Read, Write, Truncate, Stat, Readdir, Fsync}
use Rattle.tree_law.specs.declared.reply.Why.{Why}
use Rattle.client_cache.specs.Holds.{held_number}
use Rattle.client_cache.specs.Known.{Known, inode_at, is_settled, part_of}

-- a class is of what a flush carries: Data or Attr
abbrev pub is_of_file : ℕ → Bool
is_of_file number = nat_eq number 2 || nat_eq number 3

-- a need is held, and where it is of Data or Attr no flush of the file is outstanding
abbrev pub is_met : Known → Need → Bool
is_met known need = nat_le need.2 (held_number (inode_at known need.0).holds need.1) && (not (is_of_file need.1) || is_settled known need.0)

abbrev pub are_met : Known → List Need → Bool
are_met known needs = list_all (is_met known) needs

-- resolving comes to an end by what is held, and what its end needs is met
abbrev pub is_end_met : (Need → Bool) → (Ino → EntryKind → List Need) → Option (Result Place Why) → Bool
is_end_met met needs None = false
is_end_met met needs (Some (Err why)) = true
is_end_met met needs (Some (Ok place)) = list_all met (needs place.0 place.1)

-- of a file no more blocks are marked than may be unflushed, after a write or truncate that isn't refused
abbrev pub is_few : Known → Result Ino Why → (Delayed → List Bool) → Bool
is_few known (Ok ino) marks = nat_le (marked_count (marks (inode_at known ino).file)) unflushed_blocks
is_few known (Err why) marks = true

abbrev pub write_room : Known → ℕ → ℕ → Result Ino Why → Bool
write_room known offset count file = is_few known file (λ file. marked_by_write file.marks offset count)

abbrev pub truncate_room : Known → ℕ → Result Ino Why → Bool
truncate_room known size file = is_few known file (λ file. marked_by_truncate file.marks (length file.contents) size)

-- another descriptor of the client stays for the file
abbrev pub stays_open : Known → Result Ino Why → Bool
stays_open known (Ok ino) = nat_lt 1 (count_by (opens_it ino.0) known.table)
stays_open known (Err why) = true

-- of the file nothing is unflushed and no flush is outstanding
abbrev pub is_synced : Known → Result Ino Why → Bool
is_synced known (Ok ino) = not (inode_at known ino).file.unflushed && is_settled known ino
is_synced known (Err why) = true

-- whether a client that needs these tokens for a call answers it by itself. A change of the tree is never
-- covered; `close` where it is EBADF or another descriptor stays for the file; `fsync` where it is EBADF or
-- nothing of the file is unflushed or under way; every other call where its needs are held, no flush is
-- outstanding of a file whose Data or Attr it needs, and no more blocks of a file are unflushed after it than may be
abbrev pub covered_by : Known → List Need → Call → Bool
covered_by known needs (Create path) = false
covered_by known needs (Mkdir path) = false
covered_by known needs (Unlink path) = false
covered_by known needs (Rmdir path) = false
covered_by known needs (Rename path goal) = false
covered_by known needs (Open path mode) = are_met known needs
covered_by known needs (Close fd) = stays_open known (opened known.table fd)
covered_by known needs (Read fd offset len) = are_met known needs
covered_by known needs (Write fd offset bytes) = are_met known needs && write_room known offset (length bytes) (within_limit (offset + length bytes) (writable known.table fd))
covered_by known needs (Truncate fd size) = are_met known needs && truncate_room known size (within_limit size (writable known.table fd))
covered_by known needs (Stat path) = are_met known needs
covered_by known needs (Readdir path) = are_met known needs
covered_by known needs (Fsync fd) = is_synced known (opened known.table fd)

abbrev pub covered : Known → Call → Bool
covered known call = covered_by known (needs_in (part_of known) call) call

-- a call that the client may carry out by itself: one that is covered, or a `close`, also the last one of a file
abbrev pub is_answerable : Known → Call → Bool
is_answerable known (Close fd) = true
is_answerable known call = covered known call

-- a write has 1 to 32,768 bytes
abbrev pub IsSpelled : Call → Type 0
IsSpelled (Write fd offset bytes) = (1 ≤ length bytes) × (length bytes ≤ 32768)
IsSpelled call = ⊤

abbrev pub file_of : Ino → EntryKind → Option Ino
file_of ino IsFile = Some ino
file_of ino IsDirectory = None

-- the file at which resolving ends
abbrev pub target_of : Option (Result Place Why) → Option Ino
target_of (Some (Ok place)) = file_of place.0 place.1
target_of (Some (Err why)) = None
target_of None = None
