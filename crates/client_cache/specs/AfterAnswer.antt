-- What a client knows after it has answered a call by itself.
use Rattle.std.specs.Prelude.{◌+◌, ℕ, List, length, Option, Some, None, Result, Ok, Err, slice_set}
use Rattle.cal_base.specs.declared.identity.Ino.{Ino}
use Rattle.delayed_write.specs.Delayed.{Delayed, after_truncate, after_write}
use Rattle.tree_law.specs.Descriptors.{within_limit, writable}
use Rattle.tree_law.specs.Part.{resolved_in}
use Rattle.tree_law.specs.Tree.{least_unused}
use Rattle.tree_law.specs.declared.call.Call.{Call}
use Rattle.tree_law.specs.declared.call.Call.TheVariants.{Open, Close, Write, Truncate}
use Rattle.tree_law.specs.declared.descriptor.Descriptor.{Descriptor}
use Rattle.tree_law.specs.declared.mode.Mode.{Mode}
use Rattle.tree_law.specs.declared.reply.Why.{Why}
use Rattle.client_cache.specs.declared.cached_inode.CachedInode.{CachedInode}
use Rattle.client_cache.specs.Known.{Known, inode_at, part_of}
use Rattle.client_cache.specs.Covered.{target_of}

abbrev pub with_table : Known → List (Option Descriptor) → Known
with_table known table = record { inodes = known.inodes; table = table; flushes = known.flushes; last_flush = known.last_flush }

-- something else at a descriptor
abbrev pub with_descriptor : Known → ℕ → Option Descriptor → Known
with_descriptor known fd descriptor = with_table known (slice_set known.table fd descriptor)

-- `open`: the lowest unused descriptor stands for the file
abbrev pub with_open : Known → Mode → Option ℕ → Option Ino → Known
with_open known mode (Some fd) (Some ino) = with_descriptor known fd (Some (record { ino = ino; mode = mode }))
with_open known mode (Some fd) None = known
with_open known mode None file = known

-- an inode with other bytes, and their size
abbrev pub with_file : CachedInode → Delayed → CachedInode
with_file inode file = record { holds = inode.holds; entries = inode.entries; file = file; size = length file.contents }

-- `write`, `truncate`
abbrev pub with_change : Known → (Delayed → Delayed) → Result Ino Why → Known
with_change known change (Ok ino) = record {
  inodes = slice_set known.inodes ino.0 (with_file (inode_at known ino) (change (inode_at known ino).file));
  table = known.table;
  flushes = known.flushes;
  last_flush = known.last_flush;
}
with_change known change (Err why) = known

abbrev pub after_answer : Known → Call → Known
after_answer known (Open path mode) = with_open known mode (least_unused known.table) (target_of (resolved_in (part_of known) path))
after_answer known (Close fd) = with_descriptor known fd None
after_answer known (Write fd offset bytes) = with_change known (λ file. after_write file offset bytes) (within_limit (offset + length bytes) (writable known.table fd))
after_answer known (Truncate fd size) = with_change known (λ file. after_truncate file size) (within_limit size (writable known.table fd))
after_answer known call = known
