-- What a client does with its outstanding call.
use Rattle.std.specs.Prelude.{◌+◌, ◌&&◌, Bool, true, false, not, length, Option, Some, None, Result, Ok, Err, if◌then◌else◌}
use Rattle.cal_base.specs.declared.identity.Ino.{Ino}
use Rattle.tree_law.specs.Descriptors.{opened, readable, within_limit, writable}
use Rattle.tree_law.specs.Part.{resolved_in}
use Rattle.tree_law.specs.declared.call.Call.{Call}
use Rattle.tree_law.specs.declared.call.Call.TheVariants.{Close, Read, Write, Truncate, Stat, Fsync}
use Rattle.tree_law.specs.declared.reply.Why.{Why}
use Rattle.client_cache.specs.declared.next_step.Next.{Next}
use Rattle.client_cache.specs.declared.next_step.Next.TheVariants.{Answer, LastClose, Waits, Flushes, Asks}
use Rattle.client_cache.specs.Covered.{covered, target_of, truncate_room, write_room}
use Rattle.client_cache.specs.Known.{Known, inode_at, is_settled, part_of}

abbrev pub file_if_any : Result Ino Why → Option Ino
file_if_any (Ok ino) = Some ino
file_if_any (Err why) = None

-- the file whose bytes or size a call needs, or that it syncs, as far as the held entries tell
abbrev pub file_needed : Known → Call → Option Ino
file_needed known (Read fd offset len) = file_if_any (readable known.table fd)
file_needed known (Write fd offset bytes) = file_if_any (within_limit (offset + length bytes) (writable known.table fd))
file_needed known (Truncate fd size) = file_if_any (within_limit size (writable known.table fd))
file_needed known (Stat path) = target_of (resolved_in (part_of known) path)
file_needed known (Fsync fd) = file_if_any (opened known.table fd)
file_needed known call = None

-- a call that a flush of its file has to come before: a write or truncate that would leave more than 16
-- blocks unflushed, and `fsync`
abbrev pub needs_flush : Known → Call → Bool
needs_flush known (Write fd offset bytes) = not (write_room known offset (length bytes) (within_limit (offset + length bytes) (writable known.table fd)))
needs_flush known (Truncate fd size) = not (truncate_room known size (within_limit size (writable known.table fd)))
needs_flush known (Fsync fd) = true
needs_flush known call = false

-- a call that isn't covered: it waits while a flush of its file is outstanding; it starts a flush where one
-- has to come before it and something is unflushed; else the server is asked
abbrev pub next_on : Known → Bool → Option Ino → Next
next_on known first None = Asks
next_on known first (Some ino) =
    if is_settled known ino then (if first && (inode_at known ino).file.unflushed then Flushes ino else Asks) else Waits

abbrev pub last_close : Result Ino Why → Next
last_close (Ok ino) = LastClose ino
last_close (Err why) = Answer

abbrev pub next_uncovered : Known → Call → Next
next_uncovered known (Close fd) = last_close (opened known.table fd)
next_uncovered known call = next_on known (needs_flush known call) (file_needed known call)

-- what a client does now with a call: it answers one that is covered, or goes on by the rules above; of a
-- `close` that isn't covered, which is the last one of its file, it gives Open back
abbrev pub next_of : Known → Call → Next
next_of known call = if covered known call then Answer else next_uncovered known call
