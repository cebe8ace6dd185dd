-- Which histories are legal for one file tree. A history stands newest first.
use Rattle.std.specs.Prelude.{◌≡◌, ◌⊎◌, ◌<◌, ◌==◌, ◌&&◌, ◌+◌, length, ℕ, Bool, true, false, not, List, [], ◌∷◌, Option, Some, None, Result, Ok, Err, IsOk, IsSomeAnd, is_none, ⊤, if◌then◌else◌}
use Rattle.cal_base.specs.declared.identity.ClientId.{ClientId}
use Rattle.cal_base.specs.declared.identity.Ino.{Ino}
use Rattle.tree_law.specs.Tree.{Tree, node_at, table_of, writer_of, is_purged, empty_tree, IsFree}
use Rattle.tree_law.specs.Resolve.{resolved, new_place, file_named}
use Rattle.tree_law.specs.Rename.{move_of}
use Rattle.tree_law.specs.Descriptors.{opened, readable, writable, within_limit}
use Rattle.tree_law.specs.Answer.{answer}
use Rattle.tree_law.specs.FileState.{is_writer}
pub use Rattle.tree_law.specs.After.{after, after_call}
use Rattle.tree_law.specs.declared.call.Call.{Call}
use Rattle.tree_law.specs.declared.call.Call.TheVariants.{Create, Mkdir, Unlink, Rename, Read, Write, Truncate, Stat, Fsync}
use Rattle.tree_law.specs.declared.rename.Move.{Move}
use Rattle.tree_law.specs.declared.reply.Reply.{Reply}
use Rattle.tree_law.specs.declared.reply.Reply.TheVariants.{Done, Refused}
use Rattle.tree_law.specs.declared.reply.Why.{Why}
use Rattle.tree_law.specs.declared.reply.Why.TheVariants.{NoInode, NoSpace}
use Rattle.tree_law.specs.declared.entry.Entry.{Entry}
use Rattle.tree_law.specs.declared.entry.Entry.TheVariants.{Call as Called, Flush, Purge}

-- the call would make an inode
abbrev pub Makes : Tree → Call → Type 0
Makes tree (Create path) = IsOk (new_place tree path)
Makes tree (Mkdir path) = IsOk (new_place tree path)
Makes tree _ = ⊥

-- blocks that a call may want which nothing refuses
abbrev pub unless_refused : ℕ → Result Ino Why → ℕ
unless_refused blocks (Ok ino) = blocks
unless_refused blocks (Err why) = 0

-- an entry more in another directory may want a block; in the same one it never does
abbrev pub blocks_of_move : Result Move Why → ℕ
blocks_of_move (Ok move) = if is_none move.replaced && not (move.from.0 == move.to.0) then 1 else 0
blocks_of_move (Err why) = 0

-- how many blocks a call may want: 1 for an entry more in a directory, 16 for the bytes of a file
abbrev pub blocks_wanted : Tree → ClientId → Call → ℕ
blocks_wanted tree client (Create path) = unless_refused 1 (new_place tree path)
blocks_wanted tree client (Mkdir path) = unless_refused 1 (new_place tree path)
blocks_wanted tree client (Rename path goal) = blocks_of_move (move_of tree path goal)
blocks_wanted tree client (Write fd offset bytes) = unless_refused 16 (within_limit (offset + length bytes) (writable (table_of tree client) fd))
blocks_wanted tree client (Truncate fd size) = unless_refused 16 (within_limit size (writable (table_of tree client) fd))
blocks_wanted tree client _ = 0

-- an inode or a block is wanting, which the tree alone doesn't show
abbrev pub IsWantOfRoom : Tree → ClientId → Call → Reply → Type 0
IsWantOfRoom tree client call (Refused NoInode) = Makes tree call
IsWantOfRoom tree client call (Refused (NoSpace free needed)) = (free < needed) × (needed ≡ blocks_wanted tree client call)
IsWantOfRoom tree client call _ = ⊥

-- the tree's own answer, or want of room where an entry or bytes would be made
abbrev pub IsAllowed : Tree → ClientId → Call → Reply → Type 0
IsAllowed tree client call reply = (reply ≡ answer tree client call) ⊎ IsWantOfRoom tree client call reply

-- the new inode of a call that makes one: a free one where it is made, else none
abbrev pub IsMade : Tree → Reply → Option Ino → Type 0
IsMade tree Done new = IsSomeAnd new (IsFree tree)
IsMade tree _ new = new ≡ None

-- the new inode of a call
abbrev pub IsNewInode : Tree → Call → Reply → Option Ino → Type 0
IsNewInode tree (Create path) reply new = IsMade tree reply new
IsNewInode tree (Mkdir path) reply new = IsMade tree reply new
IsNewInode tree _ reply new = new ≡ None

abbrev pub is_own_or_none : Option ClientId → ClientId → Bool
is_own_or_none None client = true
is_own_or_none (Some writer) client = writer.0 == client.0

-- nobody has unflushed writes in a file; nobody but this client; this client has none
abbrev pub is_flushed_by_all : Tree → Result Ino Why → Bool
is_flushed_by_all tree (Ok ino) = is_none (writer_of (node_at tree ino))
is_flushed_by_all tree (Err why) = true

abbrev pub is_flushed_by_others : Tree → ClientId → Result Ino Why → Bool
is_flushed_by_others tree client (Ok ino) = is_own_or_none (writer_of (node_at tree ino)) client
is_flushed_by_others tree client (Err why) = true

abbrev pub is_flushed_by : Tree → ClientId → Result Ino Why → Bool
is_flushed_by tree client (Ok ino) = not (is_writer (writer_of (node_at tree ino)) client)
is_flushed_by tree client (Err why) = true

abbrev pub is_flushed_target : Tree → Option Ino → Bool
is_flushed_target tree (Some ino) = is_none (writer_of (node_at tree ino))
is_flushed_target tree None = true

abbrev pub is_flushed_move : Tree → Result Move Why → Bool
is_flushed_move tree (Ok move) = is_flushed_target tree move.replaced
is_flushed_move tree (Err why) = true

-- what has to be flushed is, before a call is carried out: a file that loses its name, by all; one of
-- which bytes or size are told or changed, by all others; one that is made to last, by the caller
abbrev pub is_flushed_for : Tree → ClientId → Call → Bool
is_flushed_for tree client (Unlink path) = is_flushed_by_all tree (file_named tree path)
is_flushed_for tree client (Rename path goal) = is_flushed_move tree (move_of tree path goal)
is_flushed_for tree client (Read fd offset len) = is_flushed_by_others tree client (readable (table_of tree client) fd)
is_flushed_for tree client (Write fd offset bytes) = is_flushed_by_others tree client (writable (table_of tree client) fd)
is_flushed_for tree client (Truncate fd size) = is_flushed_by_others tree client (writable (table_of tree client) fd)
is_flushed_for tree client (Stat path) = is_flushed_by_others tree client (resolved tree path)
is_flushed_for tree client (Fsync fd) = is_flushed_by tree client (opened (table_of tree client) fd)
is_flushed_for tree client _ = true

-- a refusal asks for no flush
abbrev pub is_flushed_for_reply : Tree → ClientId → Call → Reply → Bool
is_flushed_for_reply tree client call (Refused why) = true
is_flushed_for_reply tree client call _ = is_flushed_for tree client call

-- the tree allows this call of the client next, with this reply and this new inode
pub record IsNextCall (tree : Tree) (client : ClientId) (call : Call) (reply : Reply) (new : Option Ino) : Type 0 where
  pub present : is_purged tree client ≡ false
  pub allowed : IsAllowed tree client call reply
  pub new_inode : IsNewInode tree call reply new
  pub flushed : is_flushed_for_reply tree client call reply ≡ true

abbrev pub IsNext : Tree → Entry → Type 0
IsNext tree (Called client number call reply new) = IsNextCall tree client call reply new
IsNext tree (Flush client ino) = is_writer (writer_of (node_at tree ino)) client ≡ true
IsNext tree (Purge client) = is_purged tree client ≡ false

-- the tree that a history makes of the empty one
abbrev pub tree_of : List Entry → Tree
tree_of [] = empty_tree
tree_of (entry ∷ earlier) = after (tree_of earlier) entry

-- each entry is one that the tree before it allows
abbrev pub IsLegal : List Entry → Type 0
IsLegal [] = ⊤
IsLegal (entry ∷ earlier) = IsNext (tree_of earlier) entry × IsLegal earlier
