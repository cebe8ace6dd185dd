-- What a client sees of the files: in a trace the tree, in a node its cache.
use Rattle.std.specs.Prelude.{◌+◌, if◌then◌else◌, ℕ, Bool, List, Option, Some, None, Result, Ok, Err, length, map, nat_lt, count_by}
use Rattle.cal_base.specs.declared.identity.ClientId.{ClientId}
use Rattle.cal_base.specs.declared.identity.Ino.{Ino}
use Rattle.token_kind.specs.declared.token.Token.{Token}
use Rattle.tree_law.specs.Answer.{answer}
use Rattle.tree_law.specs.Descriptors.{opened, within_limit, writable}
use Rattle.tree_law.specs.FileState.{is_writer}
use Rattle.tree_law.specs.Idle.{opens_it}
use Rattle.tree_law.specs.Needs.{needs}
use Rattle.tree_law.specs.Tree.{Tree, contents_of, node_at, table_of, writer_of}
use Rattle.tree_law.specs.declared.call.Call.{Call}
use Rattle.tree_law.specs.declared.call.Call.TheVariants.{Close, Write, Truncate, Fsync}
use Rattle.tree_law.specs.declared.descriptor.Descriptor.{Descriptor}
use Rattle.tree_law.specs.declared.reply.Reply.{Reply}
use Rattle.tree_law.specs.declared.reply.Why.{Why}
use Rattle.cluster_law.specs.Tokens.{token_of}

-- what a call needs, and its answer; the client's descriptors; which files it has written to since their last
-- flush; and how many bytes a file has
pub record Sight : Type 0 where
  pub needed : Call → List Token
  pub reply : Call → Reply
  pub table : List (Option Descriptor)
  pub unflushed : Ino → Bool
  pub size : Ino → ℕ

-- a client's sight of a tree
abbrev pub seen : Tree → ClientId → Sight
seen tree client = record {
  needed = λ call. map token_of (needs tree client call);
  reply = answer tree client;
  table = table_of tree client;
  unflushed = λ ino. is_writer (writer_of (node_at tree ino)) client;
  size = λ ino. length (contents_of (node_at tree ino));
}

abbrev pub file_if_any : Result Ino Why → Option Ino
file_if_any (Ok ino) = Some ino
file_if_any (Err why) = None

-- the file whose bytes a call alters
abbrev pub altered : Sight → Call → Option Ino
altered sight (Write fd offset bytes) = file_if_any (within_limit (offset + length bytes) (writable sight.table fd))
altered sight (Truncate fd size) = file_if_any (within_limit size (writable sight.table fd))
altered sight call = None

-- the file that a call syncs
abbrev pub synced : Sight → Call → Option Ino
synced sight (Fsync fd) = file_if_any (opened sight.table fd)
synced sight call = None

-- the file of which a call closes the client's last descriptor
abbrev pub if_last : Sight → Option Ino → Option Ino
if_last sight None = None
if_last sight (Some ino) = if nat_lt 1 (count_by (opens_it ino.0) sight.table) then None else Some ino

abbrev pub closed : Sight → Call → Option Ino
closed sight (Close fd) = if_last sight (file_if_any (opened sight.table fd))
closed sight call = None
