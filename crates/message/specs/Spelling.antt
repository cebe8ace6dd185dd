-- The one spelling of each message.
use Rattle.std.specs.Prelude.{◌∷◌, ◌++◌, [], ℕ, Bool, true, false, List, length}
use Rattle.std.specs.List.{flat_map}
use Rattle.cal_base.specs.declared.directory_entry.DirectoryEntry.{DirectoryEntry}
use Rattle.cal_base.specs.declared.directory_entry.EntryKind.{EntryKind}
use Rattle.cal_base.specs.declared.directory_entry.EntryKind.TheVariants.{File, Directory}
use Rattle.cal_base.specs.declared.identity.Ino.{Ino}
use Rattle.cal_fields.specs.BigEndian.{big_endian}
use Rattle.change_reply.specs.ReplyBytes.{reply_bytes}
use Rattle.message.specs.declared.message.Message.{Message}
use Rattle.message.specs.declared.message.Message.TheVariants.{Acquire, Grant, Refuse, Change, Done, Flush, Flushed, Revoke, Release, Ask, Piece, Wait, Admit}
use Rattle.token_kind.specs.Class.{class_number}
use Rattle.token_kind.specs.Hold.{hold_number}
use Rattle.token_kind.specs.declared.«class».Class.{Class}
use Rattle.token_kind.specs.declared.content.Content.{Content}
use Rattle.token_kind.specs.declared.content.Content.TheVariants.{Nothing, Names, Bytes, Size}
use Rattle.token_kind.specs.declared.flush.Flush.{Flush as FlushRecord}
use Rattle.token_kind.specs.declared.grant_item.GrantItem.{GrantItem}
use Rattle.token_kind.specs.declared.hold.Hold.{Hold}
use Rattle.token_kind.specs.declared.piece.Piece.{Piece as PieceRecord}
use Rattle.token_kind.specs.declared.release.Release.{Release as ReleaseRecord}
use Rattle.token_kind.specs.declared.reported.Reported.{Reported}
use Rattle.token_kind.specs.declared.revoke.Revoke.{Revoke as RevokeRecord}
use Rattle.tree_law.specs.declared.call.Call.{Call}
use Rattle.tree_law.specs.declared.call.Call.TheVariants.{Create, Mkdir, Unlink, Rmdir, Rename, Open as OpenCall, Close, Read as ReadCall, Write as WriteCall, Truncate, Stat as StatCall, Readdir as ReaddirCall, Fsync}
use Rattle.tree_law.specs.declared.request.Want.{Want}
use Rattle.tree_law.specs.declared.request.Want.TheVariants.{Stat, Open, Readdir, Read, Write}

abbrev pub flag_byte : Bool → ℕ
flag_byte false = 0
flag_byte true = 1

abbrev pub inode_bytes : Ino → List ℕ
inode_bytes ino = big_endian 4 ino.0

abbrev pub name_bytes : List ℕ → List ℕ
name_bytes name = length name ∷ name

unfoldable pub path_bytes : List (List ℕ) → List ℕ
path_bytes path = (length path ∷ []) ++ flat_map name_bytes path

abbrev pub want_bytes : Want → List ℕ
want_bytes (Stat path) = (1 ∷ []) ++ path_bytes path
want_bytes (Open path) = (2 ∷ []) ++ path_bytes path
want_bytes (Readdir path) = (3 ∷ []) ++ path_bytes path
want_bytes (Read ino) = (4 ∷ []) ++ inode_bytes ino
want_bytes (Write ino) = (5 ∷ []) ++ inode_bytes ino

-- the other calls are no changes, and have no bytes
abbrev pub change_bytes : Call → List ℕ
change_bytes (Create path) = (1 ∷ []) ++ path_bytes path
change_bytes (Mkdir path) = (2 ∷ []) ++ path_bytes path
change_bytes (Unlink path) = (3 ∷ []) ++ path_bytes path
change_bytes (Rmdir path) = (4 ∷ []) ++ path_bytes path
change_bytes (Rename old_path new_path) = (5 ∷ []) ++ path_bytes old_path ++ path_bytes new_path
change_bytes (OpenCall path mode) = []
change_bytes (Close fd) = []
change_bytes (ReadCall fd offset len) = []
change_bytes (WriteCall fd offset bytes) = []
change_bytes (Truncate fd size) = []
change_bytes (StatCall path) = []
change_bytes (ReaddirCall path) = []
change_bytes (Fsync fd) = []

abbrev pub entry_kind_byte : EntryKind → ℕ
entry_kind_byte File = 1
entry_kind_byte Directory = 2

unfoldable pub entry_bytes : DirectoryEntry → List ℕ
entry_bytes entry = name_bytes entry.name ++ inode_bytes entry.ino ++ (entry_kind_byte entry.kind ∷ [])

unfoldable pub entries_bytes : List DirectoryEntry → List ℕ
entries_bytes entries = big_endian 2 (length entries) ++ flat_map entry_bytes entries

abbrev pub content_bytes : Content → List ℕ
content_bytes Nothing = []
content_bytes (Names entries) = entries_bytes entries
content_bytes (Bytes contents) = big_endian 4 (length contents) ++ contents
content_bytes (Size size) = big_endian 4 size

unfoldable pub grant_item_bytes : GrantItem → List ℕ
grant_item_bytes item =
    inode_bytes item.ino ++ (class_number item.class ∷ []) ++ (hold_number item.hold ∷ []) ++ (flag_byte item.fresh ∷ []) ++ content_bytes item.content

unfoldable pub grant_items_bytes : List GrantItem → List ℕ
grant_items_bytes items = big_endian 2 (length items) ++ flat_map grant_item_bytes items

abbrev pub block_bytes : ℕ × List ℕ → List ℕ
block_bytes block = block.0 ∷ block.1

-- the number, the file and its sizes
unfoldable pub flush_head_bytes : FlushRecord → List ℕ
flush_head_bytes flush = big_endian 8 flush.number ++ inode_bytes flush.ino ++ big_endian 4 flush.size ++ big_endian 4 flush.cut

unfoldable pub flush_bytes : FlushRecord → List ℕ
flush_bytes flush =
    flush_head_bytes flush ++ (hold_number flush.leave_data ∷ []) ++ (hold_number flush.leave_attr ∷ []) ++ (length flush.pieces ∷ []) ++ flat_map block_bytes flush.pieces

abbrev pub item_bytes : Class × Hold → List ℕ
item_bytes item = class_number item.0 ∷ hold_number item.1 ∷ []

unfoldable pub items_bytes : List (Class × Hold) → List ℕ
items_bytes items = (length items ∷ []) ++ flat_map item_bytes items

abbrev pub revoke_bytes : RevokeRecord → List ℕ
revoke_bytes revoke = inode_bytes revoke.ino ++ items_bytes revoke.items

abbrev pub release_bytes : ReleaseRecord → List ℕ
release_bytes release = inode_bytes release.ino ++ items_bytes release.items

unfoldable pub reported_bytes : Reported → List ℕ
reported_bytes hold =
    inode_bytes hold.token.ino ++ (class_number hold.token.class ∷ []) ++ (hold_number hold.token.hold ∷ []) ++ big_endian 8 hold.flush ++ (hold_number hold.leave ∷ [])

unfoldable pub piece_bytes : PieceRecord → List ℕ
piece_bytes piece = big_endian 2 piece.index ++ (flag_byte piece.last ∷ []) ++ (length piece.holds ∷ []) ++ flat_map reported_bytes piece.holds

-- the kind, and the fields of that kind
abbrev pub message_bytes : Message → List ℕ
message_bytes (Acquire number want) = (1 ∷ []) ++ big_endian 8 number ++ want_bytes want
message_bytes (Grant number items) = (2 ∷ []) ++ big_endian 8 number ++ grant_items_bytes items
message_bytes (Refuse number free needed) = (3 ∷ []) ++ big_endian 8 number ++ big_endian 2 free ++ big_endian 2 needed
message_bytes (Change number call) = (4 ∷ []) ++ big_endian 8 number ++ change_bytes call
message_bytes (Done number reply) = (5 ∷ []) ++ big_endian 8 number ++ reply_bytes reply
message_bytes (Flush flush) = (6 ∷ []) ++ flush_bytes flush
message_bytes (Flushed number) = (7 ∷ []) ++ big_endian 8 number
message_bytes (Revoke revoke) = (8 ∷ []) ++ revoke_bytes revoke
message_bytes (Release release) = (9 ∷ []) ++ release_bytes release
message_bytes Ask = 10 ∷ []
message_bytes (Piece piece) = (11 ∷ []) ++ piece_bytes piece
message_bytes (Wait number client) = (12 ∷ []) ++ big_endian 8 number ++ (client.0 ∷ [])
message_bytes Admit = 13 ∷ []
