-- What has a spelling: the limits and orders of a message's fields.
use Rattle.std.specs.Prelude.{◌≡◌, ◌<◌, ◌≤◌, ◌^◌, ℕ, Bool, true, false, List, length, All, IsTrue}
use Rattle.cal_base.specs.Limits.{clients, file_size, holds_per_piece, inodes}
use Rattle.cal_base.specs.declared.identity.Ino.{Ino}
use Rattle.change_reply.specs.ReplyBytes.{IsChangeReply}
use Rattle.message.specs.declared.message.Message.{Message}
use Rattle.message.specs.declared.message.Message.TheVariants.{Acquire, Grant, Refuse, Change, Done, Flush, Flushed, Revoke, Release, Ask, Piece, Wait, Admit}
use Rattle.token_kind.specs.Class.{has_write}
use Rattle.token_kind.specs.Flush.{IsFlush}
use Rattle.token_kind.specs.Kept.{IsRelease, IsRevoke}
use Rattle.token_kind.specs.Token.{IsReported, may_hold}
use Rattle.token_kind.specs.declared.«class».Class.{Class}
use Rattle.token_kind.specs.declared.«class».Class.TheVariants.{Names, Data, Attr, Open}
use Rattle.token_kind.specs.declared.content.Content.{Content}
use Rattle.token_kind.specs.declared.content.Content.TheVariants.{Nothing as NoContent, Names as Entries, Bytes, Size}
use Rattle.token_kind.specs.declared.grant_item.GrantItem.{GrantItem}
use Rattle.token_kind.specs.declared.piece.Piece.{Piece as PieceRecord}
use Rattle.tree_law.specs.Change.{HasPaths, is_change}
use Rattle.tree_law.specs.Entries.{AreEntries}
use Rattle.tree_law.specs.Path.{IsPath}
use Rattle.tree_law.specs.declared.call.Call.{Call}
use Rattle.tree_law.specs.declared.request.Want.{Want}
use Rattle.tree_law.specs.declared.request.Want.TheVariants.{Stat, Open as OpenWant, Readdir, Read as ReadWant, Write as WriteWant}

-- the number of a call or a flush
abbrev pub IsNumber : ℕ → Type 0
IsNumber number = (1 ≤ number) × (number < 2 ^ 64)

abbrev pub IsInode : Ino → Type 0
IsInode ino = ino.0 < inodes

abbrev pub IsWant : Want → Type 0
IsWant (Stat path) = IsPath path
IsWant (OpenWant path) = IsPath path
IsWant (Readdir path) = IsPath path
IsWant (ReadWant ino) = IsInode ino
IsWant (WriteWant ino) = IsInode ino

-- a change, as its message spells it: with paths
abbrev pub IsChange : Call → Type 0
IsChange call = (is_change call ≡ true) × HasPaths call

-- Names and Open are always fresh
abbrev pub MayBeFresh : Class → Bool → Type 0
MayBeFresh of false = IsTrue (has_write of)
MayBeFresh of true = Unit {0}

-- the content of a fresh grant, by its class
abbrev pub IsFreshContent : Class → Content → Type 0
IsFreshContent Names (Entries entries) = (length entries < 2 ^ 16) × AreEntries entries
IsFreshContent Names other = ⊥
IsFreshContent Data (Bytes contents) = length contents ≤ file_size
IsFreshContent Data other = ⊥
IsFreshContent Attr (Size size) = size ≤ file_size
IsFreshContent Attr other = ⊥
IsFreshContent Open NoContent = Unit {0}
IsFreshContent Open other = ⊥

abbrev pub IsContent : Class → Bool → Content → Type 0
IsContent of false content = content ≡ NoContent
IsContent of true content = IsFreshContent of content

pub record IsGrantItem (item : GrantItem) : Type 0 where
  pub ino : IsInode item.ino
  pub hold : may_hold item.class item.hold ≡ true
  pub fresh : MayBeFresh item.class item.fresh
  pub content : IsContent item.class item.fresh item.content

pub record AreGrantItems (items : List GrantItem) : Type 0 where
  pub count : length items < 2 ^ 16
  pub each : All IsGrantItem items

pub record IsPiece (piece : PieceRecord) : Type 0 where
  pub index : piece.index < 2 ^ 16
  pub count : length piece.holds ≤ holds_per_piece
  pub each : All IsReported piece.holds

-- a message that has a spelling
abbrev pub IsMessage : Message → Type 0
IsMessage (Acquire number want) = IsNumber number × IsWant want
IsMessage (Grant number items) = IsNumber number × AreGrantItems items
IsMessage (Refuse number free needed) = IsNumber number × (free < 2 ^ 16) × (needed < 2 ^ 16)
IsMessage (Change number call) = IsNumber number × IsChange call
IsMessage (Done number reply) = IsNumber number × IsChangeReply reply
IsMessage (Flush flush) = IsFlush flush
IsMessage (Flushed number) = number < 2 ^ 64
IsMessage (Revoke revoke) = IsInode revoke.ino × IsRevoke revoke
IsMessage (Release release) = IsInode release.ino × IsRelease release
IsMessage Ask = Unit {0}
IsMessage (Piece piece) = IsPiece piece
IsMessage (Wait number client) = IsNumber number × (client.0 < clients)
IsMessage Admit = Unit {0}
