-- What carries the promises from step to step, and that a takeover loses nothing.
use Rattle.std.specs.Prelude.{◌≡◌, ◌≢◌, ◌≤◌, ◌<◌, ◌∷◌, [], ◌&&◌, ℕ, Bool, true, false, not, nat_lt, if◌then◌else◌, List, Option, Some, None}
use Rattle.cal_base.specs.declared.identity.ClientId.{ClientId}
use Rattle.cal_base.specs.declared.identity.Ino.{Ino}
use Rattle.inode.specs.declared.inode.Kind.TheVariants.{Free}
use Rattle.message.specs.declared.message.Message.{Message}
use Rattle.message.specs.declared.message.Message.TheVariants.{Grant, Done}
use Rattle.token_kind.specs.Hold.{conflict, hold_number}
use Rattle.token_kind.specs.declared.«class».Class.{Class}
use Rattle.token_kind.specs.declared.«class».Class.TheVariants.{Data, Attr, Open}
use Rattle.token_kind.specs.declared.content.Content.{Content}
use Rattle.token_kind.specs.declared.content.Content.TheVariants.{Nothing as Empty, Names as Entries, Bytes, Size}
use Rattle.token_kind.specs.declared.grant_item.GrantItem.{GrantItem}
use Rattle.token_kind.specs.declared.hold.Hold.{Hold}
use Rattle.token_kind.specs.declared.hold.Hold.TheVariants.{None as Nothing, Write}
use Rattle.token_table.specs.Table.{Table, held_of}
use Rattle.tree_law.specs.PartOf.{HasContents, HasEntries, HasSize}
use Rattle.tree_law.specs.Tree.{Tree, descriptor_at, node_at, writer_of}
use Rattle.tree_law.specs.declared.descriptor.Descriptor.{Descriptor}
use Rattle.tree_law.specs.declared.entry.Entry.{Entry}
use Rattle.tree_law.specs.declared.entry.Entry.TheVariants.{Call as Called, Flush as FlushedEntry, Purge as PurgedEntry}
use Rattle.volume_edit.specs.Edit.{inode_at}
use Rattle.cluster_law.specs.Book.{is_held}
use Rattle.cluster_law.specs.DiskRules.{held_now}
use Rattle.cluster_law.specs.History.{is_boot, server_at, tree_at, view_of_step}
use Rattle.cluster_law.specs.Lanes.{Lane, Down}
use Rattle.cluster_law.specs.Lists.{Each, numbered}
use Rattle.cluster_law.specs.Noted.{Setting, Noted, halts}
use Rattle.cluster_law.specs.Promises.{hold}
use Rattle.cluster_law.specs.ServerRules.{OfView}
use Rattle.cluster_law.specs.ServerState.{is_admitted, table_in}
use Rattle.cluster_law.specs.Sessions.{client_view, made_in, taken_in}
use Rattle.cluster_law.specs.Trace.{has_crashed}

-- the highest view whose server was admitted
abbrev pub raised : Setting → List Noted → ℕ → Option ℕ → ℕ
raised w trace old None = old
raised w trace old (Some view) = if nat_lt old view && is_admitted (server_at w view trace) then view else old

unfoldable pub top_view : Setting → List Noted → ℕ
top_view w [] = 1
top_view w (s ∷ earlier) = raised w (s ∷ earlier) (top_view w earlier) (if halts s then None else view_of_step s earlier)

-- what its table shows of a client
unfoldable pub top_table : Setting → List Noted → Table
top_table w trace = table_in (server_at w (top_view w trace) trace)

abbrev pub shown : Setting → List Noted → ClientId → Ino → Class → Hold
shown w trace client ino cls = held_of (top_table w trace) client ino cls

abbrev pub down : ClientId → ℕ → Lane
down client view = record { client = client.0; view = view; way = Down }

-- a message that its client can still take
pub record CanTake (w : Setting) (trace : List Noted) (client : ClientId) (view number : ℕ) (message : Message) : Type 0 where
  pub made : numbered (made_in (down client view) trace) number ≡ Some message
  pub ahead : taken_in w (down client view) trace < number
  pub heard : client_view client.0 trace ≤ view
  pub lives : has_crashed client.0 trace ≡ false

-- the content that comes with an item is the tree's
abbrev pub IsOfTree : Tree → Ino → Content → Type 0
IsOfTree tree ino Empty = Unit {0}
IsOfTree tree ino (Entries entries) = HasEntries tree (node_at tree ino) entries
IsOfTree tree ino (Bytes bytes) = HasContents (node_at tree ino) bytes
IsOfTree tree ino (Size size) = HasSize (node_at tree ino) size

-- an item of a Grant is in the table, and brings what the tree has
pub record ItemStands (w : Setting) (trace : List Noted) (client : ClientId) (item : GrantItem) : Type 0 where
  pub within : hold_number item.hold ≤ hold_number (shown w trace client item.ino item.«class»)
  pub content : IsOfTree (tree_at trace) item.ino item.content

-- a Grant or a Done
abbrev pub is_service : Message → Bool
is_service (Grant number items) = true
is_service (Done number reply) = true
is_service message = false

-- the table of the highest admitted view is free of conflict. It has what each client holds, and each Grant
-- that a client can still take; no Grant of another view can be taken. Nobody holds anything of a free inode.
-- Who has a file open holds Open of it, and who has written to it Write of its bytes and its size. No server of a
-- higher view has granted or answered anything
pub record Carrying (w : Setting) (trace : List Noted) : Type 0 where
  pub apart : (client other : ClientId) (ino : Ino) (cls : Class) → client.0 ≢ other.0 → conflict (shown w trace client ino cls) (shown w trace other ino cls) ≡ false
  pub holds : (client : ClientId) (ino : Ino) (cls : Class) → hold_number (hold w trace client ino cls) ≤ hold_number (shown w trace client ino cls)
  pub grants : (client : ClientId) (view place number : ℕ) (items : List GrantItem) → CanTake w trace client view place (Grant number items) → (view ≡ top_view w trace) × Each (ItemStands w trace client) items
  pub unused : (client : ClientId) (ino : Ino) (cls : Class) → (inode_at (server_at w (top_view w trace) trace).volume.inodes ino.0).kind ≡ Free → shown w trace client ino cls ≡ Nothing
  pub «open» : (client : ClientId) (fd : ℕ) (descriptor : Descriptor) → descriptor_at (tree_at trace) client fd ≡ Some descriptor → is_held (hold w trace client descriptor.ino Open) ≡ true
  pub written : (client : ClientId) (ino : Ino) → writer_of (node_at (tree_at trace) ino) ≡ Some client → (hold w trace client ino Data ≡ Write) × (hold w trace client ino Attr ≡ Write)
  pub quiet : (client : ClientId) (view place : ℕ) (message : Message) → top_view w trace < view → numbered (made_in (down client view) trace) place ≡ Some message → is_service message ≡ false

-- a server that isn't admitted yet brings no entry but purges, and one that its boot finds committed; and as it
-- becomes the highest that is admitted, its table has what every client holds
abbrev pub IsPurgeOrHeld : Option Entry → Entry → Type 0
IsPurgeOrHeld held (Called client number call reply new_ino) = held ≡ Some (Called client number call reply new_ino)
IsPurgeOrHeld held (FlushedEntry client ino) = held ≡ Some (FlushedEntry client ino)
IsPurgeOrHeld held (PurgedEntry client) = Unit {0}

abbrev pub BringsNothing : Setting → Noted → List Noted → ℕ → Type 0
BringsNothing w s earlier view = (not (is_boot s.step.event) && is_admitted (server_at w view earlier)) ≡ false → Each (IsPurgeOrHeld (held_now earlier)) s.step.entries

pub record LosesNothing (w : Setting) (s : Noted) (earlier : List Noted) : Type 0 where
  pub entries : OfView (view_of_step s earlier) (BringsNothing w s earlier)
  pub holds : top_view w earlier < top_view w (s ∷ earlier) → (client : ClientId) (ino : Ino) (cls : Class) → hold_number (hold w (s ∷ earlier) client ino cls) ≤ hold_number (shown w (s ∷ earlier) client ino cls)
