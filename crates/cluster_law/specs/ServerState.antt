-- What a server knows of the view that it serves, and how that goes on with its acts.
use Rattle.std.specs.Prelude.{◌+◌, ◌∷◌, [], ◌&&◌, ◌||◌, ℕ, Bool, true, false, not, nat_eq, nat_le, if◌then◌else◌, List, Some, is_none, is_some, drop, filter, length, map}
use Rattle.std.specs.List.{list_all}
use Rattle.cal_base.specs.Limits.{clients}
use Rattle.cal_base.specs.declared.identity.ClientId.{ClientId}
use Rattle.cal_base.specs.declared.identity.Ino.{Ino}
use Rattle.inode.specs.declared.inode.Kind.{Kind}
use Rattle.inode.specs.declared.inode.Kind.TheVariants.{Free, File, Dir}
use Rattle.message.specs.declared.message.Message.{Message}
use Rattle.message.specs.declared.message.Message.TheVariants.{Acquire, Grant, Refuse, Change, Done, Flush, Revoke, Release, Ask, Piece}
use Rattle.rebuild.specs.Collecting.{Collecting, asking, listing, missing_of, none_listed, standing_of, with_standing}
use Rattle.rebuild.specs.Reports.{after_piece, judged}
use Rattle.rebuild.specs.declared.reporting.Reporting.{Reporting}
use Rattle.rebuild.specs.declared.reporting.Reporting.TheVariants.{Unlisted, Listed, Asked, Whole, Purged}
use Rattle.revocation.specs.Revokes.{lower_asked}
use Rattle.revocation.specs.Waiting.{asked_at, queued, still_asked, without_client}
use Rattle.shared_disk.specs.Sectors.{written}
use Rattle.token_kind.specs.Hold.{conflict, hold_number}
use Rattle.token_kind.specs.declared.«class».Class.{Class}
use Rattle.token_kind.specs.declared.«class».Class.TheVariants.{Data, Attr}
use Rattle.token_kind.specs.declared.flush.Flush.{Flush as FlushRecord}
use Rattle.token_kind.specs.declared.grant_item.GrantItem.{GrantItem}
use Rattle.token_kind.specs.declared.hold.Hold.{Hold}
use Rattle.token_kind.specs.declared.piece.Piece.{Piece as PieceRecord}
use Rattle.token_kind.specs.declared.token.Token.{Token}
use Rattle.token_table.specs.Blockers.{clients_below}
use Rattle.token_table.specs.Series.{put_last, with_holds, with_lowered}
use Rattle.token_table.specs.Table.{Table, held_of, key_of, same_client, same_key}
use Rattle.token_table.specs.declared.hold_key.HoldKey.{HoldKey}
use Rattle.tree_law.specs.declared.request.Asked.{Asked as AskedFor}
use Rattle.tree_law.specs.declared.request.Asked.TheVariants.{Want as Wants, Change as Alters}
use Rattle.tree_law.specs.declared.request.Request.{Request}
use Rattle.tree_law.specs.declared.request.Want.{Want}
use Rattle.tree_law.specs.declared.request.Want.TheVariants.{Stat, Open as OpenWant, Readdir, Read as ReadWant, Write as WriteWant}
use Rattle.volume.specs.Volume.{Volume}
use Rattle.volume_edit.specs.Edit.{edited, inode_at, slot_at}
use Rattle.cluster_law.specs.Lanes.{Act, Mounts, Tells, Commits, Drops, Commit, Deed, Changes, Flushes, Purges, Reaps}

-- where clients stand with their reports, and what they hold; the requests that wait in line, and what
-- clients were asked to give up; the volume that the server has, and the sectors in which its files are
pub record ServerState : Type 0 where
  pub collecting : Collecting
  pub requests : List Request
  pub asked : List (HoldKey × Hold)
  pub volume : Volume
  pub sectors : List (List ℕ)

abbrev pub empty_table : Table
empty_table = record { holds = []; writes = [] }

-- nobody is listed, so that nobody is waited for
abbrev pub serving : ℕ → Volume → List (List ℕ) → ServerState
serving window volume sectors = record {
  collecting = record { window = window; standings = none_listed; table = empty_table };
  requests = [];
  asked = [];
  volume = volume;
  sectors = sectors;
}

-- a server that boots lists the clients whose purge isn't marked
abbrev pub is_present : Volume → ClientId → Bool
is_present volume client = not (slot_at volume.slots client.0).purged

unfoldable pub listing_all : Collecting → List ClientId → Collecting
listing_all collecting [] = collecting
listing_all collecting (client ∷ clients) = listing_all (listing collecting client) clients

abbrev pub booted : ℕ → Volume → List (List ℕ) → ServerState
booted window volume sectors = record (serving window volume sectors) {
  collecting = listing_all (serving window volume sectors).collecting (filter (is_present volume) (clients_below volume.clients));
}

-- no client is waited for
abbrev pub is_admitted : ServerState → Bool
is_admitted server = is_none (missing_of server.collecting)

abbrev pub table_in : ServerState → Table
table_in server = server.collecting.table

abbrev pub with_table : ServerState → Table → ServerState
with_table server table = record server { collecting = record server.collecting { table = table } }

-- a hold is now this: what was asked of it is answered where it is at or below that
abbrev pub answered : List (HoldKey × Hold) → HoldKey → Hold → List (HoldKey × Hold)
answered asked key left = if is_some (still_asked (asked_at asked key) left) then asked else filter (λ entry. not (same_key key entry.0)) asked

unfoldable pub answered_all : Table → ClientId → Ino → List (Class × Hold) → List (HoldKey × Hold) → List (HoldKey × Hold)
answered_all table client ino [] asked = asked
answered_all table client ino (item ∷ items) asked = answered_all table client ino items (answered asked (key_of client ino item.0) (held_of table client ino item.0))

-- holds of a client on an inode are lowered
abbrev pub lowering : ServerState → ClientId → Ino → List (Class × Hold) → ServerState
lowering server client ino items =
    let table = with_lowered (table_in server) client ino items in
    record (with_table server table) { asked = answered_all table client ino items server.asked }

-- a request arrives at an admitted server
abbrev pub arriving : ServerState → Request → ServerState
arriving server request = if is_admitted server then record server { requests = queued server.requests request } else server

-- a piece of a report is taken: each hold, judged by the client's last flush on the disk, stands in the table
abbrev pub last_flush : ServerState → ClientId → ℕ
last_flush server client = (slot_at server.volume.slots client.0).flush

abbrev pub reporting : ServerState → ClientId → PieceRecord → ServerState
reporting server client piece = record server {
  collecting = record (with_standing server.collecting client (after_piece piece)) {
    table = with_holds (put_last (table_in server) client) client (map (judged (last_flush server client)) piece.holds);
  };
}

abbrev pub as_request : ClientId → ℕ → AskedFor → Request
as_request client number asked = record { client = client; number = number; asked = asked }

abbrev pub taking : ServerState → ClientId → Message → ServerState
taking server client (Acquire number want) = arriving server (as_request client number (Wants want))
taking server client (Change number call) = arriving server (as_request client number (Alters call))
taking server client (Release release) = lowering server client release.ino release.items
taking server client (Piece piece) = reporting server client piece
taking server client message = server

-- a message that a server doesn't pass over. It passes over an Acquire of what is no file; a Flush whose
-- number is more than one above the last, or that is new and isn't of a file, or comes while collecting, or
-- from a client without Data Write of it, or for which blocks are wanting; and a Piece that doesn't fit
abbrev pub is_file_kind : Kind → Bool
is_file_kind Free = false
is_file_kind File = true
is_file_kind Dir = false

abbrev pub is_file : ServerState → Ino → Bool
is_file server ino = is_file_kind (inode_at server.volume.inodes ino.0).kind

abbrev pub uses_want : ServerState → Want → Bool
uses_want server (Stat path) = true
uses_want server (OpenWant path) = true
uses_want server (Readdir path) = true
uses_want server (ReadWant ino) = is_file server ino
uses_want server (WriteWant ino) = is_file server ino

abbrev pub is_writing : ServerState → ClientId → Ino → Bool
is_writing server client ino = nat_eq (hold_number (held_of (table_in server) client ino Data)) 2

abbrev pub free_blocks : ServerState → ℕ
free_blocks server = length (filter (λ free. free) server.volume.free)

abbrev pub uses_new_flush : ServerState → ClientId → FlushRecord → Bool
uses_new_flush server client flush = is_admitted server && is_file server flush.ino && is_writing server client flush.ino && nat_le (length flush.pieces) (free_blocks server)

abbrev pub uses_flush : ServerState → ClientId → FlushRecord → Bool
uses_flush server client flush = nat_le flush.number (last_flush server client) || nat_eq flush.number (last_flush server client + 1) && uses_new_flush server client flush

abbrev pub is_next_piece : Reporting → ℕ → Bool
is_next_piece Unlisted index = false
is_next_piece Listed index = false
is_next_piece (Asked next) index = nat_eq next index
is_next_piece Whole index = false
is_next_piece Purged index = false

abbrev pub is_apart : Table → ClientId → Token → Bool
is_apart table client token = list_all (λ other. same_client client other || not (conflict token.hold (held_of table other token.ino token.«class»))) (clients_below clients)

abbrev pub uses_piece : ServerState → ClientId → PieceRecord → Bool
uses_piece server client piece = is_next_piece (standing_of server.collecting client) piece.index && list_all (λ hold. is_apart (table_in server) client (judged (last_flush server client) hold)) piece.holds

abbrev pub uses : ServerState → ClientId → Message → Bool
uses server client (Acquire number want) = uses_want server want
uses server client (Flush flush) = uses_flush server client flush
uses server client (Piece piece) = uses_piece server client piece
uses server client message = true

unfoldable pub hearing : ServerState → ClientId → Message → ServerState
hearing server client message = if uses server client message then taking server client message else server

-- a message is made
abbrev pub granted_token : GrantItem → Token
granted_token item = record { ino = item.ino; «class» = item.«class»; hold = item.hold }

abbrev pub without_head : ServerState → ServerState
without_head server = record server { requests = drop 1 server.requests }

unfoldable pub asked_with : ClientId → Ino → List (Class × Hold) → List (HoldKey × Hold) → List (HoldKey × Hold)
asked_with client ino [] asked = asked
asked_with client ino (item ∷ items) asked = asked_with client ino items ((key_of client ino item.0, lower_asked (asked_at asked (key_of client ino item.0)) item.1) ∷ asked)

abbrev pub telling : ServerState → ClientId → Message → ServerState
telling server client (Grant number items) = without_head (with_table server (with_holds (table_in server) client (map granted_token items)))
telling server client (Refuse number free needed) = without_head server
telling server client (Done number reply) = without_head server
telling server client (Revoke revoke) = record server { asked = asked_with client revoke.ino revoke.items server.asked }
telling server client Ask = record server { collecting = asking server.collecting (Some client) }
telling server client message = server

-- a deed is committed: a flush lowers what it is about to what it leaves, and of a purged client nothing is left
abbrev pub left_by : FlushRecord → List (Class × Hold)
left_by flush = (Data, flush.leave_data) ∷ (Attr, flush.leave_attr) ∷ []

abbrev pub without_holds : Table → ClientId → Table
without_holds table client = record { holds = filter (λ entry. not (same_client client entry.0.client)) table.holds; writes = filter (λ write. not (same_client client write.0)) table.writes }

abbrev pub purging : ServerState → ClientId → ServerState
purging server client = record server {
  collecting = record (with_standing server.collecting client Purged) { table = without_holds (table_in server) client };
  requests = without_client server.requests client;
  asked = filter (λ entry. not (same_client client entry.0.client)) server.asked;
}

abbrev pub doing : ServerState → Deed → ServerState
doing server (Changes request reply new_ino) = server
doing server (Flushes client flush) = lowering server (record { 0 = client }) flush.ino (left_by flush)
doing server (Purges client) = purging server (record { 0 = client })
doing server (Reaps ino) = server

abbrev pub committing : ServerState → Commit → ServerState
committing server commit = record (doing server commit.deed) { volume = edited server.volume commit.edit; sectors = written (written server.sectors commit.lays) commit.homes }

-- the server after an act
unfoldable pub after_act : ServerState → Act → ServerState
after_act server (Mounts volume) = booted server.collecting.window volume server.sectors
after_act server (Tells lane message) = telling server (record { 0 = lane.client }) message
after_act server (Commits commit) = committing server commit
after_act server Drops = without_head server

-- the server after some acts, which stand newest first
unfoldable pub after_acts : ServerState → List Act → ServerState
after_acts server [] = server
after_acts server (act ∷ before) = after_act (after_acts server before) act
