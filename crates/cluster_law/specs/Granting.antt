-- What a server may grant, commit and tell, act by act.
use Rattle.std.specs.Prelude.{◌≡◌, ◌+◌, ◌<◌, ◌≤◌, [], ℕ, Bool, true, false, not, List, Option, Some, None, IsTrue, length, map, slice_index}
use Rattle.cal_base.specs.declared.identity.ClientId.{ClientId}
use Rattle.cal_base.specs.declared.identity.Ino.{Ino}
use Rattle.message.specs.declared.message.Message.{Message}
use Rattle.message.specs.declared.message.Message.TheVariants.{Grant, Refuse, Done, Flush, Flushed}
use Rattle.token_kind.specs.declared.«class».Class.{Class}
use Rattle.token_kind.specs.declared.«class».Class.TheVariants.{Names, Data, Attr, Open}
use Rattle.token_kind.specs.declared.content.Content.{Content}
use Rattle.token_kind.specs.declared.content.Content.TheVariants.{Nothing as Empty, Names as Entries, Bytes, Size}
use Rattle.token_kind.specs.declared.flush.Flush.{Flush as FlushRecord}
use Rattle.token_kind.specs.declared.grant_item.GrantItem.{GrantItem}
use Rattle.token_table.specs.Table.{held_of}
use Rattle.tree_law.specs.PartOf.{IsListing}
use Rattle.tree_law.specs.Tree.{Tree, node_at}
use Rattle.tree_law.specs.declared.call.Call.{Call}
use Rattle.tree_law.specs.declared.node.Node.{Node}
use Rattle.tree_law.specs.declared.node.Node.TheVariants.{Directory, Regular}
use Rattle.cal_base.specs.declared.directory_entry.DirectoryEntry.{DirectoryEntry}
use Rattle.tree_law.specs.declared.reply.Reply.{Reply}
use Rattle.tree_law.specs.declared.request.Asked.TheVariants.{Want as Wants, Change as Alters}
use Rattle.tree_law.specs.declared.request.Request.{Request}
use Rattle.tree_law.specs.declared.request.Want.{Want}
use Rattle.inode.specs.declared.inode.Inode.{Inode}
use Rattle.volume.specs.Volume.{file_byte}
use Rattle.volume_edit.specs.Edit.{inode_at, slot_at}
use Rattle.volume_edit.specs.Homes.{AreHomes}
use Rattle.volume_plan.specs.Flushing.{blocks_for as blocks_to_lay, data_writes, flush_of}
use Rattle.volume_plan.specs.Plans.{free_count}
use Rattle.volume_plan.specs.Shown.{shown}
use Rattle.cluster_law.specs.Blocking.{blocks, blocks_for, lacking, lacks_space, last_change, planned}
use Rattle.cluster_law.specs.Lanes.{Act, Mounts, Tells, Commits, Drops, Commit, Deed, Changes, Flushes, Purges, Reaps}
use Rattle.cluster_law.specs.Lists.{Each, first_of}
use Rattle.cluster_law.specs.ServerState.{ServerState, granted_token, is_admitted, last_flush, as_request, table_in, uses_new_flush}
use Rattle.cluster_law.specs.Sessions.{Taken}
use Rattle.cluster_law.specs.Book.{is_held}

-- the request at the head of the line
abbrev pub head : ServerState → Option Request
head server = first_of server.requests

-- the bytes of a file, as its inode and the sectors have them
pub record AreBytes (sectors : List (List ℕ)) (inode : Inode) (bytes : List ℕ) : Type 0 where
  pub size : length bytes ≡ inode.size
  pub each : (i : ℕ) → i < inode.size → slice_index bytes i ≡ file_byte sectors inode i

-- entries are those of a directory
abbrev pub AreEntriesOf : Tree → Option Node → List DirectoryEntry → Type 0
AreEntriesOf tree (Some (Directory names)) entries = IsListing tree names entries
AreEntriesOf tree (Some (Regular file)) entries = ⊥
AreEntriesOf tree None entries = ⊥

-- what comes with an item that is fresh: with Names the entries, with Data the bytes, with Attr the size
abbrev pub IsFreshContent : ServerState → Ino → Class → Content → Type 0
IsFreshContent server ino Names (Entries entries) = AreEntriesOf (shown server.volume) (node_at (shown server.volume) ino) entries
IsFreshContent server ino Names content = ⊥
IsFreshContent server ino Data (Bytes bytes) = AreBytes server.sectors (inode_at server.volume.inodes ino.0) bytes
IsFreshContent server ino Data content = ⊥
IsFreshContent server ino Attr (Size size) = size ≡ (inode_at server.volume.inodes ino.0).size
IsFreshContent server ino Attr content = ⊥
IsFreshContent server ino Open content = content ≡ Empty

abbrev pub IsContent : Bool → ServerState → Ino → Class → Content → Type 0
IsContent true server ino cls content = IsFreshContent server ino cls content
IsContent false server ino cls content = content ≡ Empty

-- an item is fresh exactly where the client holds nothing in its class, and brings content exactly then
pub record IsItem (server : ServerState) (client : ClientId) (item : GrantItem) : Type 0 where
  pub fresh : item.fresh ≡ not (is_held (held_of (table_in server) client item.ino item.«class»))
  pub content : IsContent item.fresh server item.ino item.«class» item.content

-- a Grant answers the head of the line of an admitted server, which nothing blocks and for which there are
-- blocks enough. Its items are what of its needs the table doesn't show, in order
pub record Grants (server : ServerState) (client : ClientId) (number : ℕ) (items : List GrantItem) : Type 0 where
  pub want : Want
  pub admitted : IsTrue (is_admitted server)
  pub head_is : head server ≡ Some (as_request client number (Wants want))
  pub unblocked : blocks server (as_request client number (Wants want)) ≡ []
  pub room : lacks_space server (as_request client number (Wants want)) ≡ false
  pub lacks : map granted_token items ≡ lacking server client want
  pub each : Each (IsItem server client) items

abbrev pub GrantsWell : ServerState → Act → Type 0
GrantsWell server (Tells lane (Grant number items)) = Grants server (record { 0 = lane.client }) number items
GrantsWell server act = Unit {0}

-- a Refuse answers the head, which nothing blocks but that too few blocks are free, with their count
pub record Refuses (server : ServerState) (client : ClientId) (number free wanted : ℕ) : Type 0 where
  pub want : Want
  pub admitted : IsTrue (is_admitted server)
  pub head_is : head server ≡ Some (as_request client number (Wants want))
  pub lacks : IsTrue (lacks_space server (as_request client number (Wants want)))
  pub free_is : free ≡ free_count server.volume
  pub wanted_is : wanted ≡ blocks_for server client number (Wants want)

abbrev pub RefusesWell : ServerState → Act → Type 0
RefusesWell server (Tells lane (Refuse number free wanted)) = Refuses server (record { 0 = lane.client }) number free wanted
RefusesWell server act = Unit {0}

-- a change is that of the head, not carried out before, which nothing blocks; it is carried out as it is
-- planned, with the least free inode and the least free block, and refused where the plan refuses it
pub record CommitsChange (server : ServerState) (asked : Request) (reply : Reply) (new_ino : Option Ino) (commit : Commit) : Type 0 where
  pub call : Call
  pub admitted : IsTrue (is_admitted server)
  pub head_is : head server ≡ Some asked
  pub call_is : asked.asked ≡ Alters call
  pub new : last_change server asked.client < asked.number
  pub unblocked : blocks server asked ≡ []
  pub reply_is : reply ≡ (planned server asked.client asked.number call).reply
  pub new_ino_is : new_ino ≡ (planned server asked.client asked.number call).new_ino
  pub edit_is : commit.edit ≡ (planned server asked.client asked.number call).edit
  pub lays_none : commit.lays ≡ []

-- the step took this message of this client
abbrev pub Took : Option Taken → ClientId → Message → Type 0
Took None client message = ⊥
Took (Some t) client message = (t.lane.client ≡ client.0) × (t.message ≡ message)

-- a flush is the one that the step took, the next of its client, of a file of which the client holds Data
-- Write; its pieces go to the least free blocks, and the inode and the slot tell them
pub record CommitsFlush (server : ServerState) (took : Option Taken) (client : ClientId) (flush : FlushRecord) (commit : Commit) : Type 0 where
  pub taken : Took took client (Flush flush)
  pub next : flush.number ≡ last_flush server client + 1
  pub fits : IsTrue (uses_new_flush server client flush)
  pub lays_is : commit.lays ≡ data_writes (blocks_to_lay server.volume flush) flush.pieces
  pub edit_is : commit.edit ≡ flush_of server.volume client flush

abbrev pub CommitsDeed : ServerState → Option Taken → Deed → Commit → Type 0
CommitsDeed server took (Changes asked reply new_ino) commit = CommitsChange server asked reply new_ino commit
CommitsDeed server took (Flushes client flush) commit = CommitsFlush server took (record { 0 = client }) flush commit
CommitsDeed server took (Purges client) commit = Unit {0}
CommitsDeed server took (Reaps ino) commit = Unit {0}

-- a Done answers the head, whose number the client's slot has, with the reply that was kept there
pub record TellsDone (server : ServerState) (client : ClientId) (number : ℕ) (reply : Reply) : Type 0 where
  pub call : Call
  pub admitted : IsTrue (is_admitted server)
  pub head_is : head server ≡ Some (as_request client number (Alters call))
  pub number_is : (slot_at server.volume.slots client.0).call ≡ number
  pub reply_is : (slot_at server.volume.slots client.0).reply ≡ reply

-- a Flushed answers the Flush that the step took, once it is on the disk
pub record TellsFlushed (server : ServerState) (took : Option Taken) (client : ClientId) (number : ℕ) : Type 0 where
  pub flush : FlushRecord
  pub taken : Took took client (Flush flush)
  pub number_is : flush.number ≡ number
  pub lasts : number ≤ last_flush server client

-- the request that is dropped is an old one: its client's slot has a higher number
pub record DropsOld (server : ServerState) : Type 0 where
  pub old : Request
  pub call : Call
  pub admitted : IsTrue (is_admitted server)
  pub head_is : head server ≡ Some old
  pub call_is : old.asked ≡ Alters call
  pub below : old.number < last_change server old.client

abbrev pub CommitsWell : Option Taken → ServerState → Act → Type 0
CommitsWell took server (Mounts volume) = Unit {0}
CommitsWell took server (Commits commit) = CommitsDeed server took commit.deed commit × AreHomes server.volume commit.edit commit.homes
CommitsWell took server (Tells lane (Done number reply)) = TellsDone server (record { 0 = lane.client }) number reply
CommitsWell took server (Tells lane (Flushed number)) = TellsFlushed server took (record { 0 = lane.client }) number
CommitsWell took server (Tells lane message) = Unit {0}
CommitsWell took server Drops = DropsOld server
