-- Whom a server asks, and for what: for reports while it collects, for holds that block, and for those on an
-- orphan.
use Rattle.std.specs.Prelude.{◌≡◌, ◌⊎◌, ◌∷◌, [], ◌&&◌, ℕ, Bool, true, false, not, nat_eq, if◌then◌else◌, List, Option, Some, None, IsTrue, filter}
use Rattle.cal_base.specs.Limits.{clients, inodes}
use Rattle.cal_base.specs.declared.identity.ClientId.{ClientId}
use Rattle.cal_base.specs.declared.identity.Ino.{Ino}
use Rattle.message.specs.declared.message.Message.{Message}
use Rattle.message.specs.declared.message.Message.TheVariants.{Acquire, Change, Flushed, Revoke, Ask, Wait, Admit}
use Rattle.rebuild.specs.Collecting.{missing_of, next_of, standing_of}
use Rattle.rebuild.specs.declared.reporting.Reporting.{Reporting}
use Rattle.rebuild.specs.declared.reporting.Reporting.TheVariants.{Unlisted, Listed, Asked, Whole, Purged}
use Rattle.revocation.specs.Revokes.{revokes_of}
use Rattle.token_kind.specs.declared.blocker.Blocker.{Blocker}
use Rattle.token_kind.specs.declared.«class».Class.TheVariants.{Data, Attr}
use Rattle.token_kind.specs.declared.revoke.Revoke.{Revoke as RevokeRecord}
use Rattle.token_table.specs.Blockers.{clients_below, touchers_of}
use Rattle.tree_law.specs.declared.request.Request.{Request}
use Rattle.volume_edit.specs.Edit.{inode_at}
use Rattle.cluster_law.specs.Blocking.{blocks, is_open_by_some}
use Rattle.cluster_law.specs.Granting.{head}
use Rattle.cluster_law.specs.Lanes.{Act, Mounts, Tells, Commits, Drops}
use Rattle.cluster_law.specs.Lists.{first_of, inodes_below}
use Rattle.cluster_law.specs.ServerState.{ServerState, is_admitted, is_file, table_in}
use Rattle.cluster_law.specs.Sessions.{Taken}

-- a request with this number
abbrev pub is_request : ℕ → Message → Bool
is_request number (Acquire n want) = nat_eq n number
is_request number (Change n call) = nat_eq n number
is_request number message = false

abbrev pub TookRequest : Option Taken → ClientId → ℕ → Type 0
TookRequest None client number = ⊥
TookRequest (Some t) client number = (t.lane.client ≡ client.0) × IsTrue (is_request number t.message)

-- such a message was made to a client before in the step
abbrev pub was_told : ℕ → (Message → Bool) → List Act → Bool
was_told client test [] = false
was_told client test (Mounts volume ∷ before) = was_told client test before
was_told client test (Tells lane message ∷ before) = if nat_eq lane.client client && test message then true else was_told client test before
was_told client test (Commits commit ∷ before) = was_told client test before
was_told client test (Drops ∷ before) = was_told client test before

abbrev pub is_wait : Message → Bool
is_wait (Wait number client) = true
is_wait message = false

abbrev pub is_flushed : Message → Bool
is_flushed (Flushed number) = true
is_flushed message = false

abbrev pub is_admit : Message → Bool
is_admit Admit = true
is_admit message = false

-- a Wait answers, once, the request that a collecting server took, and names the least client that it waits for
pub record Waits (server : ServerState) (took : Option Taken) (before : List Act) (client : ClientId) (number : ℕ) (least : ClientId) : Type 0 where
  pub taken : TookRequest took client number
  pub least_is : missing_of server.collecting ≡ Some least
  pub once : was_told client.0 is_wait before ≡ false

-- a client is listed and its report is whole
abbrev pub is_whole : Reporting → Bool
is_whole Unlisted = false
is_whole Listed = false
is_whole (Asked next) = false
is_whole Whole = true
is_whole Purged = false

-- the first client whose report is whole and to which no Admit was made yet in the step
abbrev pub is_to_admit : ServerState → List Act → ClientId → Bool
is_to_admit server before client = is_whole (standing_of server.collecting client) && not (was_told client.0 is_admit before)

abbrev pub first_to_admit : ServerState → List Act → Option ClientId
first_to_admit server before = first_of (filter (is_to_admit server before) (clients_below clients))

-- Admits go, in the step in which no client is waited for any longer, to all whose reports are whole, in order
pub record Admits (was_admitted : Bool) (server : ServerState) (before : List Act) (client : ClientId) : Type 0 where
  pub new : was_admitted ≡ false
  pub admitted : IsTrue (is_admitted server)
  pub next : first_to_admit server before ≡ Some client

-- an Ask goes to the next client, while fewer than the window are asked; a Flushed is told once
abbrev pub CollectsWell : Option Taken → Bool → ServerState → List Act → Act → Type 0
CollectsWell took was_admitted server before (Tells lane (Wait number least)) = Waits server took before (record { 0 = lane.client }) number least
CollectsWell took was_admitted server before (Tells lane Ask) = next_of server.collecting ≡ Some (record { 0 = lane.client })
CollectsWell took was_admitted server before (Tells lane Admit) = Admits was_admitted server before (record { 0 = lane.client })
CollectsWell took was_admitted server before (Tells lane (Flushed number)) = was_told lane.client is_flushed before ≡ false
CollectsWell took was_admitted server before act = Unit {0}

-- the files without a name that nobody has open
abbrev pub is_orphan : ServerState → Ino → Bool
is_orphan server ino = is_file server ino && not (inode_at server.volume.inodes ino.0).named

abbrev pub is_deserted : ServerState → Ino → Bool
is_deserted server ino = is_orphan server ino && not (is_open_by_some (table_in server) ino)

abbrev pub deserted : ServerState → Option Ino
deserted server = first_of (filter (is_deserted server) (inodes_below inodes))

-- the holds of its bytes, and then those of its size
abbrev pub holders_of : ServerState → Option Ino → List Blocker
holders_of server None = []
holders_of server (Some ino) = touchers_of (table_in server) ((ino, Data) ∷ (ino, Attr) ∷ [])

abbrev pub blocks_of : ServerState → Option Request → List Blocker
blocks_of server None = []
blocks_of server (Some request) = blocks server request

-- the Revoke that goes out next for some holds: those that were asked before aren't asked again
abbrev pub next_revoke : ServerState → List Blocker → Option (ClientId × RevokeRecord)
next_revoke server blockers = first_of (revokes_of server.asked blockers)

-- a Revoke goes to an admitted server's clients alone. It is the next one for the holds that block the head of
-- the line, or, where orphans are looked at, for those on the least deserted one
pub record Revokes (orphans : Bool) (server : ServerState) (client : ClientId) (revoke : RevokeRecord) : Type 0 where
  pub admitted : IsTrue (is_admitted server)
  pub next : (next_revoke server (blocks_of server (head server)) ≡ Some (client, revoke)) ⊎ (IsTrue orphans × (next_revoke server (holders_of server (deserted server)) ≡ Some (client, revoke)))

abbrev pub RevokesWell : Bool → ServerState → Act → Type 0
RevokesWell orphans server (Tells lane (Revoke revoke)) = Revokes orphans server (record { 0 = lane.client }) revoke
RevokesWell orphans server act = Unit {0}
