-- What stands in the way of a request.
use Rattle.std.specs.Prelude.{◌+◌, ◌*◌, ◌∷◌, ◌++◌, [], ◌&&◌, ℕ, Bool, not, nat_le, nat_lt, if◌then◌else◌, List, filter, length, map}
use Rattle.std.specs.List.{list_any}
use Rattle.cal_base.specs.Limits.{clients, inodes, unflushed_blocks}
use Rattle.cal_base.specs.declared.identity.ClientId.{ClientId}
use Rattle.cal_base.specs.declared.identity.Ino.{Ino}
use Rattle.revocation.specs.Waiting.{own_blockers}
use Rattle.token_kind.specs.Hold.{hold_number}
use Rattle.token_kind.specs.declared.blocker.Blocker.{Blocker}
use Rattle.token_kind.specs.declared.«class».Class.TheVariants.{Data}
use Rattle.token_kind.specs.declared.hold.Hold.TheVariants.{Read}
use Rattle.token_kind.specs.declared.token.Token.{Token}
use Rattle.token_table.specs.Blockers.{blockers_of, clients_below, has_open, touchers_of}
use Rattle.token_table.specs.Table.{Table, held_of, is_data_write}
use Rattle.tree_law.specs.Needs.{needs_of_want}
use Rattle.tree_law.specs.declared.call.Call.{Call}
use Rattle.tree_law.specs.declared.request.Asked.{Asked}
use Rattle.tree_law.specs.declared.request.Asked.TheVariants.{Want as Wants, Change as Alters}
use Rattle.tree_law.specs.declared.request.Request.{Request}
use Rattle.tree_law.specs.declared.request.Want.{Want}
use Rattle.volume_edit.specs.Edit.{slot_at}
use Rattle.volume_plan.specs.Plans.{Plan, free_count, plan}
use Rattle.volume_plan.specs.Shown.{shown}
use Rattle.cluster_law.specs.Lists.{inodes_below, is_empty}
use Rattle.cluster_law.specs.ServerState.{ServerState, table_in}
use Rattle.cluster_law.specs.Tokens.{token_of, touch_of}

-- what a client needs for what it wants, by the names that the server's volume shows; and what of it the
-- table doesn't show
abbrev pub needed : ServerState → Want → List Token
needed server want = map token_of (needs_of_want (shown server.volume) want)

abbrev pub is_shown : Table → ClientId → Token → Bool
is_shown table client need = nat_le (hold_number need.hold) (hold_number (held_of table client need.ino need.«class»))

abbrev pub lacking : ServerState → ClientId → Want → List Token
lacking server client want = filter (λ need. not (is_shown (table_in server) client need)) (needed server want)

-- the files that someone has open
abbrev pub is_open_by_some : Table → Ino → Bool
is_open_by_some table ino = list_any (has_open table ino) (clients_below clients)

abbrev pub opened_files : ServerState → List Ino
opened_files server = filter (is_open_by_some (table_in server)) (inodes_below inodes)

-- the plan of a change on the volume; the number of the client's last change on it
abbrev pub planned : ServerState → ClientId → ℕ → Call → Plan
planned server client number call = plan server.volume client number call (opened_files server)

abbrev pub last_change : ServerState → ClientId → ℕ
last_change server client = (slot_at server.volume.slots client.0).call

-- the holds that block a request: those of others that conflict with a need that lacks, and then the caller's
-- own needed holds that it was asked to give up; for a change that isn't carried out yet, all holds on what it
-- touches
abbrev pub holds_for : ServerState → ClientId → ℕ → Asked → List Blocker
holds_for server client number (Wants want) = blockers_of (table_in server) client (lacking server client want) ++ own_blockers server.asked client (needed server want)
holds_for server client number (Alters call) =
    if nat_le number (last_change server client) then []
    else touchers_of (table_in server) (map touch_of (planned server client number call).touches)

-- the blocks that a request needs: 16 for a Data Write that lacks, and those of a change's plan
abbrev pub needs_write : List Token → Bool
needs_write needs = list_any (λ need. is_data_write need.«class» need.hold) needs

abbrev pub blocks_for : ServerState → ClientId → ℕ → Asked → ℕ
blocks_for server client number (Wants want) = if needs_write (lacking server client want) then unflushed_blocks else 0
blocks_for server client number (Alters call) = if nat_le number (last_change server client) then 0 else (planned server client number call).needed

-- 16 blocks are kept for each Data Write hold
abbrev pub reserved : ServerState → ℕ
reserved server = unflushed_blocks * length (table_in server).writes

-- where no hold blocks and blocks are wanting beside those that are kept, the Data Write hold that was granted
-- first blocks, and is asked down to Read
abbrev pub first_write : List (ClientId × Ino) → List Blocker
first_write [] = []
first_write (write ∷ writes) = record { client = write.0; ino = write.1; «class» = Data; asked = Read } ∷ []

abbrev pub or_space : ServerState → ℕ → List Blocker → List Blocker
or_space server wanted [] = if nat_lt (free_count server.volume) (wanted + reserved server) then first_write (table_in server).writes else []
or_space server wanted (blocker ∷ blockers) = blocker ∷ blockers

-- all that blocks a request, in order
unfoldable pub blocks : ServerState → Request → List Blocker
blocks server request = or_space server (blocks_for server request.client request.number request.asked) (holds_for server request.client request.number request.asked)

-- nothing blocks a request but that too few blocks are free
abbrev pub lacks_space : ServerState → Request → Bool
lacks_space server request = is_empty (blocks server request) && nat_lt (free_count server.volume) (blocks_for server request.client request.number request.asked)
