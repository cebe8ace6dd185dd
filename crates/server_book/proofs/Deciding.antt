-- Servers that are alike decide alike.
use Rattle.std.specs.Prelude.{◌≡◌, ◌∷◌, ◌++◌, [], ◌&&◌, ◌||◌, ◌+◌, ◌*◌, ℕ, Bool, not, nat_eq, nat_le, nat_lt, List, Option, Some, None, filter, length, if◌then◌else◌, is_none, map}
use Rattle.std.proofs.Common.{ap, refl, ◌∙◌}
use Rattle.std.specs.List.{list_all}
use Rattle.cal_base.specs.Limits.{clients, inodes, unflushed_blocks}
use Rattle.cal_base.specs.declared.identity.ClientId.{ClientId}
use Rattle.cal_base.specs.declared.identity.Ino.{Ino}
use Rattle.message.specs.declared.message.Message.{Message}
use Rattle.message.specs.declared.message.Message.TheVariants.{Acquire, Grant, Refuse, Change, Done, Flush, Flushed, Revoke, Release, Ask, Piece, Wait, Admit}
use Rattle.rebuild.specs.Collecting.{missing_of, next_of, standing_of}
use Rattle.rebuild.specs.Reports.{judged}
use Rattle.token_kind.specs.Hold.{conflict, hold_number}
use Rattle.token_kind.specs.declared.blocker.Blocker.{Blocker}
use Rattle.token_kind.specs.declared.«class».Class.{Class}
use Rattle.token_kind.specs.declared.«class».Class.TheVariants.{Data, Attr}
use Rattle.token_kind.specs.declared.flush.Flush.{Flush as FlushRecord}
use Rattle.token_kind.specs.declared.piece.Piece.{Piece as PieceRecord}
use Rattle.token_kind.specs.declared.token.Token.{Token}
use Rattle.token_table.specs.Blockers.{clients_below}
use Rattle.token_table.specs.Table.{hold_at, held_of, key_of, same_client}
use Rattle.tree_law.specs.declared.call.Call.{Call}
use Rattle.tree_law.specs.declared.request.Asked.{Asked}
use Rattle.tree_law.specs.declared.request.Asked.TheVariants.{Want as Wants, Change as Alters}
use Rattle.tree_law.specs.declared.request.Request.{Request}
use Rattle.tree_law.specs.declared.request.Want.{Want}
use Rattle.tree_law.specs.declared.request.Want.TheVariants.{Stat, Open as OpenWant, Readdir, Read as ReadWant, Write as WriteWant}
use Rattle.revocation.specs.Waiting.{asked_at}
use Rattle.volume_edit.specs.Edit.{inode_at, slot_at}
use Rattle.volume_plan.specs.Plans.{free_count, plan}
use Rattle.cluster_law.specs.Asking.{blocks_of, deserted, first_to_admit, holders_of, is_admit, is_whole, next_revoke, was_told}
use Rattle.cluster_law.specs.Blocking.{blocks, blocks_for, first_write, holds_for, lacking, lacks_space, last_change, needs_write, or_space, planned, reserved}
use Rattle.cluster_law.specs.Granting.{head}
use Rattle.cluster_law.specs.Lanes.{Act}
use Rattle.cluster_law.specs.Lists.{first_of, inodes_below, is_empty}
use Rattle.cluster_law.specs.Removing.{due}
use Rattle.cluster_law.specs.ServerState.{ServerState, is_admitted, is_file, is_file_kind, is_next_piece, is_present, last_flush, table_in, uses, uses_flush, uses_new_flush, uses_piece, uses_want}
use Rattle.cluster_law.specs.Tokens.{touch_of}
use Rattle.server_book.specs.Alike.{Alike}
use Rattle.server_book.proofs.Faces.{Held, asked-path, blockers_by, holds-path, is_open_by, lacking_by, needed_by, opened_by, own_by, revokes_by, touchers_by}

module _ (a b : ServerState) (alike : Alike a b) where
  held : hold_at (table_in a).holds ≡ hold_at (table_in b).holds
  held = holds-path (table_in a) (table_in b) alike.table

  back : asked_at a.asked ≡ asked_at b.asked
  back = asked-path a.asked b.asked alike.asked

  -- whom a server waits for, asks and admits
  pub missing : missing_of a.collecting ≡ missing_of b.collecting
  missing = ap missing_of alike.standing

  pub next : next_of a.collecting ≡ next_of b.collecting
  next = ap next_of alike.standing

  pub admitted : is_admitted a ≡ is_admitted b
  admitted = ap (λ c. is_none c) missing

  pub stands : (client : ClientId) → standing_of a.collecting client ≡ standing_of b.collecting client
  stands client = ap (λ s. standing_of s client) alike.standing

  pub admits : (before : List Act) → first_to_admit a before ≡ first_to_admit b before
  admits before = ap (λ s. first_of (filter (λ client. is_whole (standing_of s client) && not (was_told client.0 is_admit before)) (clients_below clients))) alike.standing

  pub head-same : head a ≡ head b
  head-same = ap first_of alike.requests

  -- what a client holds
  pub held-same : (client : ClientId) (ino : Ino) (cls : Class) → held_of (table_in a) client ino cls ≡ held_of (table_in b) client ino cls
  held-same client ino cls = alike.table.holds (key_of client ino cls)

  -- what a client lacks, and how a change is planned
  pub lacks : (client : ClientId) (want : Want) → lacking a client want ≡ lacking b client want
  lacks client want = λ i. lacking_by (held i) (alike.volume i) client want

  pub plans : (client : ClientId) (number : ℕ) (call : Call) → planned a client number call ≡ planned b client number call
  plans client number call = λ i. plan (alike.volume i) client number call (opened_by (held i))

  pub changed : (client : ClientId) → last_change a client ≡ last_change b client
  changed client = ap (λ v. (slot_at v.slots client.0).call) alike.volume

  pub flushes : (client : ClientId) → last_flush a client ≡ last_flush b client
  flushes client = ap (λ v. (slot_at v.slots client.0).flush) alike.volume

  -- what blocks a request
  held-for : (client : ClientId) (number : ℕ) (asked : Asked) → holds_for a client number asked ≡ holds_for b client number asked
  held-for client number (Wants want) = λ i. blockers_by (held i) client (lacks client want i) ++ own_by (back i) client (needed_by (alike.volume i) want)
  held-for client number (Alters call) = λ i. if nat_le number (changed client i) then [] else touchers_by (held i) (map touch_of (plans client number call i).touches)

  pub wanted : (client : ClientId) (number : ℕ) (asked : Asked) → blocks_for a client number asked ≡ blocks_for b client number asked
  wanted client number (Wants want) = λ i. if needs_write (lacks client want i) then unflushed_blocks else 0
  wanted client number (Alters call) = λ i. if nat_le number (changed client i) then 0 else (plans client number call i).needed

  pub reserve : reserved a ≡ reserved b
  reserve = ap (λ writes. unflushed_blocks * length writes) alike.table.order

  space : (n : ℕ) (blockers : List Blocker) → or_space a n blockers ≡ or_space b n blockers
  space n [] = λ i. if nat_lt (free_count (alike.volume i)) (n + reserve i) then first_write (alike.table.order i) else []
  space n (blocker ∷ blockers) = refl

  pub blocked : (request : Request) → blocks a request ≡ blocks b request
  unfolding blocks
  blocked request =
      space (blocks_for a request.client request.number request.asked) (holds_for a request.client request.number request.asked)
      ∙ (λ i. or_space b (wanted request.client request.number request.asked i) (held-for request.client request.number request.asked i))

  pub short : (request : Request) → lacks_space a request ≡ lacks_space b request
  short request = λ i. is_empty (blocked request i) && nat_lt (free_count (alike.volume i)) (wanted request.client request.number request.asked i)

  blocked-of : (o : Option Request) → blocks_of a o ≡ blocks_of b o
  blocked-of None = refl
  blocked-of (Some request) = blocked request

  pub blocked-head : blocks_of a (head a) ≡ blocks_of b (head b)
  blocked-head = blocked-of (head a) ∙ ap (blocks_of b) head-same

  -- what is asked back next
  pub revoked : (blockers : List Blocker) → next_revoke a blockers ≡ next_revoke b blockers
  revoked blockers = λ i. first_of (revokes_by (back i) blockers)

  -- which client is purged, and which orphan is freed
  pub purged : (gone : ClientId → Bool) → due gone a ≡ due gone b
  purged gone = ap (λ v. first_of (filter (λ client. gone client && is_present v client) (clients_below v.clients))) alike.volume

  pub orphan : deserted a ≡ deserted b
  orphan = λ i. first_of (filter (λ ino. (is_file_kind (inode_at (alike.volume i).inodes ino.0).kind && not (inode_at (alike.volume i).inodes ino.0).named) && not (is_open_by (held i) ino)) (inodes_below inodes))

  pub holders : (o : Option Ino) → holders_of a o ≡ holders_of b o
  holders None = refl
  holders (Some ino) = λ i. touchers_by (held i) ((ino, Data) ∷ (ino, Attr) ∷ [])

  -- which messages are used
  file : (ino : Ino) → is_file a ino ≡ is_file b ino
  file ino = ap (λ v. is_file_kind (inode_at v.inodes ino.0).kind) alike.volume

  pub used-new-flush : (client : ClientId) (flush : FlushRecord) → uses_new_flush a client flush ≡ uses_new_flush b client flush
  used-new-flush client flush = λ i.
      admitted i && file flush.ino i && nat_eq (hold_number (held-same client flush.ino Data i)) 2
      && nat_le (length flush.pieces) (length (filter (λ (free : Bool). free) (alike.volume i).free))

  used-flush : (client : ClientId) (flush : FlushRecord) → uses_flush a client flush ≡ uses_flush b client flush
  used-flush client flush = λ i. nat_le flush.number (flushes client i) || nat_eq flush.number (flushes client i + 1) && used-new-flush client flush i

  used-piece : (client : ClientId) (piece : PieceRecord) → uses_piece a client piece ≡ uses_piece b client piece
  used-piece client piece = λ i.
      is_next_piece (stands client i) piece.index
      && list_all (λ hold. apart_by (held i) (judged (flushes client i) hold)) piece.holds
    where
      apart_by : Held → Token → Bool
      apart_by held token = list_all (λ other. same_client client other || not (conflict token.hold (held (key_of other token.ino token.«class»)))) (clients_below clients)

  used-want : (want : Want) → uses_want a want ≡ uses_want b want
  used-want (Stat path) = refl
  used-want (OpenWant path) = refl
  used-want (Readdir path) = refl
  used-want (ReadWant ino) = file ino
  used-want (WriteWant ino) = file ino

  pub used : (client : ClientId) (message : Message) → uses a client message ≡ uses b client message
  used client (Acquire number want) = used-want want
  used client (Grant number items) = refl
  used client (Refuse number free needed) = refl
  used client (Change number call) = refl
  used client (Done number reply) = refl
  used client (Flush flush) = used-flush client flush
  used client (Flushed number) = refl
  used client (Revoke revoke) = refl
  used client (Release release) = refl
  used client Ask = refl
  used client (Piece piece) = used-piece client piece
  used client (Wait number least) = refl
  used client Admit = refl
