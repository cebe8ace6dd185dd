-- What a server's step keeps: each of its acts where it stands, and what is owed at the end.
use Rattle.std.specs.Prelude.{◌≡◌, ◌≤◌, ◌∷◌, ◌++◌, [], ◌&&◌, ℕ, Bool, true, false, List, Option, Some, None, IsTrue, is_none}
use Rattle.cal_base.specs.declared.identity.ClientId.{ClientId}
use Rattle.cal_base.specs.declared.identity.Ino.{Ino}
use Rattle.message.specs.declared.message.Message.{Message}
use Rattle.message.specs.declared.message.Message.TheVariants.{Acquire, Change, Flush}
use Rattle.rebuild.specs.Collecting.{next_of}
use Rattle.token_kind.specs.declared.block.Block.{Block}
use Rattle.token_kind.specs.declared.blocker.Blocker.{Blocker}
use Rattle.tree_law.specs.declared.entry.Entry.{Entry}
use Rattle.tree_law.specs.declared.entry.Entry.TheVariants.{Call as Called, Flush as FlushedEntry, Purge as PurgedEntry}
use Rattle.tree_law.specs.declared.reply.Reply.{Reply}
use Rattle.tree_law.specs.declared.request.Asked.{Asked}
use Rattle.tree_law.specs.declared.request.Asked.TheVariants.{Want as Wants, Change as Alters}
use Rattle.tree_law.specs.declared.request.Request.{Request}
use Rattle.volume.specs.Volume.{SpellsVolume}
use Rattle.volume_edit.specs.Edit.{IsVolume}
use Rattle.volume_plan.specs.Plans.{free_count}
use Rattle.cluster_law.specs.Asking.{CollectsWell, RevokesWell, blocks_of, deserted, first_to_admit, holders_of, next_revoke, is_wait, is_flushed, was_told}
use Rattle.cluster_law.specs.Blocking.{blocks, reserved}
use Rattle.cluster_law.specs.Granting.{CommitsWell, GrantsWell, RefusesWell, head}
use Rattle.cluster_law.specs.Lanes.{Act, Mounts, Tells, Commits, Drops, Deed, Changes, Flushes, Purges, Reaps}
use Rattle.cluster_law.specs.Lists.{EachAfter}
use Rattle.cluster_law.specs.Removing.{HasDone, RemovesWell, due}
use Rattle.cluster_law.specs.ServerState.{ServerState, after_act, after_acts, is_admitted, uses}
use Rattle.cluster_law.specs.Sessions.{Taken}

-- a fact of a server's step, by the view that it serves; and of every other step
abbrev pub OfView : Option ℕ → (ℕ → Type 0) → Type 0
OfView None P = Unit {0}
OfView (Some view) P = P view

abbrev pub OfNoView : Option ℕ → Type 0 → Type 0
OfNoView None P = P
OfNoView (Some view) P = Unit {0}

-- a step of a server: what it is told beside its own state. The message that it takes; whether it is a Tick,
-- and a boot; whether it was admitted before; and which clients were declared gone
pub record Occasion : Type 0 where
  pub took : Option Taken
  pub tick : Bool
  pub boot : Bool
  pub was_admitted : Bool
  pub gone : ClientId → Bool

-- each act keeps a rule in the state that the acts before it leave
abbrev pub EachAct : ServerState → (ServerState → List Act → Act → Type 0) → List Act → Type 0
EachAct start P acts = EachAfter (λ before act. P (after_acts start before) before act) acts

-- orphans are looked at in a Tick of an admitted server that has nobody to purge
abbrev pub looks_at_orphans : Occasion → ServerState → Bool
looks_at_orphans o start = o.tick && is_admitted start && is_none (due o.gone start)

-- 16 blocks are free for each Data Write hold, while the server is admitted
abbrev pub HasReserve : ServerState → Type 0
HasReserve server = IsTrue (is_admitted server) → reserved server ≤ free_count server.volume

-- what an act of a server has to be, in the state in which it is done, after others of the step
pub record ActsWell (o : Occasion) (start server : ServerState) (before : List Act) (act : Act) : Type 0 where
  pub grants : GrantsWell server act
  pub refuses : RefusesWell server act
  pub commits : CommitsWell o.took server act
  pub collects : CollectsWell o.took o.was_admitted server before act
  pub revokes : RevokesWell (looks_at_orphans o start) server act
  pub removes : RemovesWell o.tick o.gone server before act
  pub reserve : HasReserve (after_act server act)

-- what a server owes for the message that it took: a request is answered Wait while it collects, and a Flush
-- is answered Flushed
abbrev pub AnswersRequest : ServerState → List Act → ClientId → Type 0
AnswersRequest start acts client = is_admitted start ≡ false → IsTrue (was_told client.0 is_wait acts)

abbrev pub AnswersMessage : ServerState → List Act → ClientId → Message → Type 0
AnswersMessage start acts client (Acquire number want) = AnswersRequest start acts client
AnswersMessage start acts client (Change number call) = AnswersRequest start acts client
AnswersMessage start acts client (Flush flush) = IsTrue (was_told client.0 is_flushed acts)
AnswersMessage start acts client message = Unit {0}

abbrev pub AnswersTaken : ServerState → List Act → Option Taken → Type 0
AnswersTaken start acts None = Unit {0}
AnswersTaken start acts (Some t) = IsTrue (uses start (record { 0 = t.lane.client }) t.message) → AnswersMessage start acts (record { 0 = t.lane.client }) t.message

-- as many clients as the window lets are asked; and in the step in which none is waited for any longer, all are
-- admitted
pub record Collected (o : Occasion) (end : ServerState) (acts : List Act) : Type 0 where
  pub asked : next_of end.collecting ≡ None
  pub admitted : o.was_admitted ≡ false → IsTrue (is_admitted end) → first_to_admit end acts ≡ None

-- the request at the head, and the first hold that blocks it
abbrev pub block_by : Request → Blocker → Block
block_by request blocker = record { client = request.client; number = request.number; holder = blocker.client; ino = blocker.ino; «class» = blocker.«class» }

abbrev pub IsBlocked : Request → List Blocker → Option Block → Type 0
IsBlocked request [] named = ⊥
IsBlocked request (blocker ∷ blockers) named = named ≡ Some (block_by request blocker)

abbrev pub IsNamed : ServerState → Option Request → Option Block → Type 0
IsNamed end None named = named ≡ None
IsNamed end (Some request) named = IsBlocked request (blocks end request) named

-- the line is empty, or its head is blocked: the step names what blocks it first, and all that blocks it is asked
pub record Rests (end : ServerState) (named : Option Block) : Type 0 where
  pub named_is : IsNamed end (head end) named
  pub asked : next_revoke end (blocks_of end (head end)) ≡ None

abbrev pub LineRests : Bool → ServerState → Option Block → Type 0
LineRests true end named = Rests end named
LineRests false end named = named ≡ None

-- a Tick purges the client that is due. Else an admitted server frees the least orphan that nobody has open, or
-- has asked for all holds of its bytes and its size
abbrev pub IsPurgeOf : ClientId → Deed → Type 0
IsPurgeOf client (Purges c) = c ≡ client.0
IsPurgeOf client deed = ⊥

abbrev pub IsReapOf : Ino → Deed → Type 0
IsReapOf ino (Reaps i) = i ≡ ino
IsReapOf ino deed = ⊥

abbrev pub FreesOrAsks : ServerState → ServerState → List Act → Ino → List Blocker → Type 0
FreesOrAsks start end acts ino [] = HasDone (IsReapOf ino) acts
FreesOrAsks start end acts ino (holder ∷ holders) = next_revoke end (holder ∷ holders) ≡ None

abbrev pub DealsWithOrphan : ServerState → ServerState → List Act → Option Ino → Type 0
DealsWithOrphan start end acts None = Unit {0}
DealsWithOrphan start end acts (Some ino) = FreesOrAsks start end acts ino (holders_of start (Some ino))

abbrev pub Removes : ServerState → ServerState → List Act → Option ClientId → Type 0
Removes start end acts (Some client) = HasDone (IsPurgeOf client) acts
Removes start end acts None = IsTrue (is_admitted start) → DealsWithOrphan start end acts (deserted start)

-- what is owed at the end of a step that doesn't halt
pub record EndsWell (o : Occasion) (start : ServerState) (acts : List Act) (named : Option Block) : Type 0 where
  pub taken : AnswersTaken start acts o.took
  pub collected : Collected o (after_acts start acts) acts
  pub line : LineRests (is_admitted (after_acts start acts)) (after_acts start acts) named
  pub removed : IsTrue o.tick → Removes start (after_acts start acts) acts (due o.gone start)

-- a boot mounts the volume that the sectors spell, and then asks; it commits nothing. No other step mounts
abbrev pub BootActs : List (List ℕ) → List Act → Type 0
BootActs sectors [] = ⊥
BootActs sectors (Mounts volume ∷ []) = SpellsVolume sectors volume × IsVolume volume
BootActs sectors (Mounts volume ∷ act ∷ acts) = ⊥
BootActs sectors (Tells lane message ∷ before) = BootActs sectors before
BootActs sectors (Commits commit ∷ before) = ⊥
BootActs sectors (Drops ∷ before) = ⊥

abbrev pub MountsNothing : List Act → Type 0
MountsNothing [] = Unit {0}
MountsNothing (Mounts volume ∷ before) = ⊥
MountsNothing (Tells lane message ∷ before) = MountsNothing before
MountsNothing (Commits commit ∷ before) = MountsNothing before
MountsNothing (Drops ∷ before) = MountsNothing before

-- a boot that halts has done nothing that counts
abbrev pub MountsWell : Bool → Bool → List (List ℕ) → List Act → Type 0
MountsWell true true sectors acts = acts ≡ []
MountsWell true false sectors acts = BootActs sectors acts
MountsWell false halted sectors acts = MountsNothing acts

-- the entry of a commit
abbrev pub change_entry : Asked → Request → Reply → Option Ino → List Entry
change_entry (Wants want) request reply new_ino = []
change_entry (Alters call) request reply new_ino = Called request.client request.number call reply new_ino ∷ []

abbrev pub entry_of : Deed → List Entry
entry_of (Changes request reply new_ino) = change_entry request.asked request reply new_ino
entry_of (Flushes client flush) = FlushedEntry (record { 0 = client }) flush.ino ∷ []
entry_of (Purges client) = PurgedEntry (record { 0 = client }) ∷ []
entry_of (Reaps ino) = []

-- the entries of the commits among some acts, in order
unfoldable pub entries_of : List Act → List Entry
entries_of [] = []
entries_of (Mounts volume ∷ before) = entries_of before
entries_of (Tells lane message ∷ before) = entries_of before
entries_of (Commits commit ∷ before) = entries_of before ++ entry_of commit.deed
entries_of (Drops ∷ before) = entries_of before
