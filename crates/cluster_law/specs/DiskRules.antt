-- What a server's step writes to the disk, and why it halts.
use Rattle.std.specs.Prelude.{◌≡◌, ◌≢◌, ◌⊎◌, ◌+◌, ◌-◌, ◌^◌, ◌<◌, ◌≤◌, ◌∷◌, ◌++◌, [], ◌&&◌, ℕ, Bool, true, false, not, if◌then◌else◌, List, Option, Some, None, IsTrue, length, min, nat_eq, slice_get, take}
use Rattle.std.specs.Option.{option_or}
use Rattle.cal_base.specs.Limits.{block_size}
use Rattle.journal.specs.Commit.{replayed}
use Rattle.journal.specs.Replay.{replay_writes}
use Rattle.shared_disk.specs.Sectors.{left_of, written}
use Rattle.shared_disk.specs.declared.stop.Stop.{Stop}
use Rattle.tree_law.specs.declared.entry.Entry.{Entry}
use Rattle.volume.specs.Volume.{SpellsVolume, Volume}
use Rattle.cluster_law.specs.declared.step.Event.{Event}
use Rattle.cluster_law.specs.declared.step.Event.TheVariants.{Start, Deliver, Tick, Crash, NewView, Gone, WriteBack}
use Rattle.cluster_law.specs.declared.step.Halt.{Halt}
use Rattle.cluster_law.specs.declared.step.Halt.TheVariants.{Fenced, Failed, Stopped, Damaged}
use Rattle.cluster_law.specs.History.{before_acts, is_boot, view_of_step, writes_of_acts, final_place}
use Rattle.cluster_law.specs.Lanes.{Act, Mounts, Tells, Commits, Drops}
use Rattle.cluster_law.specs.Lists.{first_of, is_empty}
use Rattle.cluster_law.specs.Noted.{DiskAt, Setting, Noted, disk_now}
use Rattle.cluster_law.specs.ServerRules.{EachAct, OfView, entry_of}
use Rattle.cluster_law.specs.ServerState.{ServerState, after_acts, granted_token, table_in}
use Rattle.cluster_law.specs.Tokens.{same_class}
use Rattle.cluster_law.specs.Blocking.{blocks, lacking, lacks_space}
use Rattle.cluster_law.specs.Book.{is_held}
use Rattle.cluster_law.specs.Granting.{head}
use Rattle.cal_base.specs.declared.identity.ClientId.{ClientId}
use Rattle.cal_base.specs.declared.identity.Ino.{Ino}
use Rattle.message.specs.declared.message.Message.TheVariants.{Grant}
use Rattle.token_kind.specs.declared.«class».Class.TheVariants.{Data}
use Rattle.token_kind.specs.declared.token.Token.{Token}
use Rattle.token_table.specs.Table.{held_of}
use Rattle.tree_law.specs.declared.request.Asked.{Asked}
use Rattle.tree_law.specs.declared.request.Asked.TheVariants.{Want as Wants, Change as Alters}
use Rattle.tree_law.specs.declared.request.Request.{Request}
use Rattle.volume_edit.specs.Edit.{inode_at}
use Rattle.std.specs.List.{list_any}

-- what a step has planned to write: what its acts lay and commit, or a boot's replay
abbrev pub planned_writes : Bool → List (List ℕ) → List Act → List (ℕ × List ℕ)
planned_writes true sectors acts = replay_writes sectors
planned_writes false sectors acts = writes_of_acts acts

abbrev pub stop_of : Event → Option Stop
stop_of (Start client call) = None
stop_of (Deliver packet stop) = stop
stop_of (Tick node stop) = stop
stop_of (Crash node) = None
stop_of (NewView server stop) = stop
stop_of (Gone client) = None
stop_of (WriteBack client fd) = None

-- a count of faults rose; it stands at its greatest value
abbrev pub HasRisen : ℕ → ℕ → Type 0
HasRisen before after = min (before + 1) (2 ^ 64 - 1) ≤ after

-- what a stop that is due leaves of the planned writes: so many of them, and the bytes of a torn one
abbrev pub IsStopped : List (ℕ × List ℕ) → Option Stop → List (ℕ × List ℕ) → Type 0
IsStopped planned None writes = ⊥
IsStopped planned (Some stop) writes = (stop.after < length planned) × (writes ≡ left_of planned stop.after stop.torn)

abbrev pub IsDueAfter : List (ℕ × List ℕ) → Option Stop → Type 0
IsDueAfter planned None = Unit {0}
IsDueAfter planned (Some stop) = length planned ≤ stop.after

-- not past an armed stop
abbrev pub IsWithinStop : Option Stop → List (ℕ × List ℕ) → Type 0
IsWithinStop None writes = Unit {0}
IsWithinStop (Some stop) writes = length writes ≤ stop.after

-- why a server's step halts, and what it had written by then. It is fenced before its first write, where the
-- key is another view's; it failed where the count of faults rose; it stopped at its stop; and a boot finds
-- damage where the sectors, replayed, spell no volume
abbrev pub Halts : Bool → ℕ → List (ℕ × List ℕ) → Option Stop → DiskAt → DiskAt → List (ℕ × List ℕ) → Halt → Type 0
Halts boots view planned stop before after writes (Fenced mine current) = (mine.0 ≡ view) × (current.0 ≡ before.key) × (before.key ≢ view) × (writes ≡ [])
Halts boots view planned stop before after writes (Failed faults) = (faults ≡ after.faults) × HasRisen before.faults after.faults × (writes ≡ take (length writes) planned) × IsWithinStop stop writes
Halts boots view planned stop before after writes Stopped = IsStopped planned stop writes
Halts boots view planned stop before after writes (Damaged sector) = IsTrue boots × ((volume : Volume) (sectors : List (List ℕ)) → replayed after.sectors ≡ Some sectors → SpellsVolume sectors volume → ⊥) × (writes ≡ take (length writes) planned) × IsWithinStop stop writes

-- a step that doesn't halt has made all its writes
abbrev pub EndsBy : Bool → ℕ → List (ℕ × List ℕ) → Option Stop → DiskAt → DiskAt → List (ℕ × List ℕ) → Option Halt → Type 0
EndsBy boots view planned stop before after writes None = (writes ≡ planned) × IsDueAfter planned stop
EndsBy boots view planned stop before after writes (Some halt) = Halts boots view planned stop before after writes halt

-- a step writes under its own key alone; a boot has fenced the disk, unless that failed before its first write
abbrev pub HasKey : Bool → ℕ → ℕ → List (ℕ × List ℕ) → Option Halt → ℕ → Type 0
HasKey false view key writes halt key' = (key' ≡ key) × ((key ≡ view) ⊎ (writes ≡ []))
HasKey true view key [] (Some (Failed faults)) key' = (key' ≡ view) ⊎ (key' ≡ key)
HasKey true view key writes halt key' = key ≤ view → key' ≡ view

-- no boot of the highest view is fenced
abbrev pub IsOwn : Bool → ℕ → ℕ → Option Halt → Type 0
IsOwn true view key (Some (Fenced mine current)) = view < key
IsOwn boots view key halt = Unit {0}

-- a write that failed leaves any bytes in its sector; a read or a fence that failed leaves nothing
abbrev pub LeftByFailure : List (ℕ × List ℕ) → ℕ → List (ℕ × List ℕ) → Type 0
LeftByFailure planned made [] = Unit {0}
LeftByFailure planned made (left ∷ []) = (next : ℕ × List ℕ) × (slice_get planned made ≡ Some next) × (left.0 ≡ next.0) × (length left.1 ≡ block_size)
LeftByFailure planned made (left ∷ other ∷ more) = ⊥

abbrev pub LeavesSectors : List (ℕ × List ℕ) → DiskAt → DiskAt → List (ℕ × List ℕ) → Option Halt → Type 0
LeavesSectors planned before after writes (Some (Failed faults)) = (left : List (ℕ × List ℕ)) × LeftByFailure planned (length writes) left × (after.sectors ≡ written before.sectors (writes ++ left))
LeavesSectors planned before after writes halt = after.sectors ≡ written before.sectors writes

-- what a server's step with these planned writes does to the disk
pub record WritesOn (boots : Bool) (view : ℕ) (planned : List (ℕ × List ℕ)) (stop : Option Stop) (before after : DiskAt) (writes : List (ℕ × List ℕ)) (halt : Option Halt) : Type 0 where
  pub ends : EndsBy boots view planned stop before after writes halt
  pub key : HasKey boots view before.key writes halt after.key
  pub own : IsOwn boots view before.key halt
  pub sectors : LeavesSectors planned before after writes halt
  pub faults : before.faults ≤ after.faults

-- a file's blocks are read where bytes of it are granted to a client that holds nothing of them
abbrev pub is_in_blocks : ServerState → Ino → Bool
is_in_blocks server ino = list_any (λ pointer. not (nat_eq pointer 0)) (inode_at server.volume.inodes ino.0).blocks

abbrev pub reads_for : ServerState → ClientId → Token → Bool
reads_for server client need = same_class need.«class» Data && not (is_held (held_of (table_in server) client need.ino Data)) && is_in_blocks server need.ino

abbrev pub reads_for_request : ServerState → Request → Asked → Bool
reads_for_request server request (Wants want) = is_empty (blocks server request) && not (lacks_space server request) && list_any (reads_for server request.client) (lacking server request.client want)
reads_for_request server request (Alters call) = false

abbrev pub would_read : ServerState → Option Request → Bool
would_read server None = false
would_read server (Some request) = reads_for_request server request request.asked

abbrev pub ReadsNothing : ServerState → Act → Type 0
ReadsNothing server (Tells lane (Grant number items)) = list_any (λ item. reads_for server (record { 0 = lane.client }) (granted_token item)) items ≡ false
ReadsNothing server act = Unit {0}

-- under another view's key a step that reads or has something to write is fenced, and no other is
abbrev pub MeetsKey : Bool → ℕ → ℕ → ServerState → List Act → Option Halt → Type 0
MeetsKey true view key start acts halt = Unit {0}
MeetsKey false view key start acts None = key ≢ view → EachAct start (λ server before act. ReadsNothing server act) acts
MeetsKey false view key start acts (Some (Fenced mine current)) = (writes_of_acts acts ≢ []) ⊎ IsTrue (would_read (after_acts start acts) (head (after_acts start acts)))
MeetsKey false view key start acts (Some halt) = Unit {0}

-- a step of no server leaves the disk as it was
pub record LeavesDisk (s : Noted) (before : DiskAt) : Type 0 where
  pub writes : s.step.writes ≡ []
  pub halt : s.step.halt ≡ None
  pub disk : s.disk ≡ before

abbrev pub OnDisk : Option ℕ → Noted → DiskAt → Type 0
OnDisk None s before = LeavesDisk s before
OnDisk (Some view) s before = WritesOn (is_boot s.step.event) view (planned_writes (is_boot s.step.event) before.sectors s.acts) (stop_of s.step.event) before s.disk s.step.writes s.step.halt

-- the disk takes each server's writes in order, to their end or to a halt with a cause
pub record KeepsDisk (w : Setting) (s : Noted) (earlier : List Noted) : Type 0 where
  pub disk : OnDisk (view_of_step s earlier) s (disk_now w earlier)
  pub meets : OfView (view_of_step s earlier) (λ view. MeetsKey (is_boot s.step.event) view (disk_now w earlier).key (before_acts w view s earlier) s.acts s.step.halt)

-- an entry is held back where the write that would have made its commit final failed: what that left is known
-- only to a later boot
abbrev pub held_now : List Noted → Option Entry
held_now [] = None
held_now (s ∷ earlier) = s.held

-- the entry of the commit whose opening write has this place
abbrev pub entry_opened_at : ℕ → List Act → Option Entry
entry_opened_at place [] = None
entry_opened_at place (Mounts volume ∷ before) = entry_opened_at place before
entry_opened_at place (Tells lane message ∷ before) = entry_opened_at place before
entry_opened_at place (Commits commit ∷ before) = if nat_eq (final_place before commit) place then first_of (entry_of commit.deed) else entry_opened_at place before
entry_opened_at place (Drops ∷ before) = entry_opened_at place before

abbrev pub held_after : Noted → Option Halt → Option Entry → Option Entry
held_after s (Some (Failed faults)) held = option_or (entry_opened_at (length s.step.writes) s.acts) held
held_after s halt held = held

-- a boot that replays a transaction shows that the held entry stands, one that is done without a write that it
-- doesn't; one that halts before its first write decides nothing
abbrev pub DecidesHeld : Noted → Option Entry → List (ℕ × List ℕ) → Option Halt → Type 0
DecidesHeld s None writes halt = (s.step.entries ≡ []) × (s.held ≡ None)
DecidesHeld s (Some entry) (write ∷ writes) halt = (s.step.entries ≡ entry ∷ []) × (s.held ≡ None)
DecidesHeld s (Some entry) [] None = (s.step.entries ≡ []) × (s.held ≡ None)
DecidesHeld s (Some entry) [] (Some halt) = (s.step.entries ≡ []) × (s.held ≡ Some entry)

abbrev pub HoldsBack : Bool → Noted → Option Entry → Type 0
HoldsBack true s held = DecidesHeld s held s.step.writes s.step.halt
HoldsBack false s held = s.held ≡ held_after s s.step.halt held

-- where an entry stands whose commit failed in its opening write
pub record KeepsHeld (w : Setting) (s : Noted) (earlier : List Noted) : Type 0 where
  pub held : HoldsBack (is_boot s.step.event) s (held_now earlier)
