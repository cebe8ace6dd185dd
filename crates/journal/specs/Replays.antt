use Rattle.std.specs.Prelude.{◌≡◌, ◌≤◌, ◌++◌, ◌⊎◌, ℕ, List, [], length, Some, None, IsSome, Result, Ok, Err, OnOk}
use Rattle.cal_base.specs.Limits as limits
use Rattle.shared_disk.specs.Map.{at_header}
use Rattle.cal_base.specs.Faults.{Rose}
use Rattle.shared_disk.specs.Disk.{Disk, MeetsOther}
use Rattle.fence.specs.Port.{PortState}
use Rattle.fence.specs.Writes.{Runs}
use Rattle.fence.specs.declared.port_halt.PortHalt.TheVariants.{Failed as Portfailed, Stopped as Portstopped}
use Rattle.journal.specs.declared.replay_halt.ReplayHalt.{ReplayHalt}
use Rattle.journal.specs.declared.replay_halt.ReplayHalt.TheVariants.{Fenced, Failed, Stopped, Damaged}
use Rattle.journal.specs.Layout.{outside}
use Rattle.journal.specs.Commit.{IsClosed, replayed}
use Rattle.journal.specs.Replay.{replay_length, replay_writes}

-- nothing was tried, and nothing changed
pub record IsUntouched (port : PortState) (old : Disk) (tried : List (ℕ × List ℕ)) (port' : PortState) (new : Disk) : Type 0 where
  pub untried : tried ≡ []
  pub uncounted : port' ≡ port
  pub unchanged : new ≡ old

-- how a replay that tried these writes ended: it is refused exactly where the key is another than the
-- port's, and it fails at one of the writes or at a read after them
abbrev pub ReplayEnds : PortState → Disk → ℕ → List (ℕ × List ℕ) → Result (Unit {0}) ReplayHalt → PortState → Disk → ℕ → Type 0
ReplayEnds port old faults tried (Ok done) port' new faults' = (old.key ≡ port.view) × Runs port old faults tried (Ok tt) port' new faults'
ReplayEnds port old faults tried (Err (Fenced mine current)) port' new faults' = MeetsOther old port.view mine current × IsUntouched port old tried port' new
ReplayEnds port old faults tried (Err Failed) port' new faults' =
    (old.key ≡ port.view) × (Runs port old faults tried (Err Portfailed) port' new faults' ⊎ (Runs port old faults tried (Ok tt) port' new faults' × Rose faults faults'))
ReplayEnds port old faults tried (Err Stopped) port' new faults' = (old.key ≡ port.view) × Runs port old faults tried (Err Portstopped) port' new faults'
ReplayEnds port old faults tried (Err (Damaged at)) port' new faults' = (old.key ≡ port.view) × (at ≡ at_header) × IsUntouched port old tried port' new

-- a replay is damaged only where the header of an open gate is outside its grammar, and Ok only where it isn't
abbrev pub Judges : List (List ℕ) → Result (Unit {0}) ReplayHalt → Type 0
Judges sectors (Ok done) = IsSome (replayed sectors)
Judges sectors (Err (Fenced mine current)) = Unit {0}
Judges sectors (Err Failed) = Unit {0}
Judges sectors (Err Stopped) = Unit {0}
Judges sectors (Err (Damaged at)) = replayed sectors ≡ None

-- the writes that were tried are the first of those of a replay of these sectors, and after Ok all of them
pub record IsReplayOf (sectors : List (List ℕ)) (tried : List (ℕ × List ℕ)) (result : Result (Unit {0}) ReplayHalt) : Type 0 where
  pub rest : List (ℕ × List ℕ)
  pub split : replay_writes sectors ≡ tried ++ rest
  pub whole : OnOk result (rest ≡ [])
  pub judged : Judges sectors result

-- a replay tried some writes and ended so; where the disk tells its sectors they are those of a replay of them, in order
pub record Replays (port : PortState) (old : Disk) (faults : ℕ) (result : Result (Unit {0}) ReplayHalt) (port' : PortState) (new : Disk) (faults' : ℕ) : Type 0 where
  pub tried : List (ℕ × List ℕ)
  pub ends : ReplayEnds port old faults tried result port' new faults'
  pub few : length tried ≤ replay_length
  pub later : faults ≤ faults'
  pub told : (sectors : List (List ℕ)) → old.sectors ≡ Some sectors → length sectors ≡ limits.sectors → IsReplayOf sectors tried result

-- a replay left the volume as it was; after Ok the gate is closed
pub record KeepsVolume (volume : List (List ℕ)) (result : Result (Unit {0}) ReplayHalt) (new : Disk) : Type 0 where
  pub sectors_now : List (List ℕ)
  pub told : new.sectors ≡ Some sectors_now
  pub replays : replayed sectors_now ≡ Some volume
  pub closed : OnOk result (IsClosed sectors_now × (outside sectors_now ≡ volume))
