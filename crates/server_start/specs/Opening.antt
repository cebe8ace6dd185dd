-- What a boot does to the disk.
use Rattle.std.specs.Prelude.{◌≡◌, ◌≤◌, [], ℕ, true, List, Option, Some, None, Result, Ok, Err}
use Rattle.cluster_law.specs.DiskRules.{WritesOn}
use Rattle.cluster_law.specs.Noted.{DiskAt}
use Rattle.cluster_law.specs.declared.node.ServerHalted.{ServerHalted}
use Rattle.cluster_law.specs.declared.step.Halt.{Halt}
use Rattle.fence.specs.Port.{PortState}
use Rattle.journal.specs.Commit.{replayed}
use Rattle.journal.specs.Replay.{replay_length, replay_writes}
use Rattle.shared_disk.specs.declared.stop.Stop.{Stop}
use Rattle.volume.specs.Volume.{SpellsVolume, Volume}
use Rattle.volume_edit.specs.Edit.{IsVolume}
use Rattle.server_start.specs.declared.opening.Opened.{Opened}

-- a boot made these of the writes of a replay, as the law asks of a boot that ends so; the sectors, replayed, stay
-- the same
pub record IsReplayed (view : ℕ) (stop : Option Stop) (before : DiskAt) (writes : List (ℕ × List ℕ)) (halt : Option Halt) (after : DiskAt) : Type 0 where
  pub writes_on : WritesOn true view (replay_writes before.sectors) stop before after writes halt
  pub keeps : (own : List (List ℕ)) → replayed before.sectors ≡ Some own → replayed after.sectors ≡ Some own

-- the volume that a disk's sectors spell once they are replayed, before and after
pub record Mounted (before after : DiskAt) (volume : Volume) : Type 0 where
  pub own : List (List ℕ)
  pub before_is : replayed before.sectors ≡ Some own
  pub after_is : replayed after.sectors ≡ Some own
  pub spells : SpellsVolume own volume
  pub is_volume : IsVolume volume

-- a port that has written nothing yet, with this stop, and with room to keep what a replay writes
pub record IsReady (stop : Option Stop) (port : PortState) : Type 0 where
  pub accepted : port.accepted ≡ 0
  pub stop_is : port.stop ≡ stop
  pub kept : port.kept.writes ≡ []
  pub space : replay_length ≤ port.kept.space

-- how the reading of a volume ended: the journal was replayed and the volume mounted, or it halted
pub record IsRead (view : ℕ) (stop : Option Stop) (before : DiskAt) (writes : List (ℕ × List ℕ)) (volume : Volume) (after : DiskAt) : Type 0 where
  pub replays : IsReplayed view stop before writes None after
  pub mounted : Mounted before after volume

abbrev pub ReadEnds : ℕ → Option Stop → DiskAt → Result (Unit {0}) Halt → List (ℕ × List ℕ) → Volume → DiskAt → Type 0
ReadEnds view stop before (Ok done) writes volume after = IsRead view stop before writes volume after
ReadEnds view stop before (Err halt) writes volume after = IsReplayed view stop before writes (Some halt) after

-- a boot that halts has no entry
pub record HaltsSo (view : ℕ) (stop : Option Stop) (before : DiskAt) (halted : ServerHalted) (after : DiskAt) : Type 0 where
  pub replays : IsReplayed view stop before halted.writes (Some halted.halt) after
  pub entries : halted.entries ≡ []

-- how the opening of a disk for a view ended
pub record IsOpen (view : ℕ) (stop : Option Stop) (before : DiskAt) (opened : Opened) (volume : Volume) (after : DiskAt) : Type 0 where
  pub port : opened.port.view ≡ view
  pub read : IsRead view stop before opened.writes volume after

abbrev pub OpenEnds : ℕ → Option Stop → DiskAt → Result Opened ServerHalted → Volume → DiskAt → Type 0
OpenEnds view stop before (Ok opened) volume after = IsOpen view stop before opened volume after
OpenEnds view stop before (Err halted) volume after = HaltsSo view stop before halted after
