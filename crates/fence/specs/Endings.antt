use Rattle.std.specs.Prelude.{◌≡◌, ◌<◌, ◌+◌, ◌-◌, ◌^◌, ℕ, min, List, length, take, Some, Result, Ok, Err}
use Rattle.cal_base.specs.Limits.{block_size}
use Rattle.shared_disk.specs.Disk.{Disk, after}
use Rattle.shared_disk.specs.Sectors.{left_of}
use Rattle.shared_disk.specs.declared.stop.Stop.{Stop}
use Rattle.fence.specs.Port.{PortState, Refuses, accepting_all, keeping_all}
use Rattle.fence.specs.declared.port_halt.PortHalt.{PortHalt}
use Rattle.fence.specs.declared.port_halt.PortHalt.TheVariants.{Fenced, Failed, Stopped}

-- all of these writes were accepted
pub record WritesWhole (port : PortState) (old : Disk) (writes : List (ℕ × List ℕ)) (port' : PortState) (new : Disk) : Type 0 where
  pub own : 0 < length writes → old.key ≡ port.view
  pub accepted : port' ≡ accepting_all port writes
  pub changed : new ≡ after old writes

-- the first `made` of these writes were accepted, and the next one failed with any bytes left in its sector
pub record FailsAmong (port : PortState) (old : Disk) (writes : List (ℕ × List ℕ)) (port' : PortState) (new : Disk) : Type 0 where
  pub own : old.key ≡ port.view
  pub made : ℕ
  pub within : made < length writes
  pub left : List ℕ
  pub whole : length left ≡ block_size
  pub accepted : port' ≡ accepting_all port (take made writes)
  pub changed : new ≡ after old (left_of writes made (Some left))

-- the first `made` of these writes were accepted, and then the armed stop was due: it left nothing of
-- the next one, or its own bytes in that sector, which count as an accepted write
pub record StopsAmong (port : PortState) (old : Disk) (writes : List (ℕ × List ℕ)) (port' : PortState) (new : Disk) : Type 0 where
  pub stop : Stop
  pub armed : port.stop ≡ Some stop
  pub made : ℕ
  pub within : made < length writes
  pub due : stop.after ≡ (accepting_all port (take made writes)).accepted
  pub own : 0 < length (left_of writes made stop.torn) → old.key ≡ port.view
  pub accepted : port' ≡ accepting_all port (left_of writes made stop.torn)
  pub changed : new ≡ after old (left_of writes made stop.torn)

-- how a list of writes ended, which of them the port accepted, and what they left; it is refused before
-- its first write or not at all
abbrev pub EndsAs : PortState → Disk → List (ℕ × List ℕ) → Result (Unit {0}) PortHalt → PortState → Disk → Type 0
EndsAs port old writes (Ok done) port' new = WritesWhole port old writes port' new
EndsAs port old writes (Err (Fenced mine current)) port' new = Refuses port old mine current port' new
EndsAs port old writes (Err Failed) port' new = FailsAmong port old writes port' new
EndsAs port old writes (Err Stopped) port' new = StopsAmong port old writes port' new

-- what a port counts and keeps of writes that it accepted
pub record CountsAndKeeps (port : PortState) (made : List (ℕ × List ℕ)) : Type 0 where
  pub view : (accepting_all port made).view ≡ port.view
  pub stop : (accepting_all port made).stop ≡ port.stop
  pub kept : (accepting_all port made).kept ≡ keeping_all port.kept made
  pub accepted : port.accepted < 2 ^ 64 → (accepting_all port made).accepted ≡ min (port.accepted + length made) (2 ^ 64 - 1)
