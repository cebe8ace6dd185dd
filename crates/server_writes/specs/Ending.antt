-- How the writes of a step end, as the law sees them.
use Rattle.std.specs.Prelude.{◌≡◌, ◌≤◌, ◌<◌, ◌^◌, [], ℕ, List, Option, Some, None, Result, Ok, Err, length}
use Rattle.fence.specs.Port.{PortState}
use Rattle.fence.specs.declared.port_halt.PortHalt.{PortHalt}
use Rattle.fence.specs.declared.port_halt.PortHalt.TheVariants.{Fenced as Outfenced, Failed as Outfailed, Stopped as Outstopped}
use Rattle.shared_disk.specs.Disk.{Disk}
use Rattle.cluster_law.specs.Noted.{DiskAt}
use Rattle.cluster_law.specs.declared.step.Halt.{Halt}
use Rattle.cluster_law.specs.declared.step.Halt.TheVariants.{Fenced, Failed, Stopped}

-- a port that begins to make these writes: it counts from 0, and has kept nothing yet, with room for all
pub record IsReady (port : PortState) (planned : List (ℕ × List ℕ)) : Type 0 where
  pub uncounted : port.accepted ≡ 0
  pub unkept : port.kept.writes ≡ []
  pub room : length planned ≤ port.kept.space
  pub few : length planned < 2 ^ 64

-- a disk that has failed so often, and tells its sectors, as the law has it
pub record StandsAs (disk : Disk) (faults : ℕ) (at : DiskAt) : Type 0 where
  pub told : disk.sectors ≡ Some at.sectors
  pub key : disk.key ≡ at.key
  pub count : faults ≡ at.faults

-- why a server halts whose port halted so, on a disk that has failed so often
abbrev pub halt_of : PortHalt → ℕ → Halt
halt_of (Outfenced mine current) faults = Fenced mine current
halt_of Outfailed faults = Failed faults
halt_of Outstopped faults = Stopped

-- by how its writes ended
abbrev pub halt_by : Result (Unit {0}) PortHalt → ℕ → Option Halt
halt_by (Ok done) faults = None
halt_by (Err halt) faults = Some (halt_of halt faults)
