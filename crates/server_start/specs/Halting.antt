-- Why a server halts, by what halted it: with so many faults of the disk by then.
use Rattle.std.specs.Prelude.{ℕ}
use Rattle.cluster_law.specs.declared.step.Halt.{Halt}
use Rattle.cluster_law.specs.declared.step.Halt.TheVariants.{Fenced, Failed, Stopped, Damaged}
use Rattle.fence.specs.declared.port_halt.PortHalt.{PortHalt}
use Rattle.fence.specs.declared.port_halt.PortHalt.TheVariants.{Fenced as PortFenced, Failed as PortFailed, Stopped as PortStopped}
use Rattle.image.specs.declared.mount_halt.MountHalt.{MountHalt}
use Rattle.image.specs.declared.mount_halt.MountHalt.TheVariants.{Fenced as MountFenced, Failed as MountFailed, Damaged as MountDamaged}
use Rattle.journal.specs.declared.replay_halt.ReplayHalt.{ReplayHalt}
use Rattle.journal.specs.declared.replay_halt.ReplayHalt.TheVariants.{Fenced as ReplayFenced, Failed as ReplayFailed, Stopped as ReplayStopped, Damaged as ReplayDamaged}
use Rattle.shared_disk.specs.declared.disk_refusal.DiskRefusal.{DiskRefusal}
use Rattle.shared_disk.specs.declared.disk_refusal.DiskRefusal.TheVariants.{Fenced as Refenced, Failed as Refailed}

-- a call of the disk was refused
abbrev pub refusal_halt : DiskRefusal → ℕ → Halt
refusal_halt (Refenced mine current) faults = Fenced mine current
refusal_halt Refailed faults = Failed faults

-- a port halted
abbrev pub port_halt : PortHalt → ℕ → Halt
port_halt (PortFenced mine current) faults = Fenced mine current
port_halt PortFailed faults = Failed faults
port_halt PortStopped faults = Stopped

-- a replay halted
abbrev pub replay_halt : ReplayHalt → ℕ → Halt
replay_halt (ReplayFenced mine current) faults = Fenced mine current
replay_halt ReplayFailed faults = Failed faults
replay_halt ReplayStopped faults = Stopped
replay_halt (ReplayDamaged sector) faults = Damaged sector

-- a mount halted
abbrev pub mount_halt : MountHalt → ℕ → Halt
mount_halt (MountFenced mine current) faults = Fenced mine current
mount_halt MountFailed faults = Failed faults
mount_halt (MountDamaged sector) faults = Damaged sector
