use Rattle.shared_disk.specs.declared.disk_refusal.DiskRefusal.{DiskRefusal}
use Rattle.shared_disk.specs.declared.disk_refusal.DiskRefusal.TheVariants.{Fenced as Refenced, Failed as Refailed}
use Rattle.fence.specs.declared.port_halt.PortHalt.{PortHalt}
use Rattle.fence.specs.declared.port_halt.PortHalt.TheVariants.{Fenced, Failed, Stopped}
use Rattle.journal.specs.declared.replay_halt.ReplayHalt.{ReplayHalt}
use Rattle.journal.specs.declared.replay_halt.ReplayHalt.TheVariants.{Fenced as Outfenced, Failed as Outfailed, Stopped as Outstopped}

-- a disk's refusal as a replay's halt
abbrev pub refused : DiskRefusal → ReplayHalt
refused (Refenced mine current) = Outfenced mine current
refused Refailed = Outfailed

-- a port's halt as a replay's
abbrev pub halted : PortHalt → ReplayHalt
halted (Fenced mine current) = Outfenced mine current
halted Failed = Outfailed
halted Stopped = Outstopped
