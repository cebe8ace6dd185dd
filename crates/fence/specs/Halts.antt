use Rattle.shared_disk.specs.declared.disk_refusal.DiskRefusal.{DiskRefusal}
use Rattle.shared_disk.specs.declared.disk_refusal.DiskRefusal.TheVariants.{Fenced as Refenced, Failed as Refailed}
use Rattle.fence.specs.declared.port_halt.PortHalt.{PortHalt}
use Rattle.fence.specs.declared.port_halt.PortHalt.TheVariants.{Fenced, Failed}

-- a disk's refusal as a halt
abbrev pub halt_of : DiskRefusal → PortHalt
halt_of (Refenced mine current) = Fenced mine current
halt_of Refailed = Failed
