-- The limits of what a line can tell.
use Rattle.std.specs.Prelude.{◌≡◌, ◌≤◌, ℕ, List, length, All, Option, Some, None, ⊤}
use Rattle.cal_base.specs.Limits as limits
use Rattle.cal_base.specs.declared.identity.Ino.{Ino}
use Rattle.cal_base.specs.declared.identity.NodeId.{NodeId}
use Rattle.token_kind.specs.declared.block.Block.{Block}
use Rattle.session.specs.declared.packet.Packet.{Packet}
use Rattle.shared_disk.specs.declared.stop.Stop.{Stop}
use Rattle.script.specs.Spelling.{IsClient, IsNode, IsWide}
use Rattle.cluster_law.specs.declared.step.Halt.{Halt}
use Rattle.cluster_law.specs.declared.step.Halt.TheVariants.{Fenced, Failed, Stopped, Damaged}

-- a number of 32 bits
abbrev pub IsNumber32 : ℕ → Type 0
IsNumber32 number = number ≤ 4294967295

-- bytes
abbrev pub AreBytes : List ℕ → Type 0
AreBytes bytes = All (λ byte. byte ≤ 255) bytes

-- a sector of the disk: 4,096 bytes
pub record IsSector (sector : List ℕ) : Type 0 where
  pub whole : length sector ≡ limits.block_size
  pub bytes : AreBytes sector

abbrev pub IsTorn : Option (List ℕ) → Type 0
IsTorn None = ⊤
IsTorn (Some sector) = IsSector sector

abbrev pub IsStop : Option Stop → Type 0
IsStop None = ⊤
IsStop (Some stop) = IsNumber32 stop.after × IsTorn stop.torn

-- whose step it is: a node of the cluster's, or the list of members
abbrev pub IsActor : Option NodeId → Type 0
IsActor None = ⊤
IsActor (Some node) = IsNode node

abbrev pub IsWrite : ℕ × List ℕ → Type 0
IsWrite write = IsNumber32 write.0 × IsSector write.1

abbrev pub IsMade : Option Ino → Type 0
IsMade None = ⊤
IsMade (Some ino) = IsNumber32 ino.0

-- a packet within its limits, whatever its body means
pub record IsPacket (packet : Packet) : Type 0 where
  pub from : IsNode packet.from
  pub to : IsNode packet.to
  pub view : IsWide packet.view.0
  pub seq : IsWide packet.seq
  pub ack : IsWide packet.ack
  pub bytes : AreBytes packet.body

abbrev pub IsHead : Block → Type 0
IsHead block = IsClient block.client × IsWide block.number × IsClient block.holder × IsNumber32 block.ino.0

abbrev pub IsReason : Halt → Type 0
IsReason (Fenced mine current) = IsWide mine.0 × IsWide current.0
IsReason (Failed faults) = IsWide faults
IsReason Stopped = ⊤
IsReason (Damaged sector) = IsNumber32 sector

-- how many clients there are, 1 to 16, and how many a server asks at a time, 1 to 8
abbrev pub IsRun : ℕ × ℕ → Type 0
IsRun run = (1 ≤ run.0) × (run.0 ≤ limits.clients) × (1 ≤ run.1) × (run.1 ≤ limits.window)
