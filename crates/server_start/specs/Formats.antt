-- What a format leaves of the disk, and what serves then.
use Rattle.std.specs.Prelude.{◌≡◌, ◌≤◌, ◌⊎◌, [], ℕ, Result, Ok, Err}
use Rattle.cal_base.specs.Faults.{Rose}
use Rattle.cal_base.specs.declared.identity.ServerId.{ServerId}
use Rattle.client_sessions.specs.Mail.{first_mail}
use Rattle.cluster_law.specs.ServerState.{empty_table}
use Rattle.fence.specs.Port.{FindsOther, PortState, fresh}
use Rattle.fence.specs.Writes.{Runs}
use Rattle.fence.specs.declared.port_halt.PortHalt.TheVariants.{Fenced, Failed, Stopped}
use Rattle.image.specs.Image.{fresh_volume}
use Rattle.rebuild.specs.Collecting.{none_listed}
use Rattle.server_desk.specs.Desk.{DeskValue}
use Rattle.server_start.specs.declared.started.Started.{Started}
use Rattle.server_start.specs.declared.stops.FormatError.{FormatError}
use Rattle.server_start.specs.declared.stops.FormatError.TheVariants.{OutOfMemory, Halted}
use Rattle.shared_disk.specs.Disk.{Disk, fenced}
use Rattle.volume.specs.Format.{format_writes}

-- a desk at which nobody is listed and nothing waits
abbrev pub new_desk : ℕ → DeskValue
new_desk window = record { collecting = record { window = window; standings = none_listed; table = empty_table }; requests = []; asked = [] }

-- a server of view 1 has the volume of a fresh disk, knows of nobody, and has a new session with each client
pub record ServesFresh (id : ServerId) (clients window : ℕ) (started : Started) : Type 0 where
  pub view : started.port.view ≡ 1
  pub image : started.image ≡ fresh_volume clients
  pub desk : started.desk ≡ new_desk window
  pub mail : started.mail ≡ first_mail id (record { 0 = 1 })

-- the fence failed, and left the key or raised it; or one of the writes of the format did
abbrev pub FailsToFence : Disk → Disk → Type 0
FailsToFence old new = (new ≡ old) ⊎ (new ≡ fenced old 1)

pub record FailsToWrite (clients : ℕ) (old : Disk) (faults : ℕ) (new : Disk) (faults' : ℕ) : Type 0 where
  pub port : PortState
  pub own : (fenced old 1).key ≡ 1
  pub runs : Runs (fresh 1) (fenced old 1) faults (format_writes clients) (Err Failed) port new faults'

-- how a format ended on a disk that has room for it: it fenced the disk to view 1 and made the writes of a format,
-- in order; it met a higher key; it failed; or memory ran out before
abbrev pub FormatEnds : ℕ → Disk → ℕ → Result Started FormatError → Disk → ℕ → Type 0
FormatEnds clients old faults (Ok started) new faults' = (new.key ≡ 1) × Runs (fresh 1) (fenced old 1) faults (format_writes clients) (Ok tt) started.port new faults'
FormatEnds clients old faults (Err OutOfMemory) new faults' = (new ≡ old) × (faults' ≡ faults)
FormatEnds clients old faults (Err (Halted (Fenced mine current))) new faults' = FindsOther old 1 mine current new
FormatEnds clients old faults (Err (Halted Failed)) new faults' = Rose faults faults' × (FailsToFence old new ⊎ FailsToWrite clients old faults new faults')
FormatEnds clients old faults (Err (Halted Stopped)) new faults' = ⊥

-- a format made room on the disk, and ended so
pub record Formats (clients : ℕ) (old : Disk) (faults : ℕ) (result : Result Started FormatError) (new : Disk) (faults' : ℕ) : Type 0 where
  pub room : ℕ
  pub more : old.room ≤ room
  pub ends : FormatEnds clients (record old { room = room }) faults result new faults'
