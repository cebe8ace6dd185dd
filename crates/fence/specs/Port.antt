use Rattle.std.specs.Prelude.{◌≡◌, ◌-◌, ◌⊎◌, ◌++◌, ℕ, nat_eq, if◌then◌else◌, List, [], ◌∷◌, length, take, Option, Some, None, Result, Ok, Err}
use Rattle.cal_base.specs.Faults.{counted_up}
use Rattle.cal_base.specs.declared.identity.View.{View}
use Rattle.shared_disk.specs.Disk.{Disk, after, fenced, MeetsOther, LeavesAny}
use Rattle.shared_disk.specs.declared.stop.Stop.{Stop}
use Rattle.shared_disk.specs.declared.disk_refusal.DiskRefusal.{DiskRefusal}
use Rattle.shared_disk.specs.declared.disk_refusal.DiskRefusal.TheVariants.{Fenced as Refenced, Failed as Refailed}
use Rattle.fence.specs.declared.port_halt.PortHalt.{PortHalt}
use Rattle.fence.specs.declared.port_halt.PortHalt.TheVariants.{Fenced, Failed, Stopped}

-- the accepted writes that are kept, each with its sector and the bytes that it put there, and for how many more there is room
pub record Kept : Type 0 where
  pub writes : List (ℕ × List ℕ)
  pub space : ℕ

-- these writes are kept behind the others, as far as there is room
abbrev pub keeping_all : Kept → List (ℕ × List ℕ) → Kept
keeping_all kept made = record { writes = kept.writes ++ take kept.space made; space = kept.space - length made }

-- one write more is kept, if there is room
abbrev pub keeping : Kept → ℕ × List ℕ → Kept
keeping kept write = keeping_all kept (write ∷ [])

-- a port: its view, how many writes it accepted since it was taken or `arm` was last called, the armed
-- stop, and the accepted writes that it keeps
pub record PortState : Type 0 where
  pub view : ℕ
  pub accepted : ℕ
  pub stop : Option Stop
  pub kept : Kept

-- a port as it is taken: nothing accepted, no stop, nothing kept
abbrev pub fresh : ℕ → PortState
fresh view = record { view = view; accepted = 0; stop = None; kept = record { writes = []; space = 0 } }

-- the port after it accepted this write: it is counted, and kept if there is room
abbrev pub accepting : PortState → ℕ × List ℕ → PortState
accepting port write = record port { accepted = counted_up port.accepted; kept = keeping port.kept write }

-- the port after it accepted these writes, in order
abbrev pub accepting_all : PortState → List (ℕ × List ℕ) → PortState
accepting_all port [] = port
accepting_all port (w ∷ ws) = accepting_all (accepting port w) ws

-- a stop, if so many writes were accepted as it lets through
abbrev pub due_after : ℕ → Option Stop → Option Stop
due_after accepted None = None
due_after accepted (Some stop) = if nat_eq stop.after accepted then Some stop else None

-- the stop that is due at the port's next write, if there is one
abbrev pub due : PortState → Option Stop
due port = due_after port.accepted port.stop

-- a write of these bytes was accepted: it is in its sector, it is the last change, and it is counted and kept
pub record Accepts (port : PortState) (old : Disk) (at : ℕ) (bytes : List ℕ) (port' : PortState) (new : Disk) : Type 0 where
  pub own : old.key ≡ port.view
  pub counted : port' ≡ accepting port (at, bytes)
  pub changed : new ≡ after old ((at, bytes) ∷ [])

-- a write met another key: nothing changed
pub record Refuses (port : PortState) (old : Disk) (mine current : View) (port' : PortState) (new : Disk) : Type 0 where
  pub met : MeetsOther old port.view mine current
  pub uncounted : port' ≡ port
  pub unchanged : new ≡ old

-- a write failed: any bytes are left in its sector, and it isn't counted
pub record Fails (port : PortState) (old : Disk) (at : ℕ) (port' : PortState) (new : Disk) : Type 0 where
  pub leaves : LeavesAny old port.view at new
  pub uncounted : port' ≡ port

-- a write at which no stop is due
abbrev pub WritesOn : PortState → Disk → ℕ → List ℕ → Result (Unit {0}) PortHalt → PortState → Disk → Type 0
WritesOn port old at bytes (Ok done) port' new = Accepts port old at bytes port' new
WritesOn port old at bytes (Err (Fenced mine current)) port' new = Refuses port old mine current port' new
WritesOn port old at bytes (Err Failed) port' new = Fails port old at port' new
WritesOn port old at bytes (Err Stopped) port' new = ⊥

-- a write that a stop tears: these bytes are written in place of its own, and then it stops
abbrev pub StopsWithin : PortState → Disk → ℕ → List ℕ → Result (Unit {0}) PortHalt → PortState → Disk → Type 0
StopsWithin port old at torn (Ok done) port' new = ⊥
StopsWithin port old at torn (Err (Fenced mine current)) port' new = Refuses port old mine current port' new
StopsWithin port old at torn (Err Failed) port' new = Fails port old at port' new
StopsWithin port old at torn (Err Stopped) port' new = Accepts port old at torn port' new

-- a write before which a clean stop comes, whatever the key is: no disk call is made
pub record StopsBefore (port : PortState) (old : Disk) (result : Result (Unit {0}) PortHalt) (port' : PortState) (new : Disk) : Type 0 where
  pub stopped : result ≡ Err Stopped
  pub uncounted : port' ≡ port
  pub unchanged : new ≡ old

-- a write at which a stop is due, torn with the bytes that are given, or clean
abbrev pub Stops : Option (List ℕ) → PortState → Disk → ℕ → Result (Unit {0}) PortHalt → PortState → Disk → Type 0
Stops None port old at result port' new = StopsBefore port old result port' new
Stops (Some torn) port old at result port' new = StopsWithin port old at torn result port' new

-- a write by a port, where that stop is due or none
abbrev pub WritesAt : Option Stop → PortState → Disk → ℕ → List ℕ → Result (Unit {0}) PortHalt → PortState → Disk → Type 0
WritesAt None port old at bytes result port' new = WritesOn port old at bytes result port' new
WritesAt (Some stop) port old at bytes result port' new = Stops stop.torn port old at result port' new

-- a write by a port of these bytes to this sector
abbrev pub PortWrites : PortState → Disk → ℕ → List ℕ → Result (Unit {0}) PortHalt → PortState → Disk → Type 0
PortWrites port old at bytes result port' new = WritesAt (due port) port old at bytes result port' new

-- a port was taken for this view: the fence held, and the key is the view
pub record TakesKey (old : Disk) (view : ℕ) (port : PortState) (new : Disk) : Type 0 where
  pub port_is : port ≡ fresh view
  pub own : new.key ≡ view
  pub fenced_is : new ≡ fenced old view

-- a port wasn't taken: the fence held, and the key is another
pub record FindsOther (old : Disk) (view : ℕ) (mine current : View) (new : Disk) : Type 0 where
  pub met : MeetsOther new view mine current
  pub fenced_is : new ≡ fenced old view

-- what the taking of a port for this view answers, and leaves
abbrev pub Takes : Disk → ℕ → Result PortState DiskRefusal → Disk → Type 0
Takes old view (Ok port) new = TakesKey old view port new
Takes old view (Err (Refenced mine current)) new = FindsOther old view mine current new
Takes old view (Err Refailed) new = (new ≡ old) ⊎ (new ≡ fenced old view)
