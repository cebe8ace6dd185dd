use Rattle.std.specs.Prelude.{◌≡◌, ◌≤◌, ◌<◌, ◌+◌, ◌⊎◌, ℕ, List, [], ◌∷◌, length, Option, None, Result, Ok, Err, IfErr}
use Rattle.cal_base.specs.Faults.{Rose}
use Rattle.shared_disk.specs.Disk.{Disk, after}
use Rattle.shared_disk.specs.Sectors.{left_of}
use Rattle.fence.specs.Port.{PortState, accepting, due, PortWrites}
use Rattle.fence.specs.declared.port_halt.PortHalt.{PortHalt}
use Rattle.fence.specs.declared.port_halt.PortHalt.TheVariants.{Failed}

-- the port's next write is made, unless the disk fails: the key is the port's view, and no stop is due
pub record IsFree (port : PortState) (disk : Disk) : Type 0 where
  pub own : disk.key ≡ port.view
  pub undue : due port ≡ None

-- all of these writes were accepted, in order
abbrev pub MakesAll : PortState → Disk → List (ℕ × List ℕ) → PortState → Disk → Type 0
MakesAll port old [] port' new = (port' ≡ port) × (new ≡ old)
MakesAll port old (w ∷ ws) port' new = IsFree port old × MakesAll (accepting port w) (after old (w ∷ [])) ws port' new

-- these writes were accepted, in order, up to one that halted
abbrev pub HaltsIn : PortState → Disk → List (ℕ × List ℕ) → PortHalt → PortState → Disk → Type 0
HaltsIn port old [] halt port' new = ⊥
HaltsIn port old (w ∷ ws) halt port' new =
    PortWrites port old w.0 w.1 (Err halt) port' new
    ⊎ (IsFree port old × HaltsIn (accepting port w) (after old (w ∷ [])) ws halt port' new)

-- the port makes these writes in order: all, or up to one that halts
abbrev pub Makes : PortState → Disk → List (ℕ × List ℕ) → Result (Unit {0}) PortHalt → PortState → Disk → Type 0
Makes port old writes (Ok done) port' new = MakesAll port old writes port' new
Makes port old writes (Err halt) port' new = HaltsIn port old writes halt port' new

-- a call makes these writes in order, all or up to one that halts, and uses at most that much room; the
-- count of faults didn't fall, and rose where it halted by Failed
pub record Runs (port : PortState) (old : Disk) (faults : ℕ) (writes : List (ℕ × List ℕ)) (result : Result (Unit {0}) PortHalt) (port' : PortState) (new : Disk) (faults' : ℕ) : Type 0 where
  pub makes : Makes port old writes result port' new
  pub room : old.room ≤ new.room + length writes
  pub counted : IfErr result (λ why. why ≡ Failed → Rose faults faults')
  pub later : faults ≤ faults'

-- some of the writes were made and not all, the next one perhaps torn
pub record IsCut (old : Disk) (writes : List (ℕ × List ℕ)) (new : Disk) : Type 0 where
  pub made : ℕ
  pub torn : Option (List ℕ)
  pub some_left : made < length writes
  pub changed : new ≡ after old (left_of writes made torn)
