use Rattle.std.specs.Prelude.{◌+◌, ◌≡◌, ◌≤◌, ◌++◌, ◌⊎◌, ℕ, if◌then◌else◌, List, [], ◌∷◌, length, Some, Result, Ok, Err, OnOk}
use Rattle.cal_base.specs.Limits as limits
use Rattle.shared_disk.specs.Map.{at_gate}
use Rattle.cal_base.specs.Faults.{Rose}
use Rattle.shared_disk.specs.Disk.{Disk}
use Rattle.fence.specs.Port.{PortState}
use Rattle.fence.specs.Writes.{Runs}
use Rattle.fence.specs.declared.port_halt.PortHalt.{PortHalt}
use Rattle.fence.specs.declared.port_halt.PortHalt.TheVariants.{Fenced, Failed, Stopped}
use Rattle.journal.specs.Layout.{closed_gate, opens, sector, spelled}

-- the writes of a replay, in order: the homes that the body spells, and the closed gate; none where the gate is closed
abbrev pub replay_writes : List (List ℕ) → List (ℕ × List ℕ)
replay_writes sectors = if opens (sector sectors at_gate) then spelled sectors ++ (at_gate, closed_gate) ∷ [] else []

-- how many writes a replay makes, at most
abbrev pub replay_length : ℕ
replay_length = limits.transaction_homes + 1

-- how a call that reads and writes under the port's key, and tried these writes, ended
abbrev pub Ends : PortState → Disk → ℕ → List (ℕ × List ℕ) → Result (Unit {0}) PortHalt → PortState → Disk → ℕ → Type 0
Ends port old faults tried (Ok done) port' new faults' = Runs port old faults tried (Ok tt) port' new faults'
Ends port old faults tried (Err (Fenced mine current)) port' new faults' = ⊥
Ends port old faults tried (Err Failed) port' new faults' =
    Runs port old faults tried (Err Failed) port' new faults' ⊎ (Runs port old faults tried (Ok tt) port' new faults' × Rose faults faults')
Ends port old faults tried (Err Stopped) port' new faults' = Runs port old faults tried (Err Stopped) port' new faults'

-- the writes that were tried are the first of all, and after Ok all of them
pub record IsFrontOf (all tried : List (ℕ × List ℕ)) (result : Result (Unit {0}) PortHalt) : Type 0 where
  pub rest : List (ℕ × List ℕ)
  pub split : all ≡ tried ++ rest
  pub whole : OnOk result (rest ≡ [])

-- a call under the port's key tried at most `most` writes and ended so; where the disk tells its sectors
-- they are the first of `all`, in order
pub record Attempts (all : List (List ℕ) → List (ℕ × List ℕ)) (most : ℕ) (port : PortState) (old : Disk) (faults : ℕ) (result : Result (Unit {0}) PortHalt) (port' : PortState) (new : Disk) (faults' : ℕ) : Type 0 where
  pub tried : List (ℕ × List ℕ)
  pub ends : Ends port old faults tried result port' new faults'
  pub few : length tried ≤ most
  pub later : faults ≤ faults'
  pub told : (sectors : List (List ℕ)) → old.sectors ≡ Some sectors → length sectors ≡ limits.sectors → IsFrontOf (all sectors) tried result
