use Rattle.std.specs.Prelude.{◌≡◌, ◌≢◌, ◌+◌, ◌⊎◌, ℕ, zero, suc, Bool, false, if◌then◌else◌, List, [], ◌∷◌, length, Some, Result, Err}
use Rattle.shared_disk.specs.Disk.{Disk}
use Rattle.shared_disk.specs.Sectors.{written}
use Rattle.fence.specs.declared.port_halt.PortHalt.{PortHalt}
use Rattle.fence.specs.declared.port_halt.PortHalt.TheVariants.{Failed}
use Rattle.journal.specs.Layout.{outside}
use Rattle.journal.specs.Commit.{opens_gate, replayed}

-- the place of the write that opens the gate among those of a commit: behind the header and the contents
abbrev pub opening_place : ℕ → ℕ
opening_place homes = homes + 1

-- the write at this place is there, and opens the gate
abbrev pub opened_at : List (ℕ × List ℕ) → ℕ → Bool
opened_at [] place = false
opened_at (w ∷ ws) zero = opens_gate w.0 w.1
opened_at (w ∷ ws) (suc place) = opened_at ws place

-- The writes that a port kept, of which `before` were kept before a commit of these homes, tell by the
-- place of its opening write whether the volume has the homes now. Only where that very write failed
-- they don't, since it may have left any bytes: then the volume has all homes or is as it was.
pub record TellsOpening (sectors : List (List ℕ)) (homes : List (ℕ × List ℕ)) (before : ℕ) (result : Result (Unit {0}) PortHalt) (kept : List (ℕ × List ℕ)) (new : Disk) : Type 0 where
  pub now : List (List ℕ)
  pub told : new.sectors ≡ Some now
  pub exact : (result ≡ Err Failed → length kept ≢ before + opening_place (length homes))
      → replayed now ≡ Some (if opened_at kept (before + opening_place (length homes)) then written (outside sectors) homes else outside sectors)
  pub either : (replayed now ≡ Some (written (outside sectors) homes)) ⊎ (replayed now ≡ Some (outside sectors))
