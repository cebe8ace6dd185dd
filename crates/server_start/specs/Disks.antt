-- A disk that tells its sectors, as the law of the cluster has it.
use Rattle.std.specs.Prelude.{◌≡◌, ℕ, Some}
use Rattle.cluster_law.specs.Noted.{DiskAt}
use Rattle.shared_disk.specs.Disk.{Disk}

-- a disk stands so, with so many faults
pub record IsAt (disk : Disk) (faults : ℕ) (at : DiskAt) : Type 0 where
  pub sectors : disk.sectors ≡ Some at.sectors
  pub key : at.key ≡ disk.key
  pub faults_are : at.faults ≡ faults

-- a disk tells its sectors, and this holds of how it stands
pub record StandsSo (disk : Disk) (faults : ℕ) (Holds : DiskAt → Type 0) : Type 0 where
  pub at : DiskAt
  pub is_at : IsAt disk faults at
  pub holds : Holds at
