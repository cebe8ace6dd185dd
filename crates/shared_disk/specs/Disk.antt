use Rattle.std.specs.Prelude.{◌≡◌, ◌≢◌, ◌-◌, ◌++◌, ◌⊎◌, ℕ, max, List, [], ◌∷◌, length, replicate, slice_get, Option, Some, None, Result, Ok, Err}
use Rattle.cal_base.specs.Limits as limits
use Rattle.cal_base.specs.declared.failed.Failed.{Failed as Failure}
use Rattle.cal_base.specs.declared.identity.View.{View}
use Rattle.shared_disk.specs.declared.disk_refusal.DiskRefusal.{DiskRefusal}
use Rattle.shared_disk.specs.declared.disk_refusal.DiskRefusal.TheVariants.{Fenced, Failed}
use Rattle.shared_disk.specs.Sectors.{IsWhole, written}

-- what a disk means: its sectors, where they are told, its key, its changes in order, and how many more writes it has room for
pub record Disk : Type 0 where
  pub sectors : Option (List (List ℕ))
  pub key : ℕ
  pub changes : List (ℕ × List ℕ)
  pub room : ℕ

-- sectors that may be told, after these writes
abbrev pub written_if_told : Option (List (List ℕ)) → List (ℕ × List ℕ) → Option (List (List ℕ))
written_if_told None writes = None
written_if_told (Some sectors) writes = Some (written sectors writes)

-- the disk after these changes
abbrev pub after : Disk → List (ℕ × List ℕ) → Disk
after disk writes = record {
  sectors = written_if_told disk.sectors writes;
  key = disk.key;
  changes = disk.changes ++ writes;
  room = disk.room - length writes;
}

-- the sectors that a disk tells are whole
abbrev pub TellsWhole : Disk → Type 0
TellsWhole disk = (sectors : List (List ℕ)) → disk.sectors ≡ Some sectors → IsWhole sectors

-- a sector has these bytes, where it is told
abbrev pub SectorIs : Disk → ℕ → List ℕ → Type 0
SectorIs disk at bytes = (sectors : List (List ℕ)) → disk.sectors ≡ Some sectors → slice_get sectors at ≡ Some bytes

-- a call under this view met another key, and says both
pub record MeetsOther (disk : Disk) (view : ℕ) (mine current : View) : Type 0 where
  pub mine_is : mine.0 ≡ view
  pub current_is : current.0 ≡ disk.key
  pub other : disk.key ≢ view

-- a failed write under its own key: any bytes are left in its sector
pub record LeavesAny (old : Disk) (view at : ℕ) (new : Disk) : Type 0 where
  pub own : old.key ≡ view
  pub left : List ℕ
  pub whole : length left ≡ limits.block_size
  pub changed : new ≡ after old ((at, left) ∷ [])

-- what a read under this view answers, with these bytes in the buffer then
abbrev pub Reads : Disk → ℕ → ℕ → List ℕ → Result (Unit {0}) DiskRefusal → Type 0
Reads disk view at into (Ok done) = (disk.key ≡ view) × SectorIs disk at into
Reads disk view at into (Err (Fenced mine current)) = MeetsOther disk view mine current
Reads disk view at into (Err Failed) = disk.key ≡ view

-- what a write of these bytes under this view answers, and leaves
abbrev pub Writes : Disk → ℕ → ℕ → List ℕ → Result (Unit {0}) DiskRefusal → Disk → Type 0
Writes old view at bytes (Ok done) new = (old.key ≡ view) × (new ≡ after old ((at, bytes) ∷ []))
Writes old view at bytes (Err (Fenced mine current)) new = MeetsOther old view mine current × (new ≡ old)
Writes old view at bytes (Err Failed) new = LeavesAny old view at new

-- the disk with its key raised to this view, if that is greater
abbrev pub fenced : Disk → ℕ → Disk
fenced disk view = record disk { key = max disk.key view }

-- what a fence to this view answers, and leaves: the key that then stands; a failed one leaves the key or raises it
abbrev pub Fences : Disk → ℕ → Result View Failure → Disk → Type 0
Fences old view (Ok key) new = (key.0 ≡ new.key) × (new ≡ fenced old view)
Fences old view (Err failed) new = (new ≡ old) ⊎ (new ≡ fenced old view)

-- under key 0, with no change yet, all zeros
pub record IsBlank (disk : Disk) : Type 0 where
  pub key : disk.key ≡ 0
  pub changes : disk.changes ≡ []
  pub sectors : disk.sectors ≡ Some (replicate limits.sectors (replicate limits.block_size 0))

-- a call under this view is refused since the key is another
abbrev pub IsFencedOut : Disk → ℕ → DiskRefusal → Type 0
IsFencedOut disk view (Fenced mine current) = MeetsOther disk view mine current
IsFencedOut disk view Failed = ⊥

-- a disk tells so many sectors
pub record TellsSectors (disk : Disk) (count : ℕ) : Type 0 where
  pub sectors : List (List ℕ)
  pub told : disk.sectors ≡ Some sectors
  pub count_is : length sectors ≡ count

-- a disk that told its sectors tells as many
abbrev pub KeepsCount : Disk → Disk → Type 0
KeepsCount old new = (sectors : List (List ℕ)) → old.sectors ≡ Some sectors → TellsSectors new (length sectors)
