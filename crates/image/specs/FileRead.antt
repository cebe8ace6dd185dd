-- The bytes of a file, as they are read from its blocks.
use Rattle.std.specs.Prelude.{◌≡◌, ◌==◌, ◌<◌, ◌≤◌, ◌%◌, ◌++◌, ◌∷◌, [], if◌then◌else◌, ℕ, List, length, take, slice_index, Result, Ok, Err}
use Rattle.cal_base.specs.Limits as limits
use Rattle.cal_base.specs.Faults.{Rose}
use Rattle.inode.specs.declared.inode.Inode.{Inode}
use Rattle.shared_disk.specs.Disk.{Disk, MeetsOther}
use Rattle.shared_disk.specs.declared.disk_refusal.DiskRefusal.{DiskRefusal}
use Rattle.shared_disk.specs.declared.disk_refusal.DiskRefusal.TheVariants.{Fenced, Failed}
use Rattle.volume.specs.Volume.{byte_behind, file_byte}

-- how reads under this view are refused: only where the key is another, and they fail only where the count of
-- faults rose
abbrev pub IsRefused : Disk → ℕ → ℕ → Result (Unit {0}) DiskRefusal → ℕ → Type 0
IsRefused disk view faults (Ok done) faults' = Unit {0}
IsRefused disk view faults (Err (Fenced mine current)) faults' = MeetsOther disk view mine current
IsRefused disk view faults (Err Failed) faults' = (disk.key ≡ view) × Rose faults faults'

-- and the disk is as it was, but for its count of faults
pub record ReadsBlocks (disk : Disk) (view faults : ℕ) (result : Result (Unit {0}) DiskRefusal) (new : Disk) (faults' : ℕ) : Type 0 where
  pub ends : IsRefused disk view faults result faults'
  pub same : new ≡ disk
  pub later : faults ≤ faults'

-- the bytes of the block that a pointer names, or zeros
abbrev pub HoldsBlock : List (List ℕ) → ℕ → List ℕ → Type 0
HoldsBlock sectors pointer bytes = (i : ℕ) → slice_index bytes (i % limits.block_size) ≡ byte_behind sectors pointer i

-- the first bytes of a block were put behind others
pub record PutsBlock (sectors : List (List ℕ)) (pointer count : ℕ) (old new : List ℕ) : Type 0 where
  pub block : List ℕ
  pub size : length block ≡ limits.block_size
  pub holds : HoldsBlock sectors pointer block
  pub put : new ≡ old ++ take count block

-- these are the first bytes of a file
abbrev pub AreFirstBytes : List (List ℕ) → Inode → List ℕ → Type 0
AreFirstBytes sectors inode bytes = (i : ℕ) → i < length bytes → slice_index bytes i ≡ file_byte sectors inode i

-- the bytes of a sector once these writes are made, in order
abbrev pub laid : List (ℕ × List ℕ) → ℕ → List ℕ → List ℕ
laid [] at bytes = bytes
laid (w ∷ ws) at bytes = laid ws at (if w.0 == at then w.1 else bytes)
