use Rattle.std.specs.Prelude.{◌≡◌, ℕ, List, [], ◌∷◌, Contains, Option, Some, None}
use Rattle.cal_base.specs.Faults.{counted_up}
use Rattle.shared_disk.specs.Disk.{Disk, after}

-- a disk with listed faults: the disk, the numbers of the calls that fail, what a failing write leaves in
-- its sector, if that is given, and the calls and the faults so far
pub record FaultyDisk : Type 0 where
  pub disk : Disk
  pub fails : List ℕ
  pub left : Option (List ℕ)
  pub calls : ℕ
  pub faults : ℕ

-- a call under this view fails: its number is listed, and the key is this view's
pub record IsFault (disk : FaultyDisk) (view : ℕ) : Type 0 where
  pub listed : Contains disk.fails disk.calls
  pub own : disk.disk.key ≡ view

-- one call more was counted, and what is to fail, and how, is as it was
pub record CountsCall (old new : FaultyDisk) : Type 0 where
  pub calls : new.calls ≡ counted_up old.calls
  pub fails : new.fails ≡ old.fails
  pub left : new.left ≡ old.left

-- no call was counted, none failed, and what is to fail, and how, is as it was
pub record CountsNothing (old new : FaultyDisk) : Type 0 where
  pub calls : new.calls ≡ old.calls
  pub faults : new.faults ≡ old.faults
  pub fails : new.fails ≡ old.fails
  pub left : new.left ≡ old.left

-- a failing write left these bytes in its sector or, where none are given, the sectors as they were
abbrev pub Leaves : Option (List ℕ) → Disk → ℕ → Disk → Type 0
Leaves None old at new = new.sectors ≡ old.sectors
Leaves (Some bytes) old at new = new ≡ after old ((at, bytes) ∷ [])
