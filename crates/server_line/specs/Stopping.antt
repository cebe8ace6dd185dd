-- How the service of a line may be stopped.
use Rattle.std.specs.Prelude.{◌≡◌, ◌≤◌, ℕ, Result, Ok, Err}
use Rattle.cal_base.specs.Faults.{Rose}
use Rattle.shared_disk.specs.Disk.{Disk, MeetsOther}
use Rattle.shared_disk.specs.declared.disk_refusal.DiskRefusal.TheVariants.{Fenced, Failed}
use Rattle.server_line.specs.declared.stopping.ServeError.{ServeError}
use Rattle.server_line.specs.declared.stopping.ServeError.TheVariants.{OutOfMemory, Refused}

-- something holds unless memory ran out
abbrev pub UnlessOom : {T : Type 0} → Result T ServeError → Type 0 → Type 0
UnlessOom (Ok x) P = P
UnlessOom (Err OutOfMemory) P = Unit {0}
UnlessOom (Err (Refused why)) P = P

-- why reads under this view are refused: the key is another, or the count of faults rose
abbrev pub IsRefused : Disk → ℕ → ℕ → ServeError → ℕ → Type 0
IsRefused disk view faults OutOfMemory faults' = Unit {0}
IsRefused disk view faults (Refused (Fenced mine current)) faults' = MeetsOther disk view mine current
IsRefused disk view faults (Refused Failed) faults' = (disk.key ≡ view) × Rose faults faults'

abbrev pub EndsAs : {T : Type 0} → Disk → ℕ → ℕ → Result T ServeError → ℕ → Type 0
EndsAs disk view faults (Ok x) faults' = Unit {0}
EndsAs disk view faults (Err error) faults' = IsRefused disk view faults error faults'

-- the disk is only read under this view: it is as it was, but for its count of faults
pub record OnlyReads {T : Type 0} (disk : Disk) (view faults : ℕ) (result : Result T ServeError) (new : Disk) (faults' : ℕ) : Type 0 where
  pub ends : EndsAs disk view faults result faults'
  pub same : new ≡ disk
  pub later : faults ≤ faults'
