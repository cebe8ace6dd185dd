-- How a planned step ends on the disk.
use Rattle.std.specs.Prelude.{◌≡◌, ◌≢◌, [], ℕ, Bool, true, false, List, Option, Some, None, Result, Ok, Err}
use Rattle.shared_disk.specs.Disk.{Disk}
use Rattle.shared_disk.specs.declared.stop.Stop.{Stop}
use Rattle.cluster_law.specs.DiskRules.{WritesOn}
use Rattle.cluster_law.specs.History.{writes_of_acts}
use Rattle.cluster_law.specs.Noted.{DiskAt}
use Rattle.cluster_law.specs.ServerRules.{entries_of}
use Rattle.cluster_law.specs.declared.node.ServerHalted.{ServerHalted}
use Rattle.cluster_law.specs.declared.step.Halt.{Halt}
use Rattle.cluster_law.specs.declared.step.Halt.TheVariants.{Fenced, Failed, Stopped, Damaged}
use Rattle.server_disk.specs.declared.carrying.Carried.{Carried}
use Rattle.server_start.specs.declared.stops.StepError.{StepError}
use Rattle.server_start.specs.declared.stops.StepError.TheVariants.{OutOfMemory, Halted}
use Rattle.server_draft.specs.Acts.{acts_of}
use Rattle.server_draft.specs.declared.act.Act.{Act}
use Rattle.server_writes.specs.Halted.{entries_left}

-- what some acts plan to write, in a view
abbrev pub planned_by : ℕ → List Act → List (ℕ × List ℕ)
planned_by view acts = writes_of_acts (acts_of view acts)

-- the disk takes what a step has planned, in order, to its end or to a halt with a cause
abbrev pub Carries : ℕ → List Act → Option Stop → DiskAt → DiskAt → Result Carried StepError → Type 0
Carries view acts stop before after (Ok carried) = WritesOn false view (planned_by view acts) stop before after carried.writes None
Carries view acts stop before after (Err OutOfMemory) = Unit {0}
Carries view acts stop before after (Err (Halted halted)) = WritesOn false view (planned_by view acts) stop before after halted.writes (Some halted.halt)

abbrev pub is_failure : Halt → Bool
is_failure (Fenced mine current) = false
is_failure (Failed faults) = true
is_failure Stopped = false
is_failure (Damaged sector) = false

-- the entries are those of all that was committed; or of a halt, those of what became final, and the one in doubt.
-- No step halts that has nothing to write
pub record LeavesEntries (view : ℕ) (acts : List Act) (halted : ServerHalted) : Type 0 where
  pub left : halted.entries ≡ entries_left (is_failure halted.halt) halted.writes (acts_of view acts)
  pub some : planned_by view acts ≢ []

abbrev pub HasEntries : ℕ → List Act → Result Carried StepError → Type 0
HasEntries view acts (Ok carried) = carried.entries ≡ entries_of (acts_of view acts)
HasEntries view acts (Err OutOfMemory) = Unit {0}
HasEntries view acts (Err (Halted halted)) = LeavesEntries view acts halted

-- want of memory leaves the disk as it was, its room apart
abbrev pub LeavesRoom : Disk → Disk → Result Carried StepError → Type 0
LeavesRoom old new (Ok carried) = Unit {0}
LeavesRoom old new (Err OutOfMemory) = new ≡ record old { room = new.room }
LeavesRoom old new (Err (Halted halted)) = Unit {0}
