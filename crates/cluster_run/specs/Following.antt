-- A run of a script on a disk.
use Rattle.std.specs.Prelude.{◌≡◌, ◌≤◌, ℕ, List, Result, Ok, Err, length}
use Rattle.std.specs.Io.KnownBytes.{append_known}
use Rattle.cal_base.specs.Faults.{Rose}
use Rattle.cal_base.specs.Limits as limits
use Rattle.cal_base.specs.Sink.{TakesPrefix}
use Rattle.image.specs.EntryPlans.{TellsFresh}
use Rattle.image.specs.Mount.{Told}
use Rattle.schedule.specs.Schedule.{begun as begun_lines}
use Rattle.script.specs.declared.script.Script.{Script}
use Rattle.shared_disk.specs.Disk.{Disk}
use Rattle.world.specs.Made.{Begins, FormatsFor}
use Rattle.world.specs.World.{WorldValue}
use Rattle.cluster_run.specs.Items.{Item, begun_text, items_text, whole_text}
use Rattle.run_status.specs.Printing.{Held}
use Rattle.cluster_run.specs.Turns.{IsLeft, IsOver, Runs, Standing, TakesTurn}
use Rattle.run_status.specs.declared.printout.PrintError.{PrintError}
use Rattle.run_status.specs.declared.printout.PrintError.TheVariants.{WriteFault, OutOfMemory}
use Rattle.cluster_run.specs.declared.run.Turn.{Turn}
use Rattle.cluster_run.specs.declared.run.Turn.TheVariants.{GoesOn, Ends}

-- a disk, and how often it has failed
pub record DiskAt : Type 0 where
  pub disk : Disk
  pub faults : ℕ

abbrev pub disk_of : Standing → DiskAt
disk_of at = record { disk = at.disk; faults = at.faults }

-- a run before its first turn: a new cluster of the script's clients, whose server A has formatted the disk, and all
-- lines still to come
pub record IsBegun (script : Script) (before : DiskAt) (at : Standing) : Type 0 where
  pub begins : Begins script.clients script.window at.world
  pub formatted : FormatsFor script.clients before.disk before.faults (Ok at.world) at.disk at.faults
  pub fresh : Told before.disk (λ sectors. length sectors ≡ limits.sectors → TellsFresh at.disk script.clients)
  pub to_come : at.schedule ≡ begun_lines script.lines

-- a script on a new cluster before its first turn
abbrev pub first_standing : Script → WorldValue → DiskAt → Standing
first_standing script world disk = record { world = world; schedule = begun_lines script.lines; disk = disk.disk; faults = disk.faults }

-- a turn and its items were printed
pub record PrintsTurn (old : Standing) (before : Held) (new : Standing) (now : Held) : Type 0 where
  pub items : List Item
  pub turn : TakesTurn old items new
  pub printed : now.held ≡ append_known before.held (items_text items)
  pub later : before.faults ≤ now.faults

-- nothing is left to come, and nothing was printed
pub record EndsHere (old : Standing) (before : Held) (new : Standing) (now : Held) : Type 0 where
  pub over : IsOver old
  pub world : new.world ≡ old.world
  pub disk : disk_of new ≡ disk_of old
  pub unprinted : now.held ≡ before.held
  pub later : before.faults ≤ now.faults

-- the sink failed in the items of a turn
pub record CutsTurn (old : Standing) (before : Held) (new : Standing) (now : Held) : Type 0 where
  pub items : List Item
  pub turn : TakesTurn old items new
  pub takes : TakesPrefix before.held (items_text items) now.held
  pub rose : Rose before.faults now.faults

-- memory ran out in a turn, of which nothing was printed
pub record LosesTurn (old : Standing) (before : Held) (new : Standing) (now : Held) : Type 0 where
  pub unprinted : now.held ≡ before.held
  pub left : IsLeft old new.disk new.faults

-- what a turn comes to
abbrev pub TurnEnds : Standing → Held → Result Turn PrintError → Standing → Held → Type 0
TurnEnds old before (Ok GoesOn) new now = PrintsTurn old before new now
TurnEnds old before (Ok Ends) new now = EndsHere old before new now
TurnEnds old before (Err WriteFault) new now = CutsTurn old before new now
TurnEnds old before (Err OutOfMemory) new now = LosesTurn old before new now

-- all turns were taken from where a run stood, and their items printed
pub record GoesToEnd (first : Standing) (before : Held) (new : Standing) (now : Held) : Type 0 where
  pub items : List Item
  pub at : Standing
  pub runs : Runs first items at
  pub over : IsOver at
  pub world : new.world ≡ at.world
  pub disk : disk_of new ≡ disk_of at
  pub printed : now.held ≡ append_known before.held (items_text items)
  pub later : before.faults ≤ now.faults

-- the sink failed in the items of the last turn
pub record IsCutOff (first : Standing) (before : Held) (new : Standing) (now : Held) : Type 0 where
  pub items : List Item
  pub runs : Runs first items new
  pub takes : TakesPrefix before.held (items_text items) now.held
  pub rose : Rose before.faults now.faults

-- memory ran out in a turn, behind the items of whole turns
pub record LacksMemory (first : Standing) (before : Held) (new : Standing) (now : Held) : Type 0 where
  pub items : List Item
  pub at : Standing
  pub runs : Runs first items at
  pub left : IsLeft at new.disk new.faults
  pub printed : now.held ≡ append_known before.held (items_text items)

-- what turn after turn comes to
abbrev pub GoesOnSo : Standing → Held → Result (Unit {0}) PrintError → Standing → Held → Type 0
GoesOnSo first before (Ok done) new now = GoesToEnd first before new now
GoesOnSo first before (Err WriteFault) new now = IsCutOff first before new now
GoesOnSo first before (Err OutOfMemory) new now = LacksMemory first before new now

-- the run of a script from its first standing was printed whole
pub record RanFrom (script : Script) (first : Standing) (before : Held) (disk : DiskAt) (now : Held) : Type 0 where
  pub items : List Item
  pub at : Standing
  pub runs : Runs first items at
  pub over : IsOver at
  pub disk_is : disk ≡ disk_of at
  pub printed : now.held ≡ append_known before.held (whole_text script.clients script.window items at.world.steps)

-- a text that begins this run, and the disk as the steps in it leave it
pub data BeginsFrom (script : Script) (first : Standing) (disk : DiskAt) : List ℕ → Type 0 where
  some_lines : (items : List Item) (at : Standing) → Runs first items at → disk ≡ disk_of at → BeginsFrom script first disk (begun_text script.clients script.window items)
  all_lines : (items : List Item) (at : Standing) → Runs first items at → IsOver at → disk ≡ disk_of at → BeginsFrom script first disk (whole_text script.clients script.window items at.world.steps)

-- the sink failed in such a text
pub record ShortFrom (script : Script) (first : Standing) (before : Held) (disk : DiskAt) (now : Held) : Type 0 where
  pub text : List ℕ
  pub begins : BeginsFrom script first disk text
  pub takes : TakesPrefix before.held text now.held
  pub rose : Rose before.faults now.faults

-- memory ran out before the first line was printed, or behind whole steps
pub data OutFrom (script : Script) (first : Standing) (before : Held) (disk : DiskAt) (now : Held) : Type 0 where
  unprinted : disk ≡ disk_of first → now.held ≡ before.held → OutFrom script first before disk now
  whole_steps : (items : List Item) (at : Standing) → Runs first items at → IsLeft at disk.disk disk.faults → now.held ≡ append_known before.held (begun_text script.clients script.window items) → OutFrom script first before disk now

-- what the run of a script from its first standing comes to
abbrev pub RunsFrom : Script → Standing → Held → Result (Unit {0}) PrintError → DiskAt → Held → Type 0
RunsFrom script first before (Ok done) disk now = RanFrom script first before disk now
RunsFrom script first before (Err WriteFault) disk now = ShortFrom script first before disk now
RunsFrom script first before (Err OutOfMemory) disk now = OutFrom script first before disk now

-- a run was begun on a disk, and this came of it
pub record OnceBegun (script : Script) (disk : DiskAt) (before : Held) (result : Result (Unit {0}) PrintError) (disk' : DiskAt) (now : Held) : Type 0 where
  pub first : Standing
  pub is_begun : IsBegun script disk first
  pub runs : RunsFrom script first before result disk' now

-- a text that begins a run on a disk
pub record BeginsRun (script : Script) (disk : DiskAt) (disk' : DiskAt) (text : List ℕ) : Type 0 where
  pub first : Standing
  pub is_begun : IsBegun script disk first
  pub begins : BeginsFrom script first disk' text
