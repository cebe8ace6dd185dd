-- The run of the bytes of a script.
use Rattle.std.specs.Prelude.{◌≡◌, ◌⊎◌, ◌≤◌, ℕ, List, length, Ok as Done, Err, codes}
use Rattle.std.specs.Io.KnownBytes.{append_known}
use Rattle.cal_base.specs.Faults.{Rose}
use Rattle.cal_base.specs.Limits as limits
use Rattle.cal_base.specs.Sink.{TakesPrefix}
use Rattle.cal_base.specs.declared.identity.View.{View}
use Rattle.fence.specs.declared.port_halt.PortHalt.{PortHalt}
use Rattle.fence.specs.declared.port_halt.PortHalt.TheVariants.{Fenced, Failed, Stopped}
use Rattle.script.specs.Lines.{lines_of}
use Rattle.script.specs.Script.{IsScript, IsFirstBad}
use Rattle.script.specs.declared.bad_line.BadLine.{BadLine}
use Rattle.script.specs.declared.script.Script.{Script}
use Rattle.server_start.specs.declared.stops.FormatError.TheVariants.{Halted}
use Rattle.world.specs.Made.{FormatsFor, IsAsBefore}
use Rattle.cluster_run.specs.Following.{BeginsRun, DiskAt, OnceBegun}
use Rattle.run_status.specs.Printing.{Held}
use Rattle.cluster_run.specs.Telling.{Tells, TellsOr}
use Rattle.cluster_run.specs.Text.{bad_line, key_line, line}
use Rattle.run_status.specs.declared.printout.PrintError.TheVariants.{OutOfMemory as NoRoom}
use Rattle.run_status.specs.declared.status.Status.{Status}
use Rattle.run_status.specs.declared.status.Status.TheVariants.{Ok, Usage, BadScript, ReadFault, WriteFault, DiskFault, OutOfMemory, KeyTaken, Illegal, BadText}

-- a text was printed
abbrev pub Wrote : Held → List ℕ → Held → Type 0
Wrote before text now = now.held ≡ append_known before.held text

-- the format of the disk halted so
abbrev pub Halts : Script → DiskAt → PortHalt → DiskAt → Type 0
Halts script disk halt disk' = FormatsFor script.clients disk.disk disk.faults (Err (Halted halt)) disk'.disk disk'.faults

-- the disk failed in the format
pub record FailsInFormat (disk disk' : DiskAt) : Type 0 where
  pub script : Script
  pub halts : Halts script disk Failed disk'

-- a disk call of the format found this key
pub record FindsKey (script : Script) (disk : DiskAt) (key : ℕ) (disk' : DiskAt) : Type 0 where
  pub mine : View
  pub halts : Halts script disk (Fenced mine (record { 0 = key })) disk'

-- a text that comes of a script on a disk, and what that leaves of the disk
pub data BeginsScript (script : Script) (disk : DiskAt) (disk' : DiskAt) : List ℕ → Type 0 where
  run : (text : List ℕ) → BeginsRun script disk disk' text → BeginsScript script disk disk' text
  disk_fault : Halts script disk Failed disk' → BeginsScript script disk disk' (line (codes "DiskFault"))
  key_taken : (key : ℕ) → FindsKey script disk key disk' → BeginsScript script disk disk' (line (key_line key))

-- the sink failed in such a text
pub record ToldShort (script : Script) (disk : DiskAt) (before : Held) (disk' : DiskAt) (now : Held) : Type 0 where
  pub text : List ℕ
  pub begins : BeginsScript script disk disk' text
  pub takes : TakesPrefix before.held text now.held
  pub rose : Rose before.faults now.faults

-- a key that was found was told
pub record ToldKey (script : Script) (disk : DiskAt) (before : Held) (disk' : DiskAt) (now : Held) : Type 0 where
  pub key : ℕ
  pub finds : FindsKey script disk key disk'
  pub printed : Wrote before (line (key_line key)) now

-- memory ran out in the format, before its halt was told, or in the run
pub data RunsOut (script : Script) (disk : DiskAt) (before : Held) (disk' : DiskAt) (now : Held) : Type 0 where
  unformatted : IsAsBefore disk.disk disk'.disk → now.held ≡ before.held → RunsOut script disk before disk' now
  halted : (halt : PortHalt) → Halts script disk halt disk' → now.held ≡ before.held → RunsOut script disk before disk' now
  begun : OnceBegun script disk before (Err NoRoom) disk' now → RunsOut script disk before disk' now

-- a format that halted is told
abbrev pub TellsHalt : Held → PortHalt → Status → Held → Type 0
TellsHalt before (Fenced mine current) result now = TellsOr before (line (key_line current.0)) KeyTaken result now
TellsHalt before Failed result now = Tells before (line (codes "DiskFault")) DiskFault result now
TellsHalt before Stopped result now = ⊥

-- how the run of a script ends
abbrev pub RunsScript : Script → DiskAt → Held → Status → DiskAt → Held → Type 0
RunsScript script disk before Ok disk' now = OnceBegun script disk before (Done tt) disk' now
RunsScript script disk before DiskFault disk' now = Halts script disk Failed disk' × Wrote before (line (codes "DiskFault")) now
RunsScript script disk before KeyTaken disk' now = ToldKey script disk before disk' now
RunsScript script disk before WriteFault disk' now = ToldShort script disk before disk' now
RunsScript script disk before OutOfMemory disk' now = RunsOut script disk before disk' now
RunsScript script disk before BadScript disk' now = ⊥
RunsScript script disk before Usage disk' now = ⊥
RunsScript script disk before ReadFault disk' now = ⊥
RunsScript script disk before Illegal disk' now = ⊥
RunsScript script disk before BadText disk' now = ⊥

-- the bytes are a script, of which this came
pub record RanBytes (bytes : List ℕ) (disk : DiskAt) (before : Held) (status : Status) (disk' : DiskAt) (now : Held) : Type 0 where
  pub script : Script
  pub is_script : IsScript bytes script
  pub fits : length bytes ≤ limits.script_bytes
  pub runs : RunsScript script disk before status disk' now

-- a bad line was told, or not
pub record ToldBad (bytes : List ℕ) (disk : DiskAt) (before : Held) (disk' : DiskAt) (now : Held) : Type 0 where
  pub bad : BadLine
  pub is_bad : IsFirstBad (lines_of bytes) bad
  pub printed : Wrote before (line (bad_line bad)) now
  pub disk_is : disk' ≡ disk

pub record CutBad (bytes : List ℕ) (disk : DiskAt) (before : Held) (disk' : DiskAt) (now : Held) : Type 0 where
  pub bad : BadLine
  pub is_bad : IsFirstBad (lines_of bytes) bad
  pub takes : TakesPrefix before.held (line (bad_line bad)) now.held
  pub rose : Rose before.faults now.faults
  pub disk_is : disk' ≡ disk

-- nothing came of the bytes for want of memory
abbrev pub IsUntold : DiskAt → Held → DiskAt → Held → Type 0
IsUntold disk before disk' now = (disk' ≡ disk) × (now.held ≡ before.held)

-- how the run of bytes ends
abbrev pub RunsBytes : List ℕ → DiskAt → Held → Status → DiskAt → Held → Type 0
RunsBytes bytes disk before Ok disk' now = RanBytes bytes disk before Ok disk' now
RunsBytes bytes disk before BadScript disk' now = ToldBad bytes disk before disk' now
RunsBytes bytes disk before DiskFault disk' now = RanBytes bytes disk before DiskFault disk' now
RunsBytes bytes disk before KeyTaken disk' now = RanBytes bytes disk before KeyTaken disk' now
RunsBytes bytes disk before WriteFault disk' now = CutBad bytes disk before disk' now ⊎ RanBytes bytes disk before WriteFault disk' now
RunsBytes bytes disk before OutOfMemory disk' now = IsUntold disk before disk' now ⊎ RanBytes bytes disk before OutOfMemory disk' now
RunsBytes bytes disk before Usage disk' now = ⊥
RunsBytes bytes disk before ReadFault disk' now = ⊥
RunsBytes bytes disk before Illegal disk' now = ⊥
RunsBytes bytes disk before BadText disk' now = ⊥
