-- How a run ends, what it read and what it wrote, and what it left of the disk.
use Rattle.std.specs.Prelude.{◌≡◌, ◌⊎◌, ◌+◌, ℕ, List, [], ◌∷◌, length, take, codes}
use Rattle.std.specs.Io.KnownBytes.{IsAtEnd}
use Rattle.cal_base.specs.Faults.{Rose}
use Rattle.cal_base.specs.Limits as limits
use Rattle.script.specs.Lines.{lines_of}
use Rattle.script.specs.Script.{IsScript, IsFirstBad}
use Rattle.script.specs.declared.bad_line.BadLine.{BadLine}
use Rattle.script.specs.declared.script.Script.{Script}
use Rattle.cluster_run.specs.Following.{DiskAt}
use Rattle.run_status.specs.Edge.{Edge, IsUnread, Took, Wrote}
use Rattle.run_status.specs.Printing.{Held}
use Rattle.cluster_run.specs.ScriptRun.{BeginsScript, RunsOut, RunsScript}
use Rattle.cluster_run.specs.Text.{bad_line, line}
use Rattle.run_status.specs.declared.status.Status.{Status}
use Rattle.run_status.specs.declared.status.Status.TheVariants.{Ok, Usage, BadScript, ReadFault, WriteFault, DiskFault, OutOfMemory, KeyTaken, Illegal, BadText}

abbrev pub held_at : Edge → Held
held_at edge = record { held = edge.held; faults = edge.sink_faults }

-- these bytes were taken, and are all that the source had, or one more than a script may have
pub record TookAll (before now : Edge) (input : List ℕ) : Type 0 where
  pub taken : Took before now input
  pub ended : IsAtEnd now.left ⊎ (length input ≡ limits.script_bytes + 1)

-- the command is the one word `run`
abbrev pub IsRunCommand : List (List ℕ) → Type 0
IsRunCommand words = words ≡ codes "run" ∷ []

-- the source was read to its end, and its bytes are a script, of which this came
pub record Ran (before now : Edge) (disk disk' : DiskAt) (status : Status) : Type 0 where
  pub input : List ℕ
  pub script : Script
  pub read : Took before now input
  pub ended : IsAtEnd now.left
  pub is_script : IsScript input script
  pub runs : RunsScript script disk (held_at before) status disk' (held_at now)

-- a line of what was read is bad: the first of them, with its first reason, was printed. At most
-- 67,108,865 bytes are read
pub record IsRefused (before now : Edge) (disk disk' : DiskAt) : Type 0 where
  pub input : List ℕ
  pub bad : BadLine
  pub read : TookAll before now input
  pub is_bad : IsFirstBad (lines_of input) bad
  pub printed : Wrote before now (line (bad_line bad))
  pub kept : disk' ≡ disk

-- a text that a command begins to print
pub data Begins (words : List (List ℕ)) (before now : Edge) (disk disk' : DiskAt) : List ℕ → Type 0 where
  usage : ¬ (IsRunCommand words) → now.left ≡ before.left → disk' ≡ disk → Begins words before now disk disk' (line (codes "Usage"))
  read_fault : IsRunCommand words → Rose before.source_faults now.source_faults → disk' ≡ disk → Begins words before now disk disk' (line (codes "ReadFault"))
  bad_script : (input : List ℕ) (bad : BadLine) → IsRunCommand words → TookAll before now input → IsFirstBad (lines_of input) bad → disk' ≡ disk → Begins words before now disk disk' (line (bad_line bad))
  script : (input : List ℕ) (script : Script) (text : List ℕ) → IsRunCommand words → TookAll before now input → IsScript input script → BeginsScript script disk disk' text → Begins words before now disk disk' text

-- the sink failed while a text was printed, of which it has got a prefix
pub record IsCutShort (words : List (List ℕ)) (before now : Edge) (disk disk' : DiskAt) : Type 0 where
  pub text : List ℕ
  pub begins : Begins words before now disk disk' text
  pub count : ℕ
  pub rose : Rose before.sink_faults now.sink_faults
  pub printed : Wrote before now (take count text)

-- memory ran out in the run of a script that was read
pub record RanOut (before now : Edge) (disk disk' : DiskAt) : Type 0 where
  pub input : List ℕ
  pub script : Script
  pub read : TookAll before now input
  pub is_script : IsScript input script
  pub runs_out : RunsOut script disk (held_at before) disk' (held_at now)

-- memory ran out: before the disk was touched or anything printed, or in the run of a script
pub data IsStopped (words : List (List ℕ)) (before now : Edge) (disk disk' : DiskAt) : Type 0 where
  nothing : now.held ≡ before.held → disk' ≡ disk → IsStopped words before now disk disk'
  in_run : IsRunCommand words → RanOut before now disk disk' → IsStopped words before now disk disk'

-- what each status means
abbrev pub EndsSo : List (List ℕ) → Edge → Edge → DiskAt → DiskAt → Status → Type 0
EndsSo words before now disk disk' Ok = IsRunCommand words × Ran before now disk disk' Ok
EndsSo words before now disk disk' Usage = ¬ (IsRunCommand words) × Wrote before now (line (codes "Usage")) × (now.left ≡ before.left) × (disk' ≡ disk)
EndsSo words before now disk disk' BadScript = IsRunCommand words × IsRefused before now disk disk'
EndsSo words before now disk disk' ReadFault = IsRunCommand words × IsUnread before now × (disk' ≡ disk)
EndsSo words before now disk disk' WriteFault = IsCutShort words before now disk disk'
EndsSo words before now disk disk' DiskFault = IsRunCommand words × Ran before now disk disk' DiskFault
EndsSo words before now disk disk' OutOfMemory = IsStopped words before now disk disk'
EndsSo words before now disk disk' KeyTaken = IsRunCommand words × Ran before now disk disk' KeyTaken
EndsSo words before now disk disk' Illegal = ⊥
EndsSo words before now disk disk' BadText = ⊥
