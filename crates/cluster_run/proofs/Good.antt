-- That a good script is carried out.
use Rattle.std.proofs.Common.{◌≡◌, ◌≤◌, ◌⊎◌, ℕ, max, List, refl, ap, arith, inl, inr}
use Rattle.cal_base.specs.Faults.{Rose}
use Rattle.cluster_run.specs.Following.{DiskAt}
use Rattle.cluster_run.specs.Run.{EndsSo, IsRunCommand}
use Rattle.cluster_run.specs.ScriptRun.{FailsInFormat, FindsKey}
use Rattle.run_status.specs.Edge.{Edge, Took}
use Rattle.run_status.specs.declared.status.Status.{Status}
use Rattle.run_status.specs.declared.status.Status.TheVariants.{Ok, Usage, BadScript, ReadFault, WriteFault, DiskFault, OutOfMemory, KeyTaken, Illegal, BadText}
use Rattle.script.specs.Lines.{lines_of}
use Rattle.script.specs.Script.{IsFirstBad}
use Rattle.script.specs.declared.bad_line.BadLine.{BadLine}
use Rattle.script.specs.declared.script.Script.{Script}
use Rattle.shared_disk.specs.Disk.{Disk}

-- a disk whose key is at most 1 isn't found under another
finds_none : (script : Script) (disk disk' : DiskAt) (key : ℕ) → FindsKey script disk key disk' → disk.disk.key ≤ 1 → ⊥
finds_none script disk disk' key finds low =
    let found = finds.halts.ends in
    let raised : disk'.disk.key ≡ max disk.disk.key 1 = ap (λ (d : Disk). d.key) found.fenced_is in
    found.met.other (omega (arith, raised, low))

pub good_is_run : (words : List (List ℕ)) (before now : Edge) (disk disk' : DiskAt) (status : Status) → EndsSo words before now disk disk' status → IsRunCommand words
    → ((input : List ℕ) (bad : BadLine) → Took before now input → ¬ (IsFirstBad (lines_of input) bad))
    → ¬ (Rose before.source_faults now.source_faults) → ¬ (Rose before.sink_faults now.sink_faults) → ¬ (FailsInFormat disk disk') → disk.disk.key ≤ 1 → (status ≡ Ok) ⊎ (status ≡ OutOfMemory)
good_is_run words before now disk disk' Ok ends run good source sink format low = inl refl
good_is_run words before now disk disk' Usage ends run good source sink format low = absurd (ends.0 run)
good_is_run words before now disk disk' BadScript ends run good source sink format low = absurd (good ends.1.input ends.1.bad ends.1.read.taken ends.1.is_bad)
good_is_run words before now disk disk' ReadFault ends run good source sink format low = absurd (source ends.1.rose)
good_is_run words before now disk disk' WriteFault ends run good source sink format low = absurd (sink ends.rose)
good_is_run words before now disk disk' DiskFault ends run good source sink format low = absurd (format (record { script = ends.1.script; halts = ends.1.runs.0 }))
good_is_run words before now disk disk' OutOfMemory ends run good source sink format low = inr refl
good_is_run words before now disk disk' KeyTaken ends run good source sink format low = absurd (finds_none ends.1.script disk disk' ends.1.runs.key ends.1.runs.finds low)
good_is_run words before now disk disk' Illegal ends run good source sink format low = absurd ends
good_is_run words before now disk disk' BadText ends run good source sink format low = absurd ends

pub format_counts : (disk disk' : DiskAt) → FailsInFormat disk disk' → Rose disk.faults disk'.faults
format_counts disk disk' fails = fails.halts.ends.0
