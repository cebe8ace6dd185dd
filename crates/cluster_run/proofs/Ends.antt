-- How a command ends, from what it read, what it printed and what was left of the disk.
use Rattle.std.proofs.Common.{◌≡◌, ◌≤◌, ◌⊎◌, ℕ, List, length, Option, Result, Ok, Err, refl, arith, inl, inr, subst}
use Rattle.std.specs.Prelude.{codes}
use Rattle.std.specs.Io.KnownBytes.{IsAtEnd}
use Rattle.cal_base.specs.Faults.{Rose}
use Rattle.cal_base.specs.Sink.{TakesPrefix}
use Rattle.fence.specs.declared.port_halt.PortHalt.{PortHalt}
use Rattle.fence.specs.declared.port_halt.PortHalt.TheVariants.{Fenced, Failed, Stopped}
use Rattle.run_status.specs.Edge.{Edge}
use Rattle.run_status.specs.Printing.{Held, Prints}
use Rattle.run_status.specs.Taking.{Left, IsFailed}
use Rattle.run_status.specs.declared.printout.PrintError.{PrintError}
use Rattle.run_status.specs.declared.printout.PrintError.TheVariants.{WriteFault as NotWritten, OutOfMemory as NoRoom}
use Rattle.run_status.specs.declared.status.Status.{Status}
use Rattle.run_status.specs.declared.status.Status.TheVariants.{Ok as Fine, Usage, BadScript, ReadFault, WriteFault, DiskFault, OutOfMemory, KeyTaken, Illegal, BadText}
use Rattle.script.specs.Lines.{lines_of}
use Rattle.script.specs.Script.{IsScript, IsFirstBad}
use Rattle.script.specs.declared.bad_line.BadLine.{BadLine}
use Rattle.script.specs.declared.script.Script.{Script}
use Rattle.cluster_run.specs.Following.{DiskAt, IsBegun, RunsFrom}
use Rattle.cluster_run.specs.Reading.{IsReadAll}
use Rattle.cluster_run.specs.Run.{Begins, EndsSo, IsCutShort, IsRunCommand, TookAll, bad_script, in_run, nothing, read_fault, script as of_script, usage}
use Rattle.cluster_run.specs.ScriptRun.{FindsKey, Halts, RunsBytes, RunsScript, TellsHalt, begun, disk_fault, halted, key_taken, run}
use Rattle.cluster_run.specs.Telling.{Tells, TellsOr, status_of_print}
use Rattle.cluster_run.specs.Text.{bad_line, key_line, line}
use Rattle.cluster_run.specs.Turns.{Standing}

-- a run was begun, and ends so
pub run_ends : (script : Script) (disk : DiskAt) (first : Standing) (before : Held) (result : Result (Unit {0}) PrintError) (status : Status) (disk' : DiskAt) (now : Held) → status ≡ status_of_print Fine result → IsBegun script disk first
    → RunsFrom script first before result disk' now → RunsScript script disk before status disk' now
run_ends script disk first before (Ok done) status disk' now is begins runs = rw is (record { first = first; is_begun = begins; runs = runs })
run_ends script disk first before (Err NotWritten) status disk' now is begins runs = rw is (record { text = runs.text; begins = run runs.text (record { first = first; is_begun = begins; begins = runs.begins }); takes = runs.takes; rose = runs.rose })
run_ends script disk first before (Err NoRoom) status disk' now is begins runs = rw is (begun (record { first = first; is_begun = begins; runs = runs }))

-- the disk failed in the format
fault_told : (script : Script) (disk : DiskAt) (before : Held) (printed : Result (Unit {0}) PrintError) (status : Status) (disk' : DiskAt) (now : Held) → status ≡ status_of_print DiskFault printed → Halts script disk Failed disk'
    → Prints before (line (codes "DiskFault")) printed now → RunsScript script disk before status disk' now
fault_told script disk before (Ok done) status disk' now is halts prints = rw is (halts, prints.0)
fault_told script disk before (Err NotWritten) status disk' now is halts prints = rw is (record { text = line (codes "DiskFault"); begins = disk_fault halts; takes = prints.0; rose = prints.1 })
fault_told script disk before (Err NoRoom) status disk' now is halts prints = rw is (halted Failed halts prints.0)

-- the disk was under a key already
key_told : (script : Script) (disk : DiskAt) (before : Held) (key : ℕ) (printed : Result (Unit {0}) PrintError) (status : Status) (disk' : DiskAt) (now : Held) → status ≡ status_of_print KeyTaken printed
    → FindsKey script disk key disk' → Prints before (line (key_line key)) printed now → RunsScript script disk before status disk' now
key_told script disk before key (Ok done) status disk' now is finds prints = rw is (record { key = key; finds = finds; printed = prints.0 })
key_told script disk before key (Err NotWritten) status disk' now is finds prints = rw is (record { text = line (key_line key); begins = key_taken key finds; takes = prints.0; rose = prints.1 })
key_told script disk before key (Err NoRoom) status disk' now is finds prints = rw is (halted (Fenced finds.mine (record { 0 = key })) finds.halts prints.0)

-- the format halted
pub halt_told : (script : Script) (disk : DiskAt) (before : Held) (halt : PortHalt) (status : Status) (disk' : DiskAt) (now : Held) → Halts script disk halt disk' → TellsHalt before halt status now → RunsScript script disk before status disk' now
halt_told script disk before (Fenced mine current) status disk' now halts (inl tells) = key_told script disk before current.0 tells.printed status disk' now tells.result_is (record { mine = mine; halts = halts }) tells.prints
halt_told script disk before (Fenced mine current) status disk' now halts (inr lacks) = rw lacks.0 (halted (Fenced mine current) halts lacks.1)
halt_told script disk before Failed status disk' now halts tells = fault_told script disk before tells.printed status disk' now tells.result_is halts tells.prints
halt_told script disk before Stopped status disk' now halts tells = absurd tells

-- the bytes are a script
pub script_ran : (bytes : List ℕ) (script : Script) (disk : DiskAt) (before : Held) (status : Status) (disk' : DiskAt) (now : Held) → IsScript bytes script → length bytes ≤ 67108864 → RunsScript script disk before status disk' now
    → RunsBytes bytes disk before status disk' now
script_ran bytes script disk before Fine disk' now is fits runs = record { script = script; is_script = is; fits = fits; runs = runs }
script_ran bytes script disk before Usage disk' now is fits runs = absurd runs
script_ran bytes script disk before BadScript disk' now is fits runs = absurd runs
script_ran bytes script disk before ReadFault disk' now is fits runs = absurd runs
script_ran bytes script disk before WriteFault disk' now is fits runs = inr (record { script = script; is_script = is; fits = fits; runs = runs })
script_ran bytes script disk before DiskFault disk' now is fits runs = record { script = script; is_script = is; fits = fits; runs = runs }
script_ran bytes script disk before OutOfMemory disk' now is fits runs = inr (record { script = script; is_script = is; fits = fits; runs = runs })
script_ran bytes script disk before KeyTaken disk' now is fits runs = record { script = script; is_script = is; fits = fits; runs = runs }
script_ran bytes script disk before Illegal disk' now is fits runs = absurd runs
script_ran bytes script disk before BadText disk' now is fits runs = absurd runs

bad_printed : (bytes : List ℕ) (bad : BadLine) (disk : DiskAt) (before : Held) (printed : Result (Unit {0}) PrintError) (status : Status) (now : Held) → status ≡ status_of_print BadScript printed → IsFirstBad (lines_of bytes) bad
    → Prints before (line (bad_line bad)) printed now → RunsBytes bytes disk before status disk now
bad_printed bytes bad disk before (Ok done) status now is is_bad prints = rw is (record { bad = bad; is_bad = is_bad; printed = prints.0; disk_is = refl })
bad_printed bytes bad disk before (Err NotWritten) status now is is_bad prints = rw is (inl (record { bad = bad; is_bad = is_bad; takes = prints.0; rose = prints.1; disk_is = refl }))
bad_printed bytes bad disk before (Err NoRoom) status now is is_bad prints = rw is (inl (refl, prints.0))

-- a line of the bytes is bad
pub bad_told : (bytes : List ℕ) (bad : BadLine) (disk : DiskAt) (before : Held) (status : Status) (now : Held) → IsFirstBad (lines_of bytes) bad → TellsOr before (line (bad_line bad)) BadScript status now → RunsBytes bytes disk before status disk now
bad_told bytes bad disk before status now is_bad (inl tells) = bad_printed bytes bad disk before tells.printed status now tells.result_is is_bad tells.prints
bad_told bytes bad disk before status now is_bad (inr lacks) = rw lacks.0 (inl (refl, lacks.1))

abbrev pub edge : Left → Held → Edge
edge source sink = record { left = source.left; held = sink.held; source_faults = source.faults; sink_faults = sink.faults }

cut : (words : List (List ℕ)) (before now : Edge) (disk disk' : DiskAt) (text : List ℕ) → Begins words before now disk disk' text → TakesPrefix before.held text now.held → Rose before.sink_faults now.sink_faults → IsCutShort words before now disk disk'
cut words before now disk disk' text begins taken rose = record { text = text; begins = begins; count = taken.taken; rose = rose; printed = taken.grown }

usage_printed : (words : List (List ℕ)) (source : Left) (disk : DiskAt) (before now : Held) (printed : Result (Unit {0}) PrintError) (status : Status) → status ≡ status_of_print Usage printed → ¬ (IsRunCommand words)
    → Prints before (line (codes "Usage")) printed now → EndsSo words (edge source before) (edge source now) disk disk status
usage_printed words source disk before now (Ok done) status is other prints = rw is (other, prints.0, refl, refl)
usage_printed words source disk before now (Err NotWritten) status is other prints = rw is (cut words (edge source before) (edge source now) disk disk _ (usage other refl refl) prints.0 prints.1)
usage_printed words source disk before now (Err NoRoom) status is other prints = rw is (nothing prints.0 refl)

-- the words are no command
pub usage_told : (words : List (List ℕ)) (source : Left) (disk : DiskAt) (before now : Held) (status : Status) → ¬ (IsRunCommand words) → Tells before (line (codes "Usage")) Usage status now
    → EndsSo words (edge source before) (edge source now) disk disk status
usage_told words source disk before now status other tells = usage_printed words source disk before now tells.printed status tells.result_is other tells.prints

unread_printed : (words : List (List ℕ)) (first last : Left) (disk : DiskAt) (before now : Held) (printed : Result (Unit {0}) PrintError) (status : Status) → status ≡ status_of_print ReadFault printed → IsRunCommand words → IsFailed first last
    → Prints before (line (codes "ReadFault")) printed now → EndsSo words (edge first before) (edge last now) disk disk status
unread_printed words first last disk before now (Ok done) status is command failed prints = rw is (command, record { input = failed.bytes; read = failed.read.taken; rose = failed.rose; printed = prints.0 }, refl)
unread_printed words first last disk before now (Err NotWritten) status is command failed prints = rw is (cut words (edge first before) (edge last now) disk disk _ (read_fault command failed.rose refl) prints.0 prints.1)
unread_printed words first last disk before now (Err NoRoom) status is command failed prints = rw is (nothing prints.0 refl)

-- the source failed
pub unread_told : (words : List (List ℕ)) (first last : Left) (disk : DiskAt) (before now : Held) (status : Status) → IsRunCommand words → IsFailed first last → Tells before (line (codes "ReadFault")) ReadFault status now
    → EndsSo words (edge first before) (edge last now) disk disk status
unread_told words first last disk before now status command failed tells = unread_printed words first last disk before now tells.printed status tells.result_is command failed tells.prints

all_read : (first last : Left) (before now : Held) (bytes : List ℕ) → IsReadAll first bytes last → TookAll (edge first before) (edge last now) bytes
all_read first last before now bytes read = record { taken = read.read.taken; ended = read.ended }

at_end : (left : Option (List ℕ)) (bytes : List ℕ) → length bytes ≤ 67108864 → IsAtEnd left ⊎ (length bytes ≡ 67108865) → IsAtEnd left
at_end left bytes fits (inl end) = end
at_end left bytes fits (inr many) = absurd (omega arith)

bytes_ran : (words : List (List ℕ)) (first last : Left) (disk disk' : DiskAt) (before now : Held) (bytes : List ℕ) (status : Status) → IsRunCommand words → IsReadAll first bytes last → RunsBytes bytes disk before status disk' now
    → EndsSo words (edge first before) (edge last now) disk disk' status
bytes_ran words first last disk disk' before now bytes Fine command read ran =
    (command, record { input = bytes; script = ran.script; read = read.read.taken; ended = at_end last.left bytes ran.fits read.ended; is_script = ran.is_script; runs = ran.runs })
bytes_ran words first last disk disk' before now bytes Usage command read ran = absurd ran
bytes_ran words first last disk disk' before now bytes BadScript command read ran =
    (command, record { input = bytes; bad = ran.bad; read = all_read first last before now bytes read; is_bad = ran.is_bad; printed = ran.printed; kept = ran.disk_is })
bytes_ran words first last disk disk' before now bytes ReadFault command read ran = absurd ran
bytes_ran words first last disk disk' before now bytes WriteFault command read (inl told) =
    cut words (edge first before) (edge last now) disk disk' _ (bad_script bytes told.bad command (all_read first last before now bytes read) told.is_bad told.disk_is) told.takes told.rose
bytes_ran words first last disk disk' before now bytes WriteFault command read (inr ran) =
    cut words (edge first before) (edge last now) disk disk' _ (of_script bytes ran.script ran.runs.text command (all_read first last before now bytes read) ran.is_script ran.runs.begins) ran.runs.takes ran.runs.rose
bytes_ran words first last disk disk' before now bytes DiskFault command read ran =
    (command, record { input = bytes; script = ran.script; read = read.read.taken; ended = at_end last.left bytes ran.fits read.ended; is_script = ran.is_script; runs = ran.runs })
bytes_ran words first last disk disk' before now bytes OutOfMemory command read (inl untold) = nothing untold.1 untold.0
bytes_ran words first last disk disk' before now bytes OutOfMemory command read (inr ran) =
    in_run command (record { input = bytes; script = ran.script; read = all_read first last before now bytes read; is_script = ran.is_script; runs_out = ran.runs })
bytes_ran words first last disk disk' before now bytes KeyTaken command read ran =
    (command, record { input = bytes; script = ran.script; read = read.read.taken; ended = at_end last.left bytes ran.fits read.ended; is_script = ran.is_script; runs = ran.runs })
bytes_ran words first last disk disk' before now bytes Illegal command read ran = absurd ran
bytes_ran words first last disk disk' before now bytes BadText command read ran = absurd ran

-- the bytes were read, and handed on
pub bytes_end : (words : List (List ℕ)) (first last : Left) (disk disk' : DiskAt) (before now : Held) (bytes given : List ℕ) (status : Status) → IsRunCommand words → IsReadAll first bytes last → given ≡ bytes
    → RunsBytes given disk before status disk' now → EndsSo words (edge first before) (edge last now) disk disk' status
bytes_end words first last disk disk' before now bytes given status command read same ran =
    bytes_ran words first last disk disk' before now bytes status command read (subst (λ (b : List ℕ). RunsBytes b disk before status disk' now) same ran)
