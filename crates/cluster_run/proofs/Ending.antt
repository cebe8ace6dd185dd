-- A run from its first line to its last.
use Rattle.std.proofs.Common.{◌≡◌, ◌≤◌, ℕ, List, [], length, Option, Result, Ok, Err, refl, sym, ap, ◌∙◌, subst, arith, inl, append-nil}
use Rattle.std.specs.Io.KnownBytes.{append_known}
use Rattle.cal_base.specs.Limits as limits
use Rattle.cal_base.specs.Sink.{TakesPrefix}
use Rattle.image.specs.EntryPlans.{TellsFresh}
use Rattle.image.specs.Mount.{Told}
use Rattle.run_status.proofs.Printed.{append_known-append, prefix_last, rose_later}
use Rattle.run_status.specs.Printing.{Held, Prints}
use Rattle.run_status.specs.declared.printout.PrintError.{PrintError}
use Rattle.run_status.specs.declared.printout.PrintError.TheVariants.{WriteFault, OutOfMemory}
use Rattle.schedule.specs.Schedule.{ScheduleValue, begun as begun_lines}
use Rattle.script.specs.declared.script.Script.{Script}
use Rattle.shared_disk.specs.Disk.{Disk}
use Rattle.trace_text.specs.Line.{line}
use Rattle.trace_text.specs.Runs.{end_line, run_line}
use Rattle.world.specs.Made.{Begins, FormatsFor, IsAsBefore}
use Rattle.world.specs.World.{WorldValue}
use Rattle.cluster_run.specs.Following.{DiskAt, GoesOnSo, IsBegun, RunsFrom, all_lines, disk_of, first_standing, some_lines, unprinted, whole_steps}
use Rattle.cluster_run.specs.Items.{Item, begun_text, items_text, whole_text}
use Rattle.cluster_run.specs.Turns.{Standing, begun}

abbrev first_line : Script → List ℕ
first_line script = line (run_line script.clients script.window)

-- a disk that is the same is as it was
as_it_was : (disk disk' : Disk) → disk' ≡ disk → IsAsBefore disk disk'
as_it_was disk disk' same = subst (λ (d : Disk). d ≡ record disk { room = d.room }) (sym same) refl

-- the first line isn't printed
pub not_begun : (script : Script) (first : Standing) (before now : Held) (error : PrintError) → Prints before (first_line script) (Err error) now → RunsFrom script first before (Err error) (disk_of first) now
not_begun script first before now WriteFault prints = record {
  text = begun_text script.clients script.window [];
  begins = some_lines [] first begun refl;
  takes = subst (λ (text : List ℕ). TakesPrefix before.held text now.held) (sym (append-nil (first_line script))) prints.0;
  rose = prints.1;
}
not_begun script first before now OutOfMemory prints = unprinted refl prints.0

-- what was printed behind the first line
behind_first : (script : Script) (before middle now : Held) (items : List Item) → Prints before (first_line script) (Ok tt) middle → now.held ≡ append_known middle.held (items_text items)
    → now.held ≡ append_known before.held (begun_text script.clients script.window items)
behind_first script before middle now items prints printed = printed ∙ ap (λ (known : Option (List ℕ)). append_known known (items_text items)) prints.0 ∙ append_known-append before.held (first_line script) (items_text items)

stops : (script : Script) (first : Standing) (before middle : Held) (new : Standing) (after : Held) (error : PrintError) → Prints before (first_line script) (Ok tt) middle → GoesOnSo first middle (Err error) new after
    → RunsFrom script first before (Err error) (disk_of new) after
stops script first before middle new after WriteFault prints going = record {
  text = begun_text script.clients script.window going.items;
  begins = some_lines going.items new going.runs refl;
  takes = prefix_last before.held after.held (first_line script) (items_text going.items) (subst (λ (known : Option (List ℕ)). TakesPrefix known (items_text going.items) after.held) prints.0 going.takes);
  rose = rose_later _ _ _ prints.1 going.rose;
}
stops script first before middle new after OutOfMemory prints going = whole_steps going.items going.at going.runs going.left (behind_first script before middle after going.items prints going.printed)

-- the turns aren't printed whole
pub goes_short : (script : Script) (at first : Standing) (before middle : Held) (new : Standing) (after : Held) (error : PrintError) → at ≡ first → Prints before (first_line script) (Ok tt) middle → GoesOnSo at middle (Err error) new after
    → RunsFrom script first before (Err error) (disk_of new) after
goes_short script at first before middle new after error same prints going = stops script first before middle new after error prints (subst (λ (s : Standing). GoesOnSo s middle (Err error) new after) same going)

-- all that was printed, once the last line was
printed_whole : (script : Script) (items : List Item) (before now after : Held) (made steps : ℕ) → made ≡ steps → now.held ≡ append_known before.held (begun_text script.clients script.window items)
    → after.held ≡ append_known now.held (line (end_line made)) → after.held ≡ append_known before.held (whole_text script.clients script.window items steps)
printed_whole script items before now after made steps same printed last = last
    ∙ ap (λ (known : Option (List ℕ)). append_known known (line (end_line made))) printed
    ∙ append_known-append before.held (begun_text script.clients script.window items) (line (end_line made))
    ∙ ap (λ (n : ℕ). append_known before.held (whole_text script.clients script.window items n)) same

ends : (script : Script) (first : Standing) (before middle : Held) (new : Standing) (now after : Held) (result : Result (Unit {0}) PrintError) → Prints before (first_line script) (Ok tt) middle → GoesOnSo first middle (Ok tt) new now
    → Prints now (line (end_line new.world.steps)) result after → RunsFrom script first before result (disk_of new) after
ends script first before middle new now after (Ok done) prints going last = record {
  items = going.items;
  at = going.at;
  runs = going.runs;
  over = going.over;
  disk_is = going.disk;
  printed = printed_whole script going.items before now after new.world.steps going.at.world.steps (ap (λ (w : WorldValue). w.steps) going.world) (behind_first script before middle now going.items prints going.printed) last.0;
}
ends script first before middle new now after (Err WriteFault) prints going last =
    let steps : new.world.steps ≡ going.at.world.steps = ap (λ (w : WorldValue). w.steps) going.world in
    let taken : TakesPrefix (append_known before.held (begun_text script.clients script.window going.items)) (line (end_line new.world.steps)) after.held =
    subst (λ (known : Option (List ℕ)). TakesPrefix known (line (end_line new.world.steps)) after.held) (behind_first script before middle now going.items prints going.printed) last.0 in
    record {
      text = whole_text script.clients script.window going.items going.at.world.steps;
      begins = all_lines going.items going.at going.runs going.over going.disk;
      takes = subst (λ (n : ℕ). TakesPrefix before.held (whole_text script.clients script.window going.items n) after.held) steps
          (prefix_last before.held after.held (begun_text script.clients script.window going.items) (line (end_line new.world.steps)) taken);
      rose = let early : before.faults ≤ middle.faults = prints.1 in let late : middle.faults ≤ now.faults = going.later in rose_later before.faults now.faults after.faults (omega (arith, early, late)) last.1;
    }
ends script first before middle new now after (Err OutOfMemory) prints going last =
    whole_steps going.items going.at going.runs (inl (as_it_was going.at.disk new.disk (ap (λ (d : DiskAt). d.disk) going.disk))) (last.0 ∙ behind_first script before middle now going.items prints going.printed)

-- all turns were taken, and the last line was printed or not
pub goes_whole : (script : Script) (at first : Standing) (before middle : Held) (new : Standing) (now after : Held) (steps : ℕ) (result : Result (Unit {0}) PrintError) → at ≡ first → new.world.steps ≡ steps
    → Prints before (first_line script) (Ok tt) middle → GoesOnSo at middle (Ok tt) new now → Prints now (line (end_line steps)) result after → RunsFrom script first before result (disk_of new) after
goes_whole script at first before middle new now after steps result same made prints going last =
    ends script first before middle new now after result prints (subst (λ (s : Standing). GoesOnSo s middle (Ok tt) new now) same going) (subst (λ (n : ℕ). Prints now (line (end_line n)) result after) (sym made) last)

-- a run on this world that has its lines still to come is at the first standing of its script
pub at_first : (script : Script) (world middle last : WorldValue) (between now : ScheduleValue) (disk : DiskAt) → middle ≡ world → between ≡ begun_lines script.lines → last ≡ middle → now ≡ between
    → record { world = last; schedule = now; disk = disk.disk; faults = disk.faults } ≡ first_standing script world disk
at_first script world middle last between now disk made begins same kept = λ i. record { world = (same ∙ made) i; schedule = (kept ∙ begins) i; disk = disk.disk; faults = disk.faults }

-- a cluster that was made, on the disk that its server A has formatted
pub is_begun : (script : Script) (world : WorldValue) (before after : DiskAt) → Begins script.clients script.window world → FormatsFor script.clients before.disk before.faults (Ok world) after.disk after.faults
    → Told before.disk (λ sectors. length sectors ≡ limits.sectors → TellsFresh after.disk script.clients) → IsBegun script before (first_standing script world after)
is_begun script world before after begins formatted fresh = record { begins = begins; formatted = formatted; fresh = fresh; to_come = refl }
