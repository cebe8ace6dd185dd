-- The slots of a directory after the changes of one edit.
use Rattle.std.specs.Prelude.{◌++◌, ◌==◌, if◌then◌else◌, ℕ, Bool, true, false, List, Option, None, Some, replicate, slice_set}
use Rattle.cal_base.specs.Limits.{slots_per_block}
use Rattle.directory.specs.declared.slot_changes.SlotChanges.{SlotChanges}
use Rattle.directory.specs.declared.slot_changes.PlacedEntry.{PlacedEntry}
use Rattle.directory.specs.declared.entry.DirEntry.{DirEntry}

-- with a block of empty slots behind the others
abbrev pub grown : Bool → List (Option DirEntry) → List (Option DirEntry)
grown true slots = slots ++ replicate slots_per_block None
grown false slots = slots

-- with the slot at a place empty
abbrev pub left : Option ℕ → List (Option DirEntry) → List (Option DirEntry)
left (Some place) slots = slice_set slots place None
left None slots = slots

-- with an entry in the slot at a place
abbrev pub entered : Option (ℕ × DirEntry) → List (Option DirEntry) → List (Option DirEntry)
entered (Some placed) slots = slice_set slots placed.0 (Some placed.1)
entered None slots = slots

-- a slot is emptied before one is filled
abbrev pub changed : Bool → Option ℕ → Option (ℕ × DirEntry) → List (Option DirEntry) → List (Option DirEntry)
changed grows leaving entering slots = entered entering (left leaving (grown grows slots))

-- the place and the entry
abbrev pub placed : Option PlacedEntry → Option (ℕ × DirEntry)
placed (Some p) = Some (p.place, p.entry.now)
placed None = None

-- what the changes leave
abbrev pub after : SlotChanges → List (Option DirEntry) → List (Option DirEntry)
after changes slots = changed changes.grows changes.leaving (placed changes.entering) slots

-- the same for the slot at one place
abbrev pub left_at : Option ℕ → ℕ → Option DirEntry → Option DirEntry
left_at (Some other) place slot = if other == place then None else slot
left_at None place slot = slot

abbrev pub entered_at : Option PlacedEntry → ℕ → Option DirEntry → Option DirEntry
entered_at (Some p) place slot = if p.place == place then Some p.entry.now else slot
entered_at None place slot = slot
