-- What a step leaves that halts.
use Rattle.std.specs.Prelude.{◌≡◌, ◌+◌, ◌++◌, ◌∷◌, [], ◌&&◌, ◌||◌, ℕ, Bool, true, false, if◌then◌else◌, nat_eq, List, Option, length, option_to_list}
use Rattle.journal.specs.Opened.{opened_at, opening_place}
use Rattle.shared_disk.specs.Sectors.{left_of}
use Rattle.tree_law.specs.declared.entry.Entry.{Entry}
use Rattle.cluster_law.specs.DiskRules.{entry_opened_at}
use Rattle.cluster_law.specs.History.{final_acts, final_place}
use Rattle.cluster_law.specs.Lanes as law
use Rattle.cluster_law.specs.ServerRules.{entries_of, entry_of}
use Rattle.server_draft.specs.Acts.{deed_of}
use Rattle.server_draft.specs.declared.act.Act.{Act}
use Rattle.server_draft.specs.declared.act.Act.TheVariants.{Tells, Commits, Drops}

-- these were kept of the writes that were planned: so many of them, and the bytes of a torn one
pub record AreLeft (planned kept : List (ℕ × List ℕ)) : Type 0 where
  pub made : ℕ
  pub torn : Option (List ℕ)
  pub kept_is : kept ≡ left_of planned made torn

-- the entry of the commit whose opening write was the one that failed: whether it stands isn't known
abbrev pub entry_in_doubt : Bool → List (ℕ × List ℕ) → List law.Act → List Entry
entry_in_doubt false kept acts = []
entry_in_doubt true kept acts = option_to_list (entry_opened_at (length kept) acts)

-- the entries of a step that halted: those of the commits whose opening write was kept, and the one in doubt
abbrev pub entries_left : Bool → List (ℕ × List ℕ) → List law.Act → List Entry
entries_left failed kept acts = entries_of (final_acts kept acts) ++ entry_in_doubt failed kept acts

-- the commit whose opening write has this place is final, or may be
abbrev pub may_stand : Bool → List (ℕ × List ℕ) → ℕ → Bool
may_stand failed kept place = opened_at kept place || (failed && nat_eq place (length kept))

-- how many entries those of such commits are
unfoldable pub count_left : Bool → List (ℕ × List ℕ) → List law.Act → ℕ
count_left failed kept [] = 0
count_left failed kept (law.Mounts volume ∷ before) = count_left failed kept before
count_left failed kept (law.Tells lane message ∷ before) = count_left failed kept before
count_left failed kept (law.Commits commit ∷ before) = count_left failed kept before + (if may_stand failed kept (final_place before commit) then length (entry_of commit.deed) else 0)
count_left failed kept (law.Drops ∷ before) = count_left failed kept before

-- how many entries of an act these are, before which so many writes were planned
abbrev pub left_by : Bool → List (ℕ × List ℕ) → ℕ → Act → ℕ
left_by failed kept before (Tells client message) = 0
left_by failed kept before (Commits commit) = if may_stand failed kept (before + length commit.lays + opening_place (length commit.homes)) then length (entry_of (deed_of commit.deed)) else 0
left_by failed kept before Drops = 0
