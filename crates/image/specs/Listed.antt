-- The entries of a directory, sorted by name, each with what its inode is.
use Rattle.std.specs.Prelude.{ℕ, Bool, true, false, List, [], map, Option, Some, None}
use Rattle.std.specs.FinMap as finite
use Rattle.cal_base.specs.declared.directory_entry.DirectoryEntry.{DirectoryEntry}
use Rattle.cal_base.specs.declared.directory_entry.EntryKind.{EntryKind}
use Rattle.cal_base.specs.declared.directory_entry.EntryKind.TheVariants.{File, Directory}
use Rattle.cal_base.specs.declared.identity.Ino.{Ino}
use Rattle.directory.specs.Block.{entry_at}
use Rattle.directory.specs.declared.entry.DirEntry.{DirEntry}
use Rattle.tree_law.specs.Rename.{is_directory}
use Rattle.tree_law.specs.Tree.{Tree, node_at, root}
use Rattle.volume.specs.Volume.{Slots, Volume, slots_of}
use Rattle.volume_plan.specs.Shown.{names_of, shown}

abbrev pub kind_if : Bool → EntryKind
kind_if true = Directory
kind_if false = File

-- an entry as it is listed; its inode is a directory, or else a file
abbrev pub listed : Tree → Option DirEntry → DirectoryEntry
listed tree (Some e) = record { name = e.name; ino = e.ino; kind = kind_if (is_directory (node_at tree e.ino)) }
listed tree None = record { name = []; ino = root; kind = kind_if (is_directory (node_at tree root)) }

abbrev pub listed_at : Tree → Slots → ℕ → DirectoryEntry
listed_at tree slots place = listed tree (entry_at slots place)

-- the entry of a name and an inode, with what the inode is
abbrev pub entry_of : Tree → List ℕ × Ino → DirectoryEntry
entry_of tree pair = record { name = pair.0; ino = pair.1; kind = kind_if (is_directory (node_at tree pair.1)) }

-- what a volume lists of a directory: each of its names once, in their order; nothing of another inode
abbrev pub listing : Volume → ℕ → List DirectoryEntry
listing v number = map (entry_of (shown v)) (finite.entries (names_of (slots_of v number)))
