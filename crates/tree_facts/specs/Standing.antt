-- What stands in the tree of a legal history, and how an unflushed write ends.
use Rattle.std.specs.Prelude.{◌≡◌, ◌≤◌, ℕ, length, Option, Some, None, ⊤}
use Rattle.cal_base.specs.Limits.{file_size}
use Rattle.cal_base.specs.declared.identity.ClientId.{ClientId}
use Rattle.cal_base.specs.declared.identity.Ino.{Ino}
use Rattle.tree_law.specs.declared.node.Node.{Node}
use Rattle.tree_law.specs.declared.node.Node.TheVariants.{Directory, Regular}
use Rattle.tree_law.specs.declared.entry.Entry.{Entry}
use Rattle.tree_law.specs.declared.entry.Entry.TheVariants.{Call as Called, Flush, Purge}

-- the present bytes of a file, and those that last, are no more than a file may have
abbrev pub IsWithin : Option Node → Type 0
IsWithin (Some (Directory names)) = ⊤
IsWithin (Some (Regular file)) = (length file.contents ≤ file_size) × (length file.kept ≤ file_size)
IsWithin None = ⊤

-- the entry is the writer's flush of this file, or the writer's purge
abbrev pub EndsWriting : Entry → ClientId → Ino → Type 0
EndsWriting (Called client number call reply new) writer ino = ⊥
EndsWriting (Flush client file) writer ino = (client ≡ writer) × (file.0 ≡ ino.0)
EndsWriting (Purge client) writer ino = client ≡ writer
