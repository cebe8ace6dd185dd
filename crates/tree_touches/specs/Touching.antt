-- Which inodes an entry may alter: those that a change touches, and the file of a call on a descriptor.
use Rattle.std.specs.Prelude.{◌≡◌, ◌≢◌, ◌⊎◌, ℕ, Option, Some, None, Ok, All}
use Rattle.cal_base.specs.declared.identity.ClientId.{ClientId}
use Rattle.cal_base.specs.declared.identity.Ino.{Ino}
use Rattle.tree_law.specs.Tree.{Tree, table_of}
use Rattle.tree_law.specs.Descriptors.{opened, writable}
use Rattle.tree_law.specs.Needs.{touches}
use Rattle.tree_law.specs.declared.node.Node.{Node}
use Rattle.tree_law.specs.declared.node.Node.TheVariants.{Directory, Regular}
use Rattle.tree_law.specs.declared.call.Call.{Call}
use Rattle.tree_law.specs.declared.call.Call.TheVariants.{Close, Write, Truncate}

-- an inode is in no class among what a change touches
abbrev pub IsUntouched : Tree → Call → Ino → Type 0
IsUntouched tree call ino = All (λ touch. touch.0.0 ≢ ino.0) (touches tree call)

-- a class, by its number, that shows what stands at an inode: Names of a directory, Data or Attr of a file
abbrev pub ShowsNode : Option Node → ℕ → Type 0
ShowsNode (Some (Directory names)) class = class ≡ 1
ShowsNode (Some (Regular file)) class = (class ≡ 2) ⊎ (class ≡ 3)
ShowsNode None class = ⊥

-- a change doesn't touch this class of an inode
abbrev pub IsClassUntouched : Tree → Call → Ino → ℕ → Type 0
IsClassUntouched tree call ino class = All (λ touch. touch ≢ (ino, class)) (touches tree call)

-- the file behind a descriptor that a call writes to, cuts or closes
abbrev pub IsOfFile : Tree → ClientId → Call → Ino → Type 0
IsOfFile tree client (Close fd) ino = opened (table_of tree client) fd ≡ Ok ino
IsOfFile tree client (Write fd offset bytes) ino = writable (table_of tree client) fd ≡ Ok ino
IsOfFile tree client (Truncate fd size) ino = writable (table_of tree client) fd ≡ Ok ino
IsOfFile tree client _ ino = ⊥
