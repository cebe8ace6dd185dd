-- What lasts of a file.
use Rattle.std.specs.Prelude.{◌≡◌, ◌==◌, ℕ, Bool, false, List, [], ◌∷◌, Option, Some, None, IfSome, ⊤, if◌then◌else◌}
use Rattle.cal_base.specs.declared.identity.Ino.{Ino}
use Rattle.tree_law.specs.Tree.{node_at, contents_of}
use Rattle.tree_law.specs.Legal.{tree_of}
use Rattle.tree_law.specs.declared.node.Node.{Node}
use Rattle.tree_law.specs.declared.node.Node.TheVariants.{Directory, Regular}
use Rattle.tree_law.specs.declared.entry.Entry.{Entry}
use Rattle.tree_law.specs.declared.entry.Entry.TheVariants.{Call as Called, Flush, Purge}

-- the bytes that last of a file, where one stands
abbrev pub kept_of : Option Node → Option (List ℕ)
kept_of (Some (Directory names)) = None
kept_of (Some (Regular file)) = Some file.kept
kept_of None = None

-- where a file stands later, one stood before, and the same bytes last of it
abbrev pub LastsAsBefore : Option Node → Option Node → Type 0
LastsAsBefore before later = IfSome (kept_of later) (λ kept. kept_of before ≡ Some kept)

-- a call made this inode
abbrev pub is_made : Option Ino → Ino → Bool
is_made (Some made) ino = made.0 == ino.0
is_made None ino = false

-- the bytes of a file at its last flush; none where there was no flush since the file was made. A history
-- stands newest first
abbrev pub last_flushed : List Entry → Ino → List ℕ
last_flushed [] ino = []
last_flushed (Called client number call reply new ∷ earlier) ino = if is_made new ino then [] else last_flushed earlier ino
last_flushed (Flush client file ∷ earlier) ino = if file.0 == ino.0 then contents_of (node_at (tree_of earlier) ino) else last_flushed earlier ino
last_flushed (Purge client ∷ earlier) ino = last_flushed earlier ino

-- a file without unflushed writes lasts as it is
abbrev pub LastsWhole : Option Node → Type 0
LastsWhole (Some (Directory names)) = ⊤
LastsWhole (Some (Regular file)) = file.writer ≡ None → file.kept ≡ file.contents
LastsWhole None = ⊤
