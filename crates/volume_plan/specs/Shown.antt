-- The tree that a volume shows: its directories, and its files with a name. It tells nothing of bytes,
-- descriptors or unflushed writes.
use Rattle.std.specs.Prelude.{Bool, true, false, List, [], ◌∷◌, Option, Some, None, replicate}
use Rattle.cal_base.specs.Limits as limits
use Rattle.std.specs.FinMap as map
use Rattle.inode.specs.declared.inode.Inode.{Inode}
use Rattle.inode.specs.declared.inode.Kind.{Kind}
use Rattle.inode.specs.declared.inode.Kind.TheVariants.{Free, File, Dir}
use Rattle.tree_law.specs.Names.{Names}
use Rattle.tree_law.specs.Tree.{Tree, empty_file, no_descriptors}
use Rattle.tree_law.specs.declared.node.Node.{Node}
use Rattle.tree_law.specs.declared.node.Node.TheVariants.{Directory}
use Rattle.volume.specs.Volume.{Slots, Volume}

-- the names of a directory's slots
unfoldable pub names_of : Slots → Names
names_of [] = map.empty
names_of (None ∷ slots) = names_of slots
names_of (Some e ∷ slots) = map.insert (names_of slots) e.name e.ino

abbrev pub shown_as : Kind → Bool → Slots → Option Node
shown_as Free named slots = None
shown_as File true slots = Some empty_file
shown_as File false slots = None
shown_as Dir named slots = Some (Directory (names_of slots))

-- the nodes of inodes, with the slots of each
unfoldable pub shown_nodes : List Inode → List Slots → List (Option Node)
shown_nodes [] directories = []
shown_nodes (inode ∷ inodes) [] = []
shown_nodes (inode ∷ inodes) (slots ∷ directories) = shown_as inode.kind inode.named slots ∷ shown_nodes inodes directories

abbrev pub shown : Volume → Tree
shown v = record {
  nodes = shown_nodes v.inodes v.directories;
  tables = replicate limits.clients no_descriptors;
  purged = replicate limits.clients false;
}
