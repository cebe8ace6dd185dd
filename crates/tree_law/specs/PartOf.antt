-- When a part is one of a tree: what it has of the tree's directories and files is as it is in the tree.
use Rattle.std.specs.Prelude.{◌≡◌, ℕ, List, map, All, Contains, Option, Some, None, IsSome, length, ⊤}
use Rattle.std.specs.FinMap as finite
use Rattle.cal_base.specs.declared.directory_entry.DirectoryEntry.{DirectoryEntry}
use Rattle.cal_base.specs.declared.directory_entry.EntryKind.{EntryKind}
use Rattle.cal_base.specs.declared.directory_entry.EntryKind.TheVariants.{File as IsFile, Directory as IsDirectory}
use Rattle.cal_base.specs.declared.identity.ClientId.{ClientId}
use Rattle.cal_base.specs.declared.identity.Ino.{Ino}
use Rattle.tree_law.specs.Names.{Names}
use Rattle.tree_law.specs.Tree.{Tree, root, node_at, table_of, descriptor_at}
use Rattle.tree_law.specs.Needs.{Need, names_read, needs}
use Rattle.tree_law.specs.Part.{Part, needs_in}
use Rattle.tree_law.specs.declared.call.Call.{Call}
use Rattle.tree_law.specs.declared.descriptor.Descriptor.{Descriptor}
use Rattle.tree_law.specs.declared.node.Node.{Node}
use Rattle.tree_law.specs.declared.node.Node.TheVariants.{Directory, Regular}

abbrev pub kind_of : Option Node → Option EntryKind
kind_of (Some (Directory names)) = Some IsDirectory
kind_of (Some (Regular file)) = Some IsFile
kind_of None = None

-- the inode is of this kind in the tree
abbrev pub IsKind : Tree → Ino → EntryKind → Type 0
IsKind tree ino kind = kind_of (node_at tree ino) ≡ Some kind

-- entries, sorted by name, are those of a directory, each with what its inode is
pub record IsListing (tree : Tree) (names : Names) (entries : List DirectoryEntry) : Type 0 where
  pub same : map (λ entry. (entry.name, entry.ino)) entries ≡ finite.entries names
  pub kinds : All (λ entry. IsKind tree entry.ino entry.kind) entries

-- entries, bytes and sizes are those of what stands at a number, if it is of the kind to have them
abbrev pub HasEntries : Tree → Option Node → List DirectoryEntry → Type 0
HasEntries tree (Some (Directory names)) entries = IsListing tree names entries
HasEntries tree (Some (Regular file)) entries = ⊤
HasEntries tree None entries = ⊤

abbrev pub HasContents : Option Node → List ℕ → Type 0
HasContents (Some (Directory names)) bytes = ⊤
HasContents (Some (Regular file)) bytes = file.contents ≡ bytes
HasContents None bytes = ⊤

abbrev pub HasSize : Option Node → ℕ → Type 0
HasSize (Some (Directory names)) size = ⊤
HasSize (Some (Regular file)) size = length file.contents ≡ size
HasSize None size = ⊤

-- a part of the tree as this client has it
pub record IsPartOf (tree : Tree) (client : ClientId) (part : Part) : Type 0 where
  pub root_is : IsKind tree root IsDirectory
  pub entries : (ino : Ino) (entries : List DirectoryEntry) → part.entries ino ≡ Some entries → HasEntries tree (node_at tree ino) entries
  pub contents : (ino : Ino) (bytes : List ℕ) → part.contents ino ≡ Some bytes → HasContents (node_at tree ino) bytes
  pub size : (ino : Ino) (size : ℕ) → part.size ino ≡ Some size → HasSize (node_at tree ino) size
  pub table : part.table ≡ table_of tree client
  pub open_files : (fd : ℕ) (descriptor : Descriptor) → descriptor_at tree client fd ≡ Some descriptor → IsKind tree descriptor.ino IsFile

-- the part has what a need is of: the entries for Names, the bytes for Data, the size for Attr
pub record HasNeed (part : Part) (need : Need) : Type 0 where
  pub entries : need.1 ≡ 1 → IsSome (part.entries need.0)
  pub bytes : need.1 ≡ 2 → IsSome (part.contents need.0)
  pub size : need.1 ≡ 3 → IsSome (part.size need.0)

-- the part has all that a call needs, as far as it shows that
abbrev pub HasNeeds : Part → Call → Type 0
HasNeeds part call = All (HasNeed part) (needs_in part call)

-- the part has the entries that a need of Names is of
abbrev pub HasNames : Part → Need → Type 0
HasNames part need = need.1 ≡ 1 → IsSome (part.entries need.0)

-- the part has the entries of each directory of which a call needs Names, as far as it shows that
abbrev pub HasAllNames : Part → Call → Type 0
HasAllNames part call = All (HasNames part) (needs_in part call)

-- a call needs Names of a directory whose entries the part lacks; the part shows that need
pub record LacksNames (tree : Tree) (client : ClientId) (part : Part) (call : Call) : Type 0 where
  pub directory : Ino
  pub shown : Contains (needs_in part call) (names_read directory)
  pub needed : Contains (needs tree client call) (names_read directory)
  pub lacks : part.entries directory ≡ None
