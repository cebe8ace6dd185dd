-- What the image shows is what the volume shows.
use Rattle.std.proofs.Common.{◌≡◌, ◌≤◌, ◌<◌, ◌∙◌, ℕ, zero, suc, Bool, true, false, List, [], ◌∷◌, Option, Some, None, length, refl, sym, ap, arith, get_or}
use Rattle.std.specs.Prelude.{IfNone, IfSome}
use Rattle.std.specs.FinMap as map
use Rattle.cal_base.specs.declared.identity.Ino.{Ino}
use Rattle.directory.specs.Directory.{IsAbsent, Names as NamesInode, IsDirectory, entry_count}
use Rattle.inode.specs.declared.inode.Inode.{Inode}
use Rattle.inode.specs.declared.inode.Kind.{Kind}
use Rattle.inode.specs.declared.inode.Kind.TheVariants.{Dir, File, Free}
use Rattle.tree_law.specs.Tree.{node_at}
use Rattle.tree_law.specs.declared.node.Node.TheVariants.{Directory}
use Rattle.volume.specs.Volume.{Slots, Volume, slots_of}
use Rattle.volume_edit.specs.Edit.{IsVolume, free_inode}
use Rattle.volume_plan.specs.Shown.{names_of, shown, shown_as, shown_nodes}
use Rattle.volume_plan.proofs.NamesOf.{absent_got, names_got, names_of-len}
use Rattle.volume_plan.proofs.Similar.{shown_at}
use Rattle.image.proofs.AfterEdit.{read_at}

-- above 511 nothing is shown
shown_past : (inodes : List Inode) (directories : List Slots) (number : ℕ) → length inodes ≤ number → get_or (shown_nodes inodes directories) number None ≡ None
unfolding shown_nodes
shown_past [] directories number past = refl
shown_past (inode ∷ inodes) [] number past = refl
shown_past (inode ∷ inodes) (slots ∷ directories) zero past = absurd (omega arith)
shown_past (inode ∷ inodes) (slots ∷ directories) (suc number) past = shown_past inodes directories number (omega arith)

pub none_shown : (v : Volume) (ino : Ino) → IsVolume v → 512 ≤ ino.0 → node_at (shown v) ino ≡ None
none_shown v ino h past = let count = h.inode_count in shown_past v.inodes v.directories ino.0 (omega arith)

-- a name that is found is in the map, and one that isn't is not
pub found_named : (slots : Slots) (name : List ℕ) (ino : Ino) → IsDirectory slots → NamesInode slots name ino.0 → Some ino ≡ map.get (names_of slots) name
found_named slots name ino is names = sym (names_got slots name ino is.distinct names)

pub absent_named : (slots : Slots) (name : List ℕ) → IsAbsent slots name → None ≡ map.get (names_of slots) name
absent_named slots name absent = sym (absent_got slots name absent)

pub counted_names : (slots : Slots) (count : ℕ) → IsDirectory slots → count ≡ entry_count slots → count ≡ map.len (names_of slots)
counted_names slots count is counted = counted ∙ sym (names_of-len slots is.distinct)

-- what is found for a name is what the map has
pub named_is : (slots : Slots) (asked name : List ℕ) (found : Option Ino) → asked ≡ name → IsDirectory slots → IfSome found (λ (ino : Ino). NamesInode slots asked ino.0) → IfNone found (IsAbsent slots asked)
    → found ≡ map.get (names_of slots) name
named_is slots asked name (Some ino) same is some none = found_named slots asked ino is some ∙ ap (map.get (names_of slots)) same
named_is slots asked name None same is some none = absent_named slots asked none ∙ ap (map.get (names_of slots)) same

-- an inode and its slots, as they were read, are shown
shown_read : (v w : Volume) (ino : Ino) (inode : Inode) → IsVolume v → v ≡ w → ino.0 < length v.inodes → inode ≡ get_or v.inodes ino.0 inode
    → shown_as inode.kind inode.named (slots_of v ino.0) ≡ node_at (shown w) ino
shown_read v w ino inode h same low read =
    let count = h.inode_count in
    let at = read_at v.inodes ino.0 inode free_inode low read in
    ap (λ (i : Inode). shown_as i.kind i.named (slots_of v ino.0)) at ∙ sym (shown_at v h ino.0 (omega arith)) ∙ ap (λ (u : Volume). node_at (shown u) ino) same

pub directory_shown : (v w : Volume) (ino : Ino) (inode : Inode) (slots : Slots) → IsVolume v → v ≡ w → ino.0 < length v.inodes → inode ≡ get_or v.inodes ino.0 inode → inode.kind ≡ Dir
    → slots ≡ get_or v.directories ino.0 slots → Some (Directory (names_of slots)) ≡ node_at (shown w) ino
directory_shown v w ino inode slots h same low read kind there =
    let count = h.inode_count in
    let directories = h.directory_count in
    ap (λ (s : Slots). Some (Directory (names_of s))) (read_at v.directories ino.0 slots [] (omega arith) there)
    ∙ ap (λ (k : Kind). shown_as k inode.named (slots_of v ino.0)) (sym kind) ∙ shown_read v w ino inode h same low read

pub free_shown : (v w : Volume) (ino : Ino) (inode : Inode) → IsVolume v → v ≡ w → ino.0 < length v.inodes → inode ≡ get_or v.inodes ino.0 inode → inode.kind ≡ Free → None ≡ node_at (shown w) ino
free_shown v w ino inode h same low read kind = ap (λ (k : Kind). shown_as k inode.named (slots_of v ino.0)) (sym kind) ∙ shown_read v w ino inode h same low read

file_any : (named : Bool) (a b : Slots) → shown_as File named a ≡ shown_as File named b
file_any true a b = refl
file_any false a b = refl

pub file_shown : (v w : Volume) (ino : Ino) (inode again : Inode) → IsVolume v → v ≡ w → ino.0 < length v.inodes → inode ≡ get_or v.inodes ino.0 inode → again ≡ get_or v.inodes ino.0 again → inode.kind ≡ File
    → shown_as File again.named [] ≡ node_at (shown w) ino
file_shown v w ino inode again h same low read once kind =
    let at = read_at v.inodes ino.0 inode free_inode low read in
    let here = read_at v.inodes ino.0 again free_inode low once in
    ap (λ (i : Inode). shown_as File i.named []) (here ∙ sym at)
    ∙ file_any inode.named [] (slots_of v ino.0)
    ∙ ap (λ (k : Kind). shown_as k inode.named (slots_of v ino.0)) (sym kind) ∙ shown_read v w ino inode h same low read

pub past_shown : (v w : Volume) (ino : Ino) → IsVolume v → v ≡ w → length v.inodes ≤ ino.0 → None ≡ node_at (shown w) ino
past_shown v w ino h same past = let count = h.inode_count in sym (none_shown v ino h (omega arith)) ∙ ap (λ (u : Volume). node_at (shown u) ino) same
