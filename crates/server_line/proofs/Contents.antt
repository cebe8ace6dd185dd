-- What comes with a Grant.
use Rattle.std.proofs.Common.{◌≡◌, ◌≤◌, ◌/◌, ◌∷◌, ◌||◌, ◌⊎◌, inl, inr, [], ℕ, zero, suc, nat_eq, List, Bool, true, false, not, Option, Some, None, length, map, refl, sym, ap, subst, ◌∙◌, true≢false, arith, rules}
use Rattle.std.specs.Prelude.{is_some, slice_index}
use Rattle.std.specs.List.{All, list_any}
use Rattle.std.specs.FinMap as finite
use Rattle.std.proofs.lemmas.List.Elements.{All-cons, All-head, All-nil, All-tail}
use Rattle.cal_base.specs.declared.directory_entry.DirectoryEntry.{DirectoryEntry}
use Rattle.cal_base.specs.declared.identity.Ino.{Ino}
use Rattle.image.specs.FileRead.{AreFirstBytes}
use Rattle.image.specs.Listed.{entry_of, kind_if, listing}
use Rattle.image.specs.Mount.{Told}
use Rattle.inode.specs.Inode.{AreHolesFrom, IsInode, KindAllows}
use Rattle.inode.specs.declared.inode.Inode.{Inode}
use Rattle.inode.specs.declared.inode.Kind.{Kind}
use Rattle.inode.specs.declared.inode.Kind.TheVariants.{Free, File, Dir}
use Rattle.journal.specs.Layout.{outside}
use Rattle.shared_disk.specs.Disk.{Disk}
use Rattle.shared_disk.specs.Sectors.{written}
use Rattle.tree_law.specs.PartOf.{IsKind, kind_of}
use Rattle.tree_law.specs.Rename.{is_directory}
use Rattle.tree_law.specs.Tree.{Tree, node_at}
use Rattle.tree_law.specs.declared.node.Node.{Node}
use Rattle.tree_law.specs.declared.node.Node.TheVariants.{Directory, Regular}
use Rattle.volume.specs.Volume.{Volume, byte_behind, file_byte, slots_of}
use Rattle.volume_edit.specs.Edit.{IsVolume, inode_at}
use Rattle.volume_plan.specs.Shown.{names_of, shown, shown_as}
use Rattle.volume_plan.proofs.ShownNodes.{shown_at}
use Rattle.cluster_law.specs.Granting.{AreBytes, AreEntriesOf}
use Rattle.server_line.specs.Known.{TellsOwn}
use Rattle.volume_names.specs.Named.{AreNamed}

-- pointers that are all holes
abbrev pub any-block : List ℕ → Bool
any-block blocks = list_any (λ pointer. not (nat_eq pointer 0)) blocks

holes-none : (blocks : List ℕ) → AreHolesFrom 0 blocks → any-block blocks ≡ false
holes-none [] holes = refl
holes-none (b ∷ bs) holes = by b (holes 0 (omega arith)) (holes-none bs (λ place le. holes (suc place) (omega arith)))
  where
    by : (b : ℕ) → b ≡ 0 → any-block bs ≡ false → any-block (b ∷ bs) ≡ false
    by b e rest = ap (λ (n : ℕ). any-block (n ∷ bs)) e ∙ rest

none-holes : (blocks : List ℕ) → any-block blocks ≡ false → AreHolesFrom 0 blocks
none-holes [] e place le = refl
none-holes (b ∷ bs) e place le = at place (both (nat_eq b 0) e).0 (none-holes bs (both (nat_eq b 0) e).1)
  where
    both : (c : Bool) → (not c || any-block bs) ≡ false → (c ≡ true) × (any-block bs ≡ false)
    both true g = (refl, g)
    both false g = absurd (true≢false g)

    at : (place : ℕ) → nat_eq b 0 ≡ true → AreHolesFrom 0 bs → slice_index (b ∷ bs) place ≡ 0
    at zero f more = search rules
    at (suc p) f more = more p (omega arith)

-- under another key all is holes
pub read-own : (blocks : List ℕ) (disk : Disk) (view : ℕ) → AreHolesFrom 0 blocks ⊎ (disk.key ≡ view) → any-block blocks ≡ true → disk.key ≡ view
read-own blocks disk view (inr own) some = own
read-own blocks disk view (inl holes) some = absurd (true≢false (sym some ∙ holes-none blocks holes))

pub has-block : (blocks : List ℕ) → (AreHolesFrom 0 blocks → ⊥) → any-block blocks ≡ true
has-block blocks none = by (any-block blocks) refl
  where
    by : (b : Bool) → any-block blocks ≡ b → b ≡ true
    by true e = refl
    by false e = absurd (none (none-holes blocks e))

-- the bytes that were read are those of the file in the server's sectors
pub bytes-are : (own now : List (List ℕ)) (view : ℕ) (disk : Disk) (writes all : List (ℕ × List ℕ)) (inode : Inode) (bytes : List ℕ) → TellsOwn own view disk → writes ≡ all → now ≡ written own all → AreHolesFrom 0 inode.blocks ⊎ (disk.key ≡ view)
    → length bytes ≡ inode.size → Told disk (λ sectors. AreFirstBytes (written (outside sectors) writes) inode bytes) → AreBytes now inode bytes
bytes-are own now view disk writes all inode bytes tells same now-is key size volume = subst (λ (ss : List (List ℕ)). AreBytes ss inode bytes) (sym now-is) (record {
  size = size;
  each = λ i within. volume tells.sectors tells.told i (let long : length bytes ≡ inode.size = size in omega arith) ∙ by key i;
})
  where
    by : AreHolesFrom 0 inode.blocks ⊎ (disk.key ≡ view) → (i : ℕ) → file_byte (written (outside tells.sectors) writes) inode i ≡ file_byte (written own all) inode i
    by (inr mine) i = λ j. file_byte (written (sym (tells.same mine) j) (same j)) inode i
    by (inl holes) i =
        let hole = holes (i / 4096) (omega arith) in
        ap (λ (p : ℕ). byte_behind (written (outside tells.sectors) writes) p i) hole ∙ sym (ap (λ (p : ℕ). byte_behind (written own all) p i) hole)

-- an inode's size is that of a file at most
pub inode-size : (inode : Inode) → IsInode inode → inode.size ≤ 262144
inode-size inode is = by inode.kind is.allowed
  where
    by : (kind : Kind) → KindAllows kind inode → inode.size ≤ 262144
    by Free a = let none : inode.size ≡ 0 = a.size in omega arith
    by File a = a.size
    by Dir a = let few : inode.size ≤ 32768 = a.size in omega arith

-- what is listed of a directory is what it has
listed-same : (tree : Tree) (pairs : List (List ℕ × Ino)) → map (λ (e : DirectoryEntry). (e.name, e.ino)) (map (entry_of tree) pairs) ≡ pairs
listed-same tree [] = refl
listed-same tree (pair ∷ pairs) = ap (λ (l : List (List ℕ × Ino)). pair ∷ l) (listed-same tree pairs)

kind-listed : (o : Option Node) → is_some o ≡ true → kind_of o ≡ Some (kind_if (is_directory o))
kind-listed None e = absurd (true≢false (sym e))
kind-listed (Some (Directory names)) e = refl
kind-listed (Some (Regular file)) e = refl

kinds-listed : (tree : Tree) (pairs : List (List ℕ × Ino)) → All (λ pair. is_some (node_at tree pair.1) ≡ true) pairs → All (λ (e : DirectoryEntry). IsKind tree e.ino e.kind) (map (entry_of tree) pairs)
kinds-listed tree [] all = All-nil (λ (e : DirectoryEntry). IsKind tree e.ino e.kind)
kinds-listed tree (pair ∷ pairs) all =
    All-cons (λ (e : DirectoryEntry). IsKind tree e.ino e.kind) (entry_of tree pair) (map (entry_of tree) pairs) (kind-listed (node_at tree pair.1) (All-head (λ pair. is_some (node_at tree pair.1) ≡ true) pair pairs all))
    (kinds-listed tree pairs (All-tail (λ pair. is_some (node_at tree pair.1) ≡ true) pair pairs all))

pub entries-are : (v : Volume) (ino : Ino) (entries : List DirectoryEntry) → IsVolume v → AreNamed v → is_directory (node_at (shown v) ino) ≡ true → entries ≡ listing v ino.0 → AreEntriesOf (shown v) (node_at (shown v) ino) entries
entries-are v ino entries volume named dir is =
    subst (λ (es : List DirectoryEntry). AreEntriesOf (shown v) (node_at (shown v) ino) es) (sym is)
    (subst (λ (o : Option Node). AreEntriesOf (shown v) o (listing v ino.0)) (sym there) (record {
      same = listed-same (shown v) (finite.entries (names_of (slots_of v ino.0)));
      kinds = kinds-listed (shown v) (finite.entries (names_of (slots_of v ino.0))) (named.stand ino (names_of (slots_of v ino.0)) there);
    }))
  where
    by : (kind : Kind) (flag : Bool) → is_directory (shown_as kind flag (slots_of v ino.0)) ≡ true → shown_as kind flag (slots_of v ino.0) ≡ Some (Directory (names_of (slots_of v ino.0)))
    by Free flag e = absurd (true≢false (sym e))
    by File true e = absurd (true≢false (sym e))
    by File false e = absurd (true≢false (sym e))
    by Dir flag e = refl

    there : node_at (shown v) ino ≡ Some (Directory (names_of (slots_of v ino.0)))
    there = shown_at v ino.0 volume ∙ by (inode_at v.inodes ino.0).kind (inode_at v.inodes ino.0).named (ap is_directory (sym (shown_at v ino.0 volume)) ∙ dir)
