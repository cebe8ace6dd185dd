-- The blocks of a directory, put one behind the other.
use Rattle.std.proofs.lemmas.Bool.{cases_eq}
use Rattle.std.proofs.Common.{◌≡◌, ◌≢◌, ◌↔◌, ◌<◌, ◌+◌, ◌*◌, ◌/◌, Bool, true, false, IsTrue, inl, inr, ℕ, suc, List, [], length, slice_index, sym, subst, arith}
use Rattle.directory.specs.Directory.{Continues, IsDirectory}
use Rattle.inode.specs.Inode.{IsDirInode, IsInode, KindAllows, SpellsInode}
use Rattle.inode.specs.declared.inode.Inode.{Inode}
use Rattle.inode.specs.declared.inode.Kind.{Kind}
use Rattle.inode.specs.declared.inode.Kind.TheVariants.{Dir}
use Rattle.journal.specs.Layout.{sector}
use Rattle.volume.specs.Volume.{Slots, pointed}
use Rattle.volume_edit.specs.Edit.{HasSlots}
use Rattle.image.specs.Damage.{BreaksOff, LacksBlock, Loads}

pub loads_none : (s : List (List ℕ)) (inode : Inode) (slots : Slots) → slots ≡ [] → Loads s inode 0 slots
unfolding Loads
loads_none s inode slots none = none

pub loads_next : (s : List (List ℕ)) (inode : Inode) (count next pointer : ℕ) (a b : Slots) → next ≡ count + 1 → pointer ≡ slice_index inode.blocks count → Loads s inode count a
    → Continues a (pointed s pointer) b → Loads s inode next b
unfolding Loads
loads_next s inode count next pointer a b one there l k =
    let more : Loads s inode (suc count) b = record { before = a; loaded = l; continues = subst (λ (p : ℕ). Continues a (pointed s p) b) there k } in
    let same : suc count ≡ next = omega arith in
    subst (λ (n : ℕ). Loads s inode n b) same more

pub is_directory : (inode : Inode) → IsInode inode → inode.kind ≡ Dir → IsDirInode inode
is_directory inode is kind = subst (λ (k : Kind). KindAllows k inode) kind is.allowed

pub has_sized : (inode : Inode) (slots : Slots) → inode.kind ≡ Dir → IsDirectory slots → 4096 * length slots ≡ 128 * inode.size → HasSlots inode.kind inode slots
has_sized inode slots kind d size = subst (λ (k : Kind). HasSlots k inode slots) (sym kind) (record { directory = d; count = size })

-- a block that breaks a directory off is outside its grammar
pub breaks : (s : List (List ℕ)) (at number count pointer : ℕ) (inode : Inode) (before : Slots) → SpellsInode (sector s (36 + number)) inode → inode.kind ≡ Dir
    → count < inode.size / 4096 → pointer ≡ slice_index inode.blocks count → Loads s inode count before → BreaksOff before pointer s at → LacksBlock number s at
breaks s at number count pointer inode before spelled kind within there loaded off = record {
  inode = inode;
  spelled = spelled;
  kind = kind;
  block = count;
  within = within;
  before = before;
  loaded = loaded;
  off = subst (λ (p : ℕ). BreaksOff before p s at) there off;
}

-- an inode that may not stand is the root's, and no directory
pub is_no_root : (b : Bool) (number : ℕ) (inode : Inode) → (IsTrue b ↔ (number ≡ 0 → inode.kind ≡ Dir)) → b ≡ false → (number ≡ 0) × (inode.kind ≢ Dir)
is_no_root b number inode tests off = elim (cases_eq number 0) [
  | inl first ↦ (first, λ kind. (let yes : b ≡ true = tests.1 (λ same. kind) in cc))
  | inr other ↦ (let yes : b ≡ true = tests.1 (λ same. absurd (other same)) in cc)
]
