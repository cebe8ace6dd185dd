-- When an edit keeps the names of a volume.
use Rattle.std.proofs.Common.{◌≡◌, ◌≢◌, ℕ, zero, suc, List, [], ◌∷◌, Option, Some, None, IfSome, refl, sym, ap, subst, ◌∙◌}
use Rattle.std.specs.Prelude.{slice_set}
use Rattle.directory.specs.declared.entry.DirEntry.{DirEntry}
use Rattle.inode.specs.declared.inode.Inode.{Inode}
use Rattle.volume.specs.Volume.{Volume}
use Rattle.volume_edit.specs.Edit.{IsVolume, edited, grown_inode, inode_at, with_growth, with_inode}
use Rattle.volume_edit.specs.declared.edit.Edit.{Edit}
use Rattle.volume_edit.specs.declared.edit.Entering.{Entering}
use Rattle.volume_edit.specs.declared.edit.Growth.{Growth}
use Rattle.volume_edit.specs.declared.edit.InodeEdit.{InodeEdit}
use Rattle.volume_edit.proofs.Directories.{length-directories}
use Rattle.volume_edit.proofs.Inodes.{length-inodes, some_has}
use Rattle.volume_names.specs.Named.{AreNamed}
use Rattle.volume_names.proofs.Altered.{Origin, Stood, came, origin, stood}
use Rattle.volume_names.proofs.Slots.{IsSeen, StandInSlots, names_by_slots}

-- ---- inodes that are still shown

set_seen : (xs : List Inode) (i m : ℕ) (y : Inode) → (i ≡ m → IsSeen y) → IsSeen (inode_at xs m) → IsSeen (inode_at (slice_set xs i y) m)
set_seen [] i m y put seen = seen
set_seen (x ∷ xs) zero zero y put seen = put refl
set_seen (x ∷ xs) zero (suc m) y put seen = seen
set_seen (x ∷ xs) (suc i) zero y put seen = seen
set_seen (x ∷ xs) (suc i) (suc m) y put seen = set_seen xs i m y (λ same. put (ap suc same)) seen

pub grown_seen : (xs : List Inode) (o : Option Growth) (m : ℕ) → IsSeen (inode_at xs m) → IsSeen (inode_at (with_growth xs o) m)
grown_seen xs None m seen = seen
grown_seen xs (Some g) m seen = set_seen xs g.directory.0 m (grown_inode (inode_at xs g.directory.0) g.block) (λ same. subst (λ (n : ℕ). IsSeen (inode_at xs n)) (sym same) seen) seen

put_seen : (xs : List Inode) (o : Option InodeEdit) (m : ℕ) → IfSome o (λ i. i.ino.0 ≡ m → IsSeen i.inode) → IsSeen (inode_at xs m) → IsSeen (inode_at (with_inode xs o) m)
put_seen xs None m put seen = seen
put_seen xs (Some i) m put seen = set_seen xs i.ino.0 m i.inode put seen

-- an inode is still shown, unless it is put as one that isn't
pub seen_then : (v : Volume) (e : Edit) (m : ℕ) → IfSome e.inode (λ i. i.ino.0 ≡ m → IsSeen i.inode) → IsSeen (inode_at v.inodes m) → IsSeen (inode_at (edited v e).inodes m)
seen_then v e m put seen = grown_seen (with_inode v.inodes e.inode) e.growth m (put_seen v.inodes e.inode m put seen)

-- ---- entries that still stand for something

-- an entry comes for an inode that is shown then, and for which no other entry stays
pub record Comes (v : Volume) (e : Edit) (n : Entering) : Type 0 where
  pub seen : IsSeen (inode_at (edited v e).inodes n.entry.ino.0)
  pub unrooted : n.entry.ino.0 ≢ 0
  pub alone : (k p : ℕ) (x : DirEntry) → Stood v e k p x → n.entry.ino.0 ≢ x.ino.0

-- and what other entries stand for is shown then
pub record KeepsEntries (v : Volume) (e : Edit) : Type 0 where
  pub comes : IfSome e.entering (Comes v e)
  pub stays : (k p : ℕ) (x : DirEntry) → Stood v e k p x → IsSeen (inode_at v.inodes x.ino.0) → IsSeen (inode_at (edited v e).inodes x.ino.0)

module _ (v : Volume) (e : Edit) (all : StandInSlots v) (keeps : KeepsEntries v e) where
  has : (n : Entering) → e.entering ≡ Some n → Comes v e n
  has n is = some_has (Comes v e) e.entering n keeps.comes is

  stand_by : (k p : ℕ) (x : DirEntry) → Origin v e k p x → IsSeen (inode_at (edited v e).inodes x.ino.0)
  stand_by k p x (came n is here same) = subst (λ (y : DirEntry). IsSeen (inode_at (edited v e).inodes y.ino.0)) same (has n is).seen
  stand_by k p x (stood s) = keeps.stays k p x s (all.stand k p x s.there)

  unrooted_by : (k p : ℕ) (x : DirEntry) → Origin v e k p x → x.ino.0 ≢ 0
  unrooted_by k p x (came n is here same) = subst (λ (y : DirEntry). y.ino.0 ≢ 0) same (has n is).unrooted
  unrooted_by k p x (stood s) = all.unrooted k p x s.there

  one_entry : (n m : Entering) → e.entering ≡ Some n → e.entering ≡ Some m → n ≡ m
  one_entry n m is and = (let both : Some n ≡ Some m = sym is ∙ and in cc)

  once_by : (j k p q : ℕ) (x y : DirEntry) → Origin v e j p x → Origin v e k q y → x.ino.0 ≡ y.ino.0 → (j ≡ k) × (x.name ≡ y.name)
  once_by j k p q x y (came n is here this) (came m and there that) same =
      let one = one_entry n m is and in
      (sym here ∙ ap (λ (o : Entering). o.directory.0) one ∙ there, ap (λ (z : DirEntry). z.name) (sym this ∙ ap (λ (o : Entering). o.entry) one ∙ that))
  once_by j k p q x y (came n is here this) (stood s) same = absurd ((has n is).alone k q y s (ap (λ (z : DirEntry). z.ino.0) this ∙ same))
  once_by j k p q x y (stood s) (came m and there that) same = absurd ((has m and).alone j p x s (ap (λ (z : DirEntry). z.ino.0) that ∙ sym same))
  once_by j k p q x y (stood s) (stood t) same = all.once j k p q x y s.there t.there same

  slots_kept : StandInSlots (edited v e)
  slots_kept = record {
    stand = λ k p x at. stand_by k p x (origin v e k p x at);
    once = λ j k p q x y at_x at_y same. once_by j k p q x y (origin v e j p x at_x) (origin v e k q y at_y) same;
    unrooted = λ k p x at. unrooted_by k p x (origin v e k p x at);
  }

-- an edit that keeps what the entries stand for keeps the names
pub names_kept : (v : Volume) (e : Edit) → IsVolume v → StandInSlots v → KeepsEntries v e → AreNamed (edited v e)
names_kept v e is all keeps =
    names_by_slots (edited v e) (length-inodes v e ∙ is.inode_count ∙ sym is.directory_count ∙ sym (length-directories v e)) (slots_kept v e all keeps)
