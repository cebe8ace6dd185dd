-- The reaping of an orphan that the tree has no more: the sectors stand for the history as it was.
use Rattle.std.proofs.Common.{◌≡◌, ◌≢◌, ◌<◌, ◌≤◌, ◌+◌, ℕ, zero, suc, List, length, replicate, slice_get, slice_index, Option, Some, None, inl, inr, refl, sym, ap, subst, ◌∙◌, arith, get_or}
use Rattle.std.specs.List.{slice_set}
use Rattle.std.proofs.lemmas.Bool.{cases_eq}
use Rattle.std.proofs.lemmas.Option.{get_or_from_slice_get, slice_get_within}
use Rattle.cal_base.specs.declared.identity.Ino.{Ino}
use Rattle.inode.specs.declared.inode.Inode.{Inode}
use Rattle.inode.specs.declared.inode.Kind.TheVariants.{Dir, File}
use Rattle.inode.proofs.InodeLemmas.{small_zeros}
use Rattle.journal.specs.Layout.{sector}
use Rattle.tree_law.specs.Legal.{tree_of}
use Rattle.tree_law.specs.Tree.{node_at}
use Rattle.tree_law.specs.declared.entry.Entry.{Entry}
use Rattle.tree_law.specs.declared.node.Node.{Node}
use Rattle.volume.proofs.First.{free_is}
use Rattle.volume.specs.Stands.{StandsForNode}
use Rattle.volume.specs.Volume.{Volume}
use Rattle.volume_edit.proofs.Marked.{get_set_other, get_set_same}
use Rattle.volume_edit.proofs.InodePointers.{same_there}
use Rattle.volume_edit.specs.Blocks.{TakesFree}
use Rattle.volume_edit.specs.Edit.{IsEdit, IsInodeEdit, IsVolume, edited, free_inode, inode_at}
use Rattle.volume_plan.proofs.LowHomes.{stands_elsewhere}
use Rattle.volume_plan.specs.Leads.{Mounted}
use Rattle.volume_plan.specs.Plans.{reap_of}

-- a file isn't the root
pub from_one : (v : Volume) (number : ℕ) (inode : Inode) → IsVolume v → slice_get v.inodes number ≡ Some inode → inode.kind ≡ File → 1 ≤ number
from_one v zero inode is there file =
    let root : (inode_at v.inodes 0).kind ≡ Dir = is.root in
    let same : inode_at v.inodes 0 ≡ inode = get_or_from_slice_get v.inodes 0 inode free_inode there in
    let both : Dir ≡ File = sym root ∙ ap (λ (i : Inode). i.kind) same ∙ file in
    absurd (cc)
from_one v (suc n) inode is there file = omega arith

pub names_none : (place block : ℕ) → slice_index (replicate {A = ℕ} 64 0) place ≢ block + 1
names_none place block e = (let z : get_or (replicate {A = ℕ} 64 0) place 0 ≡ 0 = small_zeros 64 place in omega (arith, z, e))

pub reap_inode : (v : Volume) (ino : Ino) (inode : Inode) → IsVolume v → slice_get v.inodes ino.0 ≡ Some inode → inode.kind ≡ File → IsInodeEdit (record { ino = ino; inode = free_inode })
reap_inode v ino inode is there file = record {
  from_one = from_one v ino.0 inode is there file;
  to_511 = (let h = slice_get_within v.inodes ino.0 inode there in let l = is.inode_count in omega arith);
  inode = free_is;
  empty = refl;
}

pub reap_edits : (v : Volume) (ino : Ino) (inode : Inode) → IsVolume v → slice_get v.inodes ino.0 ≡ Some inode → inode.kind ≡ File → IsEdit v (reap_of ino)
reap_edits v ino inode is there file = record {
  some = inr refl;
  slot = tt;
  inode = reap_inode v ino inode is there file;
  growth = tt;
  leaving = tt;
  entering = tt;
}

pub reap_takes : (v : Volume) (ino : Ino) → TakesFree v (reap_of ino)
reap_takes v ino = record {
  inode = record {
    known = λ place block names. absurd (names_none place block names);
    apart = λ place other block names also. absurd (names_none place block names);
  };
  growth = tt;
}

-- the inodes stand for the tree as it was, where the data blocks are the same
pub reap_nodes : (sectors others : List (List ℕ)) (v : Volume) (history : List Entry) (ino : Ino) → Mounted sectors v history → ino.0 < length v.inodes → node_at (tree_of history) ino ≡ None
    → ((j : ℕ) → 548 ≤ j → sector others j ≡ sector sectors j)
    → (number : ℕ) (inode : Inode) → slice_get (edited v (reap_of ino)).inodes number ≡ Some inode → StandsForNode others (edited v (reap_of ino)) (tree_of history) number inode (node_at (tree_of history) (record { 0 = number }))
reap_nodes sectors others v history ino m within gone same number inode there = elim (cases_eq number ino.0) [
  | inl here ↦ (let one : free_inode ≡ inode = same_there (slice_set v.inodes ino.0 free_inode) ino.0 free_inode inode (get_set_same v.inodes ino.0 free_inode within) (subst (λ (n : ℕ). slice_get (slice_set v.inodes ino.0 free_inode) n ≡ Some inode) here there) in
      subst (λ (i : Inode). StandsForNode others (edited v (reap_of ino)) (tree_of history) number i (node_at (tree_of history) (record { 0 = number }))) one
      (subst (λ (node : Option Node). StandsForNode others (edited v (reap_of ino)) (tree_of history) number free_inode node) (sym (ap (λ (n : ℕ). node_at (tree_of history) (record { 0 = n })) here ∙ gone)) (inl refl)))
  | inr apart ↦ stands_elsewhere sectors others v (edited v (reap_of ino)) (tree_of history) (tree_of history) ino.0 number inode (node_at (tree_of history) (record { 0 = number })) apart refl refl same
      (m.stands.nodes number inode (sym (get_set_other v.inodes ino.0 number free_inode apart) ∙ there))
]
