-- The inode and the slots at each number of an edited volume, and what stands there as before.
use Rattle.std.proofs.Common.{◌≡◌, ◌<◌, ◌==◌, ◌++◌, ℕ, Bool, false, List, [], length, get_or, replicate, Option, Some, None, refl, sym, ap, subst, ◌∙◌, arith}
use Rattle.cal_base.specs.Limits as limits
use Rattle.std.proofs.lemmas.Bool.{eqb-false}
use Rattle.std.proofs.lemmas.List.{get_or-set_other}
use Rattle.std.proofs.lemmas.Option.{get_or_from_slice_get, slice_get_within}
use Rattle.std.specs.List.{slice_set}
use Rattle.cal_base.specs.declared.identity.Ino.{Ino}
use Rattle.inode.specs.declared.inode.Inode.{Inode}
use Rattle.tree_law.specs.Idle.{is_named}
use Rattle.tree_law.specs.Tree.{Tree, node_at}
use Rattle.tree_law.specs.declared.node.Node.{Node}
use Rattle.volume.specs.Stands.{StandsForNode}
use Rattle.volume.specs.Volume.{Slots, Volume, slots_of}
use Rattle.volume_edit.specs.Edit.{IsVolume, edited, free_inode, inode_at, is_edited, slots_left, with_entered, with_grown, with_left, without_slots}
use Rattle.volume_edit.specs.declared.edit.Edit.{Edit}
use Rattle.volume_edit.specs.declared.edit.Entering.{Entering}
use Rattle.volume_edit.specs.declared.edit.Growth.{Growth}
use Rattle.volume_edit.specs.declared.edit.InodeEdit.{InodeEdit}
use Rattle.volume_edit.specs.declared.edit.Leaving.{Leaving}
use Rattle.volume_edit.proofs.Directories.{length-left_slots}
use Rattle.volume_edit.proofs.Inodes.{inode_kept, is_grown, length-inodes}
use Rattle.volume_edit.proofs.SlotChanges.{length-with_slots, with_slots-other, with_slots-same}
use Rattle.volume_plan.proofs.Fits.{KeepsFiles, StandForNodes}
use Rattle.volume_plan.proofs.Frames.{stands_later}
use Rattle.volume_plan.proofs.Similar.{inode_there, node_there}

-- ---- the slots of a directory, step by step

abbrev pub is_left : Option Leaving → ℕ → Bool
is_left (Some l) number = l.directory.0 == number
is_left None number = false

abbrev pub is_entered : Option Entering → ℕ → Bool
is_entered (Some n) number = n.directory.0 == number
is_entered None number = false

grown_other : (o : Option Growth) (ds : List Slots) (m : ℕ) → is_grown o m ≡ false → get_or (with_grown ds o) m [] ≡ get_or ds m []
grown_other None ds m other = refl
grown_other (Some g) ds m other = with_slots-other ds g.directory.0 (λ slots. slots ++ replicate 128 None) m (λ same. eqb-false g.directory.0 m other (sym same))

left_other : (o : Option Leaving) (ds : List Slots) (m : ℕ) → is_left o m ≡ false → get_or (with_left ds o) m [] ≡ get_or ds m []
left_other None ds m other = refl
left_other (Some l) ds m other = with_slots-other ds l.directory.0 (λ slots. slice_set slots l.place None) m (λ same. eqb-false l.directory.0 m other (sym same))

entered_other : (o : Option Entering) (ds : List Slots) (m : ℕ) → is_entered o m ≡ false → get_or (with_entered ds o) m [] ≡ get_or ds m []
entered_other None ds m other = refl
entered_other (Some n) ds m other = with_slots-other ds n.directory.0 (λ slots. slice_set slots n.place (Some n.entry)) m (λ same. eqb-false n.directory.0 m other (sym same))

without_other : (o : Option InodeEdit) (ds : List Slots) (m : ℕ) → is_edited o m ≡ false → get_or (without_slots ds o) m [] ≡ get_or ds m []
without_other None ds m other = refl
without_other (Some i) ds m other = get_or-set_other ds i.ino.0 m [] [] (λ same. eqb-false i.ino.0 m other (sym same))

-- before the entry comes: where none goes, and where one goes
pub slots_left-none : (v : Volume) (e : Edit) (m : ℕ) → is_left e.leaving m ≡ false → slots_left v e m ≡ get_or (with_grown v.directories e.growth) m []
slots_left-none v e m other = left_other e.leaving (with_grown v.directories e.growth) m other

length-grown : (o : Option Growth) (ds : List Slots) → length (with_grown ds o) ≡ length ds
length-grown None ds = refl
length-grown (Some g) ds = length-with_slots ds g.directory.0 (λ slots. slots ++ replicate 128 None)

pub slots_left-some : (v : Volume) (e : Edit) (l : Leaving) → e.leaving ≡ Some l → l.directory.0 < length v.directories
    → slots_left v e l.directory.0 ≡ slice_set (get_or (with_grown v.directories e.growth) l.directory.0 []) l.place None
slots_left-some v e l is within =
    ap (λ (o : Option Leaving). get_or (with_left (with_grown v.directories e.growth) o) l.directory.0 []) is
    ∙ with_slots-same (with_grown v.directories e.growth) l.directory.0 (λ slots. slice_set slots l.place None) (let long = length-grown e.growth v.directories in omega arith)

-- where no block comes, and where one does
pub slots_grown-none : (v : Volume) (e : Edit) (m : ℕ) → is_grown e.growth m ≡ false → get_or (with_grown v.directories e.growth) m [] ≡ slots_of v m
slots_grown-none v e m other = grown_other e.growth v.directories m other

pub slots_grown-some : (v : Volume) (e : Edit) (g : Growth) → e.growth ≡ Some g → g.directory.0 < length v.directories
    → get_or (with_grown v.directories e.growth) g.directory.0 [] ≡ slots_of v g.directory.0 ++ replicate 128 None
slots_grown-some v e g is within =
    ap (λ (o : Option Growth). get_or (with_grown v.directories o) g.directory.0 []) is
    ∙ with_slots-same v.directories g.directory.0 (λ slots. slots ++ replicate 128 None) within

-- and in the end: where no entry comes, and where one does
pub slots_edited-none : (v : Volume) (e : Edit) (m : ℕ) → is_edited e.inode m ≡ false → is_entered e.entering m ≡ false → slots_of (edited v e) m ≡ slots_left v e m
slots_edited-none v e m apart other =
    without_other e.inode (with_entered (with_left (with_grown v.directories e.growth) e.leaving) e.entering) m apart
    ∙ entered_other e.entering (with_left (with_grown v.directories e.growth) e.leaving) m other

pub slots_edited-some : (v : Volume) (e : Edit) (n : Entering) → e.entering ≡ Some n → is_edited e.inode n.directory.0 ≡ false → n.directory.0 < length v.directories
    → slots_of (edited v e) n.directory.0 ≡ slice_set (slots_left v e n.directory.0) n.place (Some n.entry)
slots_edited-some v e n is apart within =
    without_other e.inode (with_entered (with_left (with_grown v.directories e.growth) e.leaving) e.entering) n.directory.0 apart
    ∙ ap (λ (o : Option Entering). get_or (with_entered (with_left (with_grown v.directories e.growth) e.leaving) o) n.directory.0 []) is
    ∙ with_slots-same (with_left (with_grown v.directories e.growth) e.leaving) n.directory.0 (λ slots. slice_set slots n.place (Some n.entry)) (let long = length-left_slots v e in omega arith)

-- ---- numbers that an edit leaves alone

pub record IsKept (e : Edit) (number : ℕ) : Type 0 where
  pub edited : is_edited e.inode number ≡ false
  pub grown : is_grown e.growth number ≡ false
  pub left : is_left e.leaving number ≡ false
  pub entered : is_entered e.entering number ≡ false

pub slots_kept : (v : Volume) (e : Edit) (number : ℕ) → IsKept e number → slots_of (edited v e) number ≡ slots_of v number
slots_kept v e number k = slots_edited-none v e number k.edited k.entered ∙ slots_left-none v e number k.left ∙ slots_grown-none v e number k.grown

-- what stands there stands on, if the tree has the same node, and as much of a name for it
pub kept_stands : (sectors others : List (List ℕ)) (v : Volume) (e : Edit) (tree later : Tree) (ino : Ino) → IsVolume v → KeepsFiles v sectors others → StandForNodes sectors v tree → ino.0 < limits.inodes → IsKept e ino.0
    → node_at later ino ≡ node_at tree ino → is_named later ino.0 ≡ is_named tree ino.0 → StandsForNode others (edited v e) later ino.0 (inode_at (edited v e).inodes ino.0) (node_at later ino)
kept_stands sectors others v e tree later ino is keeps stand within k node named =
    subst (λ (inode : Inode). StandsForNode others (edited v e) later ino.0 inode (node_at later ino)) (sym (inode_kept v e ino.0 k.edited k.grown))
    (subst (λ (there : Option Node). StandsForNode others (edited v e) later ino.0 (inode_at v.inodes ino.0) there) (sym node)
    (stands_later sectors others v (edited v e) tree later ino.0 (inode_at v.inodes ino.0) (node_at tree ino) (slots_kept v e ino.0 k) named
    (λ kind i. keeps.same ino.0 (inode_at v.inodes ino.0) (inode_there v is ino.0 within) kind i)
    (node_there sectors v tree is stand ino within)))

-- all inodes stand for a tree if that at each number below 512 does
pub stand_each : (sectors : List (List ℕ)) (w : Volume) (tree : Tree) → length w.inodes ≡ limits.inodes → ((ino : Ino) → ino.0 < limits.inodes → StandsForNode sectors w tree ino.0 (inode_at w.inodes ino.0) (node_at tree ino)) → StandForNodes sectors w tree
stand_each sectors w tree count each = record {
  node = λ number inode there.
      (let inside = slice_get_within w.inodes number inode there in
      subst (λ (i : Inode). StandsForNode sectors w tree number i (node_at tree (record { 0 = number }))) (get_or_from_slice_get w.inodes number inode free_inode there) (each (record { 0 = number }) (omega arith)));
}

pub length-edited : (v : Volume) (e : Edit) → IsVolume v → length (edited v e).inodes ≡ limits.inodes
length-edited v e is = length-inodes v e ∙ is.inode_count
