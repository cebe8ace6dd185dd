-- Volumes that the same sectors spell stand for the same histories.
use Rattle.std.proofs.Common.{◌<◌, ◌≡◌, ◌↔◌, ℕ, Bool, false, List, [], ◌∷◌, length, drop, replicate, slice_get, Option, Some, None, sym, ◌∙◌, subst, arith, length-append, length-drop}
use Rattle.cal_base.specs.Limits as limits
use Rattle.std.proofs.lemmas.List.{ext_get_or, length-replicate}
use Rattle.std.proofs.lemmas.Option.{slice_get-get_or}
use Rattle.cal_base.specs.declared.identity.Ino.{Ino}
use Rattle.inode.specs.declared.inode.Inode.{Inode}
use Rattle.inode.specs.declared.inode.Kind.TheVariants.{Dir}
use Rattle.journal.specs.Commit.{replayed}
use Rattle.journal.specs.Layout.{outside}
use Rattle.request_log.specs.declared.slot.Slot.{Slot}
use Rattle.tree_law.specs.FileState.{FileState}
use Rattle.tree_law.specs.Legal.{IsLegal, tree_of}
use Rattle.tree_law.specs.Tree.{Tree, node_at}
use Rattle.tree_law.specs.declared.entry.Entry.{Entry}
use Rattle.tree_law.specs.declared.node.Node.{Node}
use Rattle.tree_law.specs.declared.node.Node.TheVariants.{Directory, Regular}
use Rattle.volume.specs.Stands.{AreBlocksKept, IsPointed, Points, Stands, StandsForDirectory, StandsForFile, StandsForHistory, StandsForNode}
use Rattle.volume.specs.Volume.{Slots, SpellsVolume, Volume, slots_of}
use Rattle.volume.proofs.OneVolume.{same_volume}
use Rattle.volume_edit.specs.Edit.{IsVolume, free_inode, inode_at}
use Rattle.volume_plan.specs.Leads.{Mounted}
use Rattle.image.specs.Damage.{IsDamage}
use Rattle.image.specs.FileRead.{AreFirstBytes}
use Rattle.image.proofs.Damage.{no_volume}

same_node : (s : List (List ℕ)) (a b : Volume) (tree : Tree) (number : ℕ) (inode : Inode) (node : Option Node) → (inode.kind ≡ Dir → slots_of a number ≡ slots_of b number)
    → StandsForNode s a tree number inode node → StandsForNode s b tree number inode node
same_node s a b tree number inode None slots stands = stands
same_node s a b tree number inode (Some (Regular file)) slots stands = stands
same_node s a b tree number inode (Some (Directory names)) slots stands = subst (λ (x : Slots). StandsForDirectory inode x names) (slots stands.kind) stands

same_blocks : (a b : Volume) → a.free ≡ b.free → a.inodes ≡ b.inodes → AreBlocksKept a → AreBlocksKept b
same_blocks a b free inodes kept = record {
  used = λ block below. subst (λ (f : List Bool). (slice_get f block ≡ Some false) ↔ IsPointed b.inodes block) free
      (subst (λ (is : List Inode). (slice_get a.free block ≡ Some false) ↔ IsPointed is block) inodes (kept.used block below));
  apart = λ i j p q block. subst (λ (is : List Inode). Points is i p block → Points is j q block → (i ≡ j) × (p ≡ q)) inodes (kept.apart i j p q block);
}

same_history : (s : List (List ℕ)) (a b : Volume) (history : List Entry) → SpellsVolume s b → StandsForHistory s a history → StandsForHistory s b history
same_history s a b history spells stands =
    let same = same_volume s a b stands.spells spells in
    record {
      spells = spells;
      nodes = λ number inode at.
          let there = subst (λ (is : List Inode). slice_get is number ≡ Some inode) (sym same.inodes) at in
          same_node s a b _ number inode _ (same.directories number inode there) (stands.nodes number inode there);
      blocks = same_blocks a b same.free same.inodes stands.blocks;
      clients = λ client slot at. stands.clients client slot (subst (λ (ss : List Slot). slice_get ss client.0 ≡ Some slot) (sym same.slots) at);
    }

outside_long : (s : List (List ℕ)) → length s ≡ limits.sectors → length (outside s) ≡ limits.sectors
outside_long [] long = absurd (omega arith)
outside_long (head ∷ rest) long =
    let blanks = length-append (replicate {A = List ℕ} 18 []) (drop 18 rest) in
    let made = length-replicate {A = List ℕ} 18 [] in
    let left = length-drop 18 rest in
    omega arith

some_is : {X : Type 0} (x y : X) → Some x ≡ Some y → x ≡ y
some_is x y e = cc

-- the sectors stand for the history as they are
stands_outside : (s : List (List ℕ)) (history : List Entry) → replayed s ≡ Some (outside s) → (stands : Stands s history) → StandsForHistory (outside s) stands.volume history
stands_outside s history replays stands =
    let after : stands.after ≡ outside s = some_is stands.after (outside s) (sym stands.replays ∙ replays) in
    subst (λ (x : List (List ℕ)). StandsForHistory x stands.volume history) after stands.stands

pub undamaged : (s : List (List ℕ)) (history : List Entry) (at : ℕ) → replayed s ≡ Some (outside s) → Stands s history → IsDamage s at → ⊥
undamaged s history at replays stands damage = no_volume s at damage stands.volume (stands_outside s history replays stands).spells

pub mounted : (s : List (List ℕ)) (v : Volume) (history : List Entry) → length s ≡ limits.sectors → replayed s ≡ Some (outside s) → Stands s history → IsLegal history → IsVolume v → SpellsVolume (outside s) v
    → Mounted (outside s) v history
mounted s v history long replays stands legal volume spells = record {
  count = outside_long s long;
  volume = volume;
  stands = same_history (outside s) stands.volume v history spells (stands_outside s history replays stands);
  legal = legal;
}

pub read_is_kept : (s : List (List ℕ)) (v : Volume) (history : List Entry) (ino : Ino) (file : FileState) (bytes : List ℕ) → StandsForHistory s v history → ino.0 < limits.inodes → node_at (tree_of history) ino ≡ Some (Regular file)
    → length bytes ≡ (inode_at v.inodes ino.0).size → AreFirstBytes s (inode_at v.inodes ino.0) bytes → bytes ≡ file.kept
read_is_kept s v history ino file bytes stands small there size first =
    let count = stands.spells.inode_count in
    let inode = inode_at v.inodes ino.0 in
    let node : StandsForNode s v (tree_of history) ino.0 inode (node_at (tree_of history) ino) = stands.nodes ino.0 inode (slice_get-get_or v.inodes ino.0 free_inode (omega arith)) in
    let is : StandsForFile s inode (tree_of history) ino.0 file = subst (StandsForNode s v (tree_of history) ino.0 inode) there node in
    ext_get_or 0 bytes file.kept (size ∙ is.size) (λ i below. first i below ∙ is.bytes i)
