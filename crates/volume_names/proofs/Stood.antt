-- A volume that stands for a legal history is named as its tree.
use Rattle.std.proofs.Common.{◌≡◌, ◌≢◌, ◌<◌, inl, inr, ℕ, Bool, true, false, List, [], Option, Some, None, Ok, ok_or, is_some, refl, sym, ap, subst, ◌∙◌, arith}
use Rattle.std.proofs.lemmas.Bool.{cases_lt}
use Rattle.std.proofs.lemmas.List.{get_or_past}
use Rattle.cal_base.specs.declared.identity.Ino.{Ino}
use Rattle.directory.specs.Block.{entry_at}
use Rattle.directory.specs.declared.entry.DirEntry.{DirEntry}
use Rattle.inode.specs.declared.inode.Kind.{Kind}
use Rattle.inode.specs.declared.inode.Kind.TheVariants.{Free, File, Dir}
use Rattle.tree_facts.proofs.Entries.{is_named_by}
use Rattle.tree_facts.specs.OneName.{IsSameName, IsTaken, StandsFor}
use Rattle.tree_law.specs.Idle.{is_named}
use Rattle.tree_law.specs.Legal.{IsLegal, tree_of}
use Rattle.tree_law.specs.Resolve.{looked_up}
use Rattle.tree_law.specs.Tree.{Tree, node_at}
use Rattle.tree_law.specs.declared.entry.Entry.{Entry}
use Rattle.tree_law.specs.declared.node.Node.{Node}
use Rattle.tree_law.specs.declared.node.Node.TheVariants.{Directory, Regular}
use Rattle.tree_law.specs.declared.reply.Why.TheVariants.{NoEnt}
use Rattle.volume.specs.Stands.{StandsForNode}
use Rattle.volume.specs.Volume.{Volume, slots_of}
use Rattle.volume_edit.specs.Edit.{inode_at}
use Rattle.volume_plan.specs.Leads.{Mounted}
use Rattle.volume_plan.specs.Shown.{shown_as}
use Rattle.volume_plan.proofs.Named.{numbered}
use Rattle.volume_plan.proofs.Similar.{inode_there}
use Rattle.volume_names.specs.Named.{AreNamed}
use Rattle.volume_names.proofs.Slots.{IsSeen, directory_kind, names_by_slots}

-- what is said of the trees of legal histories: each name stands for something, and no inode has two
abbrev pub Taken : Type 0
Taken = (history : List Entry) (directory ino : Ino) (name : List ℕ) → IsLegal history → StandsFor (tree_of history) directory name ino → IsTaken (tree_of history) ino

abbrev pub One : Type 0
One = (history : List Entry) (directory other ino : Ino) (name goal : List ℕ) → IsLegal history → StandsFor (tree_of history) directory name ino → StandsFor (tree_of history) other goal ino → IsSameName directory other name goal

seen_by : (k : Kind) (named : Bool) → k ≡ Dir → is_some (shown_as k named []) ≡ true
seen_by Free named is = absurd (cc)
seen_by File named is = absurd (cc)
seen_by Dir named is = refl

file_seen : (k : Kind) (named : Bool) → k ≡ File → named ≡ true → is_some (shown_as k named []) ≡ true
file_seen Free named is known = absurd (cc)
file_seen File true is known = refl
file_seen File false is known = absurd (cc)
file_seen Dir named is known = absurd (cc)

module _ (sectors : List (List ℕ)) (v : Volume) (history : List Entry) (m : Mounted sectors v history) (taken : Taken) (one : One) where
  abbrev tree : Tree
  tree = tree_of history

  node_stands : (k : ℕ) → k < 512 → StandsForNode sectors v tree k (inode_at v.inodes k) (node_at tree (numbered k))
  node_stands k below = m.stands.nodes k (inode_at v.inodes k) (inode_there v m.volume k below)

  -- an entry of the volume is a name of the tree
  named_by : (k p : ℕ) (x : DirEntry) (node : Option Node) → (inode_at v.inodes k).kind ≡ Dir → StandsForNode sectors v tree k (inode_at v.inodes k) node → entry_at (slots_of v k) p ≡ Some x → looked_up node x.name ≡ Ok x.ino
  named_by k p x (Some (Directory names)) kind s at = ap (λ (found : Option Ino). ok_or found NoEnt) ((s.entries x.name x.ino).1 (record { place = p; there = at }))
  named_by k p x (Some (Regular file)) kind s at = (let other = s.kind in absurd (cc))
  named_by k p x None kind (inl free) at = absurd (cc)
  named_by k p x None kind (inr orphan) at = (let other = orphan.0 in absurd (cc))

  within : (k p : ℕ) (x : DirEntry) → entry_at (slots_of v k) p ≡ Some x → k < 512
  within k p x at = elim (cases_lt k 512) [
    | inl below ↦ below
    | inr past ↦ (let count = m.volume.directory_count in let none : entry_at [] p ≡ Some x = subst (λ s. entry_at s p ≡ Some x) (get_or_past v.directories k [] (omega arith)) at in absurd (cc))
  ]

  stands_for : (k p : ℕ) (x : DirEntry) → entry_at (slots_of v k) p ≡ Some x → StandsFor tree (numbered k) x.name x.ino
  stands_for k p x at = named_by k p x (node_at tree (numbered k)) (directory_kind v k p x m.volume at) (node_stands k (within k p x at)) at

  seen_at : (k : ℕ) (node : Option Node) → is_named tree k ≡ true → node ≢ None → StandsForNode sectors v tree k (inode_at v.inodes k) node → IsSeen (inode_at v.inodes k)
  seen_at k (Some (Directory names)) known there s = seen_by (inode_at v.inodes k).kind (inode_at v.inodes k).named s.kind
  seen_at k (Some (Regular file)) known there s = file_seen (inode_at v.inodes k).kind (inode_at v.inodes k).named s.kind (s.named ∙ known)
  seen_at k None known there s = absurd (there refl)

  stand_there : (k p : ℕ) (x : DirEntry) → entry_at (slots_of v k) p ≡ Some x → IsSeen (inode_at v.inodes x.ino.0)
  stand_there k p x at =
      let name = stands_for k p x at in
      let t = taken history (numbered k) x.ino x.name m.legal name in
      let few = t.to_511 in
      seen_at x.ino.0 (node_at tree x.ino) (is_named_by tree k x.name x.ino name) t.there (node_stands x.ino.0 (omega arith))

  one_there : (j k p q : ℕ) (x y : DirEntry) → entry_at (slots_of v j) p ≡ Some x → entry_at (slots_of v k) q ≡ Some y → x.ino.0 ≡ y.ino.0 → (j ≡ k) × (x.name ≡ y.name)
  one_there j k p q x y at_x at_y same =
      let other : StandsFor tree (numbered k) y.name x.ino = subst (λ (n : ℕ). StandsFor tree (numbered k) y.name (numbered n)) (sym same) (stands_for k q y at_y) in
      let o = one history (numbered j) (numbered k) x.ino x.name y.name m.legal (stands_for j p x at_x) other in
      (o.directories, o.names)

  pub stood_named : AreNamed v
  stood_named = names_by_slots v (m.volume.inode_count ∙ sym m.volume.directory_count) (record {
    stand = stand_there;
    once = one_there;
    unrooted = λ k p x at zero. (let least = (taken history (numbered k) x.ino x.name m.legal (stands_for k p x at)).from_one in absurd (omega arith));
  })
