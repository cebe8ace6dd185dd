-- The names of a volume, said of the slots of its directories.
use Rattle.std.proofs.Common.{◌≡◌, ◌≢◌, ℕ, zero, suc, Bool, true, false, List, [], ◌∷◌, length, get_or, Option, Some, None, Ok, ok_or, is_some, inl, inr, refl, sym, ap, subst, ◌∙◌, arith}
use Rattle.std.proofs.lemmas.Bool.{cases_lt}
use Rattle.std.proofs.lemmas.List.{get_or_past}
use Rattle.std.specs.FinMap as finite
use Rattle.cal_base.specs.declared.identity.Ino.{Ino}
use Rattle.directory.specs.Block.{entry_at}
use Rattle.directory.specs.Directory.{Names as NamesInode}
use Rattle.directory.specs.declared.entry.DirEntry.{DirEntry}
use Rattle.inode.specs.declared.inode.Inode.{Inode}
use Rattle.inode.specs.declared.inode.Kind.{Kind}
use Rattle.inode.specs.declared.inode.Kind.TheVariants.{Free, File, Dir}
use Rattle.tree_law.specs.Resolve.{looked_up}
use Rattle.tree_law.specs.Tree.{node_at, root}
use Rattle.tree_law.specs.declared.node.Node.{Node}
use Rattle.tree_law.specs.declared.node.Node.TheVariants.{Directory}
use Rattle.tree_law.specs.declared.reply.Why.TheVariants.{NoEnt}
use Rattle.volume.specs.Volume.{Slots, Volume, slots_of}
use Rattle.volume_edit.specs.Edit.{HasSlots, IsVolume, free_inode, inode_at}
use Rattle.volume_edit.proofs.Directories.{each_directory}
use Rattle.volume_plan.specs.Shown.{names_of, shown, shown_as, shown_nodes}
use Rattle.volume_plan.proofs.Named.{numbered}
use Rattle.volume_plan.proofs.NamesOf.{got_names, standing_got}
use Rattle.volume_plan.proofs.ShownNodes.{shown_at}
use Rattle.volume_plan.proofs.Similar.{inode_there}
use Rattle.volume_names.specs.Named.{AreNamed}
use Rattle.volume_names.proofs.Lookups.{each_value, value_found}

-- the volume shows an inode
abbrev pub IsSeen : Inode → Type 0
IsSeen inode = is_some (shown_as inode.kind inode.named []) ≡ true

-- each entry is for an inode that the volume shows, no two are for one inode, and none is for the root
pub record StandInSlots (v : Volume) : Type 0 where
  pub stand : (k p : ℕ) (x : DirEntry) → entry_at (slots_of v k) p ≡ Some x → IsSeen (inode_at v.inodes x.ino.0)
  pub once : (j k p q : ℕ) (x y : DirEntry) → entry_at (slots_of v j) p ≡ Some x → entry_at (slots_of v k) q ≡ Some y → x.ino.0 ≡ y.ino.0 → (j ≡ k) × (x.name ≡ y.name)
  pub unrooted : (k p : ℕ) (x : DirEntry) → entry_at (slots_of v k) p ≡ Some x → x.ino.0 ≢ 0

-- whether an inode is shown doesn't depend on slots
pub same_seen : (k : Kind) (named : Bool) (slots others : Slots) → is_some (shown_as k named slots) ≡ is_some (shown_as k named others)
same_seen Free named slots others = refl
same_seen File true slots others = refl
same_seen File false slots others = refl
same_seen Dir named slots others = refl

-- ---- from names to slots

no_entry : (slots : Slots) (p : ℕ) (x : DirEntry) → slots ≡ [] → entry_at slots p ≡ Some x → ⊥
no_entry [] p x none at = absurd (cc)
no_entry (y ∷ slots) p x none at = absurd (cc)

has_kind : (k : Kind) (inode : Inode) (slots : Slots) (p : ℕ) (x : DirEntry) → HasSlots k inode slots → entry_at slots p ≡ Some x → k ≡ Dir
has_kind Free inode slots p x has at = absurd (no_entry slots p x has at)
has_kind File inode slots p x has at = absurd (no_entry slots p x has at)
has_kind Dir inode slots p x has at = refl

-- only a directory has entries
pub directory_kind : (v : Volume) (k p : ℕ) (x : DirEntry) → IsVolume v → entry_at (slots_of v k) p ≡ Some x → (inode_at v.inodes k).kind ≡ Dir
directory_kind v k p x is at = elim (cases_lt k 512) [
  | inl below ↦ has_kind (inode_at v.inodes k).kind (inode_at v.inodes k) (slots_of v k) p x (is.directories k (inode_at v.inodes k) (inode_there v is k below)) at
  | inr past ↦ (let count = is.directory_count in absurd (no_entry (slots_of v k) p x (get_or_past v.directories k [] (omega arith)) at))
]

shown_directory : (k : Kind) (named : Bool) (slots : Slots) → k ≡ Dir → shown_as k named slots ≡ Some (Directory (names_of slots))
shown_directory Free named slots is = absurd (cc)
shown_directory File named slots is = absurd (cc)
shown_directory Dir named slots is = refl

module _ (v : Volume) (is : IsVolume v) where
  node_of : (k p : ℕ) (x : DirEntry) → entry_at (slots_of v k) p ≡ Some x → node_at (shown v) (numbered k) ≡ Some (Directory (names_of (slots_of v k)))
  node_of k p x at = shown_at v k is ∙ shown_directory (inode_at v.inodes k).kind (inode_at v.inodes k).named (slots_of v k) (directory_kind v k p x is at)

  got_of : (k p : ℕ) (x : DirEntry) → entry_at (slots_of v k) p ≡ Some x → finite.get (names_of (slots_of v k)) x.name ≡ Some x.ino
  got_of k p x at = standing_got (slots_of v k) x.name p x (each_directory v is k).distinct at refl

  looked_of : (k p : ℕ) (x : DirEntry) → entry_at (slots_of v k) p ≡ Some x → looked_up (node_at (shown v) (numbered k)) x.name ≡ Ok x.ino
  looked_of k p x at = ap (λ (n : Option Node). looked_up n x.name) (node_of k p x at) ∙ ap (λ (found : Option Ino). ok_or found NoEnt) (got_of k p x at)

  seen_of : (ino : Ino) → is_some (node_at (shown v) ino) ≡ true → IsSeen (inode_at v.inodes ino.0)
  seen_of ino some = same_seen (inode_at v.inodes ino.0).kind (inode_at v.inodes ino.0).named [] (slots_of v ino.0) ∙ sym (ap (λ (n : Option Node). is_some n) (shown_at v ino.0 is)) ∙ some

  -- the names of a volume stand in its slots
  pub slots_named : AreNamed v → StandInSlots v
  slots_named all = record {
    stand = λ k p x at. seen_of x.ino (value_found (λ (ino : Ino). is_some (node_at (shown v) ino) ≡ true) (names_of (slots_of v k)) x.name x.ino (all.stand (numbered k) (names_of (slots_of v k)) (node_of k p x at)) (got_of k p x at));
    once = λ j k p q x y at_x at_y same.
        (let one = all.once (numbered j) (numbered k) x.name y.name x.ino (looked_of j p x at_x) (looked_of k q y at_y ∙ ap (λ (n : ℕ). Ok (numbered n)) (sym same)) in
        (ap (λ (i : Ino). i.0) one.0, one.1));
    unrooted = λ k p x at same. all.unrooted (numbered k) x.name (looked_of k p x at ∙ ap (λ (n : ℕ). Ok (numbered n)) same);
  }

-- ---- and from slots to names

node_shown : (inodes : List Inode) (directories : List Slots) (k : ℕ) → length inodes ≡ length directories
    → get_or (shown_nodes inodes directories) k None ≡ shown_as (get_or inodes k free_inode).kind (get_or inodes k free_inode).named (get_or directories k [])
unfolding shown_nodes
node_shown [] directories k long = refl
node_shown (inode ∷ inodes) [] k long = absurd (omega arith)
node_shown (inode ∷ inodes) (slots ∷ directories) zero long = refl
node_shown (inode ∷ inodes) (slots ∷ directories) (suc k) long = node_shown inodes directories k (omega arith)

found_some : (found : Option Ino) (ino : Ino) → ok_or found NoEnt ≡ Ok ino → found ≡ Some ino
found_some (Some other) ino is = cc
found_some None ino is = absurd (cc)

name_got : (k : Kind) (named : Bool) (slots : Slots) (name : List ℕ) (ino : Ino) → looked_up (shown_as k named slots) name ≡ Ok ino → finite.get (names_of slots) name ≡ Some ino
name_got Free named slots name ino is = absurd (cc)
name_got File true slots name ino is = absurd (cc)
name_got File false slots name ino is = absurd (cc)
name_got Dir named slots name ino is = found_some (finite.get (names_of slots) name) ino is

module _ (w : Volume) (long : length w.inodes ≡ length w.directories) where
  entry_of : (place : Ino) (name : List ℕ) (ino : Ino) → looked_up (node_at (shown w) place) name ≡ Ok ino → NamesInode (slots_of w place.0) name ino.0
  entry_of place name ino is =
      let at = node_shown w.inodes w.directories place.0 long in
      got_names (slots_of w place.0) name ino
      (name_got (inode_at w.inodes place.0).kind (inode_at w.inodes place.0).named (slots_of w place.0) name ino (subst (λ (n : Option Node). looked_up n name ≡ Ok ino) at is))

  some_of : (ino : Ino) → IsSeen (inode_at w.inodes ino.0) → is_some (node_at (shown w) ino) ≡ true
  some_of ino seen = ap (λ (n : Option Node). is_some n) (node_shown w.inodes w.directories ino.0 long)
      ∙ same_seen (inode_at w.inodes ino.0).kind (inode_at w.inodes ino.0).named (slots_of w ino.0) [] ∙ seen

  pub names_by_slots : StandInSlots w → AreNamed w
  names_by_slots all = record {
    stand = λ place names at. each_value (λ (ino : Ino). is_some (node_at (shown w) ino) ≡ true) names (λ name ino got.
        (let n = entry_of place name ino (ap (λ (n : Option Node). looked_up n name) at ∙ ap (λ (found : Option Ino). ok_or found NoEnt) got) in
        some_of ino (all.stand place.0 n.place (record { name = name; ino = ino }) n.there)));
    once = λ place other name another ino is and.
        (let n = entry_of place name ino is in
        let m = entry_of other another ino and in
        let one = all.once place.0 other.0 n.place m.place (record { name = name; ino = ino }) (record { name = another; ino = ino }) n.there m.there refl in
        (ap numbered one.0, one.1));
    unrooted = λ place name is. (let n = entry_of place name root is in all.unrooted place.0 n.place (record { name = name; ino = root }) n.there refl);
  }
