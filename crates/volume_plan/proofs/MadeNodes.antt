-- With a new entry and its inode the inodes stand for the tree with the new name and node.
use Rattle.std.proofs.Common.{◌≡◌, ◌≢◌, ◌<◌, ◌/◌, ℕ, true, false, List, [], Option, Some, None, Ok, Err, ok_or, inl, inr, refl, sym, ap, subst, ◌∙◌, arith}
use Rattle.cal_base.specs.Limits as limits
use Rattle.std.proofs.lemmas.Bool.{cases_eq, ne_eqb}
use Rattle.std.proofs.lemmas.List.{get_or-set_other, get_or-set_same, length-set}
use Rattle.std.specs.FinMap as map
use Rattle.cal_base.specs.declared.identity.ClientId.{ClientId}
use Rattle.cal_base.specs.declared.identity.Ino.{Ino}
use Rattle.directory.specs.Block.{entry_at}
use Rattle.directory.specs.Directory.{first_empty}
use Rattle.inode.specs.declared.inode.Inode.{Inode}
use Rattle.inode.specs.declared.inode.Kind.{Kind}
use Rattle.inode.specs.declared.inode.Kind.TheVariants.{Free, File, Dir}
use Rattle.tree_law.specs.After.{put_name, with_name}
use Rattle.tree_law.specs.Idle.{is_named, names_it, with_node}
use Rattle.tree_law.specs.Resolve.{looked_up}
use Rattle.tree_law.specs.Tree.{Tree, empty_directory, node_at}
use Rattle.tree_law.specs.declared.node.Node.{Node}
use Rattle.tree_law.specs.declared.node.Node.TheVariants.{Directory}
use Rattle.tree_law.specs.declared.reply.Reply.TheVariants.{Done}
use Rattle.tree_law.specs.declared.reply.Why.TheVariants.{NoEnt}
use Rattle.volume.specs.Stands.{StandsForDirectory, StandsForNode}
use Rattle.volume.specs.Volume.{Slots, Volume, byte_behind, slots_of}
use Rattle.volume_edit.specs.Edit.{IsEdit, IsSlotEdit, IsVolume, edited, inode_at, slots_left}
use Rattle.volume_edit.specs.declared.edit.Edit.{Edit}
use Rattle.volume_edit.specs.declared.edit.Growth.{Growth}
use Rattle.volume_edit.proofs.Directories.{slots_put}
use Rattle.volume_edit.proofs.Grammar.{kind_kept}
use Rattle.volume_edit.proofs.Inodes.{inode_put}
use Rattle.volume_plan.specs.Plans.{answered, new_inode}
use Rattle.volume_plan.proofs.EditedAt.{IsKept, kept_stands, length-edited, slots_edited-some, stand_each}
use Rattle.volume_plan.proofs.Fits.{KeepsFiles, StandForNodes}
use Rattle.volume_plan.proofs.Made.{IsMaking, absent_left, left_is, made, made_is_edit, node_made, other_number, place_stays, ready_other, within_left, zeros_at}
use Rattle.volume_plan.proofs.Named.{names_have, never, put_named, put_named_other, with_node_named}
use Rattle.volume_plan.proofs.NamesOf.{entry_of, order}
use Rattle.volume_plan.proofs.Room.{ready_entry}
use Rattle.volume_plan.proofs.Similar.{node_there}
use Rattle.volume_plan.proofs.SlotEntries.{IsPlaceFor, empty_place, first_empty-none, stands_entered, stands_same}

-- the tree with the name and the node
abbrev pub tree_made : Tree → Ino → List ℕ → Kind → Ino → Tree
tree_made tree place name kind ino = with_node (put_name tree place name ino) ino.0 (Some (node_made kind))

no_names : (name : List ℕ) (ino : Ino) → map.get (map.empty {X = Ino} {R = order}) name ≡ Some ino → ⊥
no_names name ino got = (let both : None ≡ Some ino = sym (map.get-empty order name) ∙ got in absurd (cc))

empty_names : (number : ℕ) → names_it number (Some empty_directory) ≡ false
empty_names number = never _ (λ is. (let one = names_have map.empty number is in no_names one.name (record { 0 = number }) one.got))

new_names : (kind : Kind) (number : ℕ) → names_it number (Some (node_made kind)) ≡ false
new_names Free number = refl
new_names File number = refl
new_names Dir number = empty_names number

-- a new inode stands for a new node
new_stands : (sectors : List (List ℕ)) (w : Volume) (tree : Tree) (number : ℕ) (kind : Kind) → kind ≢ Free → slots_of w number ≡ [] → is_named tree number ≡ true → StandsForNode sectors w tree number (new_inode kind) (Some (node_made kind))
new_stands sectors w tree number Free some slots named = absurd (some refl)
new_stands sectors w tree number File some slots named = record {
  kind = refl;
  size = refl;
  bytes = λ i. ap (λ (pointer : ℕ). byte_behind sectors pointer i) (zeros_at 64 (i / 4096));
  named = sym named;
}
new_stands sectors w tree number Dir some slots named = record {
  kind = refl;
  entries = λ name ino. (
    λ got. absurd (no_names name ino got),
    λ stands. (let at : entry_at [] stands.place ≡ Some (entry_of name ino) = ap (λ (xs : Slots). entry_at xs stands.place) (sym slots) ∙ stands.there in absurd (cc)),
  );
}

module _ (sectors others : List (List ℕ)) (v : Volume) (tree : Tree) (client : ClientId) (number : ℕ) (place : Ino) (name : List ℕ) (kind : Kind) (ino : Ino) (g : Option Growth)
    (is : IsVolume v) (stand : StandForNodes sectors v tree) (keeps : KeepsFiles v sectors others) (m : IsMaking v tree place name kind ino g) (slot : IsSlotEdit (answered v client number Done)) where
  abbrev edit : Edit
  edit = made v client number place name kind ino g

  abbrev later : Tree
  later = tree_made tree place name kind ino

  is_edit : IsEdit v edit
  is_edit = made_is_edit v tree client number place name kind ino g is m slot

  apart : ino.0 ≢ place.0
  apart = other_number v tree client number place name kind ino g is m

  not_found : (x : Ino) → looked_up (node_at tree place) name ≡ Ok x → ⊥
  not_found x found =
      let none : looked_up (node_at tree place) name ≡ Err NoEnt = ap (λ (node : Option Node). looked_up node name) m.here ∙ ap (λ (i : Option Ino). ok_or i NoEnt) m.absent in
      absurd (cc)

  put_at_ino : node_at (put_name tree place name ino) ino ≡ None
  put_at_ino = get_or-set_other tree.nodes place.0 ino.0 (with_name (node_at tree place) name ino) None apart ∙ m.nothing

  -- all other numbers are named as before, and the new one is
  named_other : (k : ℕ) → k ≢ ino.0 → is_named later k ≡ is_named tree k
  named_other k other =
      with_node_named (put_name tree place name ino) ino.0 k (Some (node_made kind)) (new_names kind k ∙ sym (ap (names_it k) put_at_ino))
      ∙ put_named_other tree place name ino k other (λ x found. absurd (not_found x found))

  named_new : is_named later ino.0 ≡ true
  named_new =
      with_node_named (put_name tree place name ino) ino.0 ino.0 (Some (node_made kind)) (new_names kind ino.0 ∙ sym (ap (names_it ino.0) put_at_ino))
      ∙ put_named tree place m.names name ino m.here

  node_new : node_at later ino ≡ Some (node_made kind)
  node_new = get_or-set_same (put_name tree place name ino).nodes ino.0 (Some (node_made kind)) None (let few = m.to_511 in let c = m.count in let l = length-set tree.nodes place.0 (with_name (node_at tree place) name ino) in omega arith)

  node_place : node_at later place ≡ Some (Directory (map.insert m.names name ino))
  node_place =
      get_or-set_other (put_name tree place name ino).nodes ino.0 place.0 (Some (node_made kind)) None (λ same. apart (sym same))
      ∙ get_or-set_same tree.nodes place.0 (with_name (node_at tree place) name ino) None (let w = m.within in let c = m.count in omega arith)
      ∙ ap (λ (node : Option Node). with_name node name ino) m.here

  node_other : (other : Ino) → other.0 ≢ ino.0 → other.0 ≢ place.0 → node_at later other ≡ node_at tree other
  node_other other no_ino no_place =
      get_or-set_other (put_name tree place name ino).nodes ino.0 other.0 (Some (node_made kind)) None no_ino
      ∙ get_or-set_other tree.nodes place.0 other.0 (with_name (node_at tree place) name ino) None no_place

  -- the new inode, the directory, and the others
  at_new : StandsForNode others (edited v edit) later ino.0 (inode_at (edited v edit).inodes ino.0) (node_at later ino)
  at_new =
      subst (λ (i : Inode). StandsForNode others (edited v edit) later ino.0 i (node_at later ino)) (sym (inode_put v edit (record { ino = ino; inode = new_inode kind }) is.inode_count is_edit refl))
      (subst (λ (node : Option Node). StandsForNode others (edited v edit) later ino.0 (new_inode kind) node) (sym node_new)
      (new_stands others (edited v edit) later ino.0 kind m.some (slots_put v edit (record { ino = ino; inode = new_inode kind }) is.directory_count is_edit refl) named_new))

  abbrev left : Slots
  left = slots_left v edit place.0

  left_place : IsPlaceFor left (first_empty (slots_of v place.0)) name
  left_place = empty_place left (first_empty (slots_of v place.0)) name (within_left v tree client number place name kind ino g is m)
      (ap (λ (xs : Slots). entry_at xs (first_empty (slots_of v place.0))) (left_is v tree client number place name kind ino g is m) ∙ ready_entry (slots_of v place.0) g (first_empty (slots_of v place.0)) ∙ first_empty-none (slots_of v place.0))
      (absent_left v tree client number place name kind ino g is m)

  old_stands : StandsForDirectory (inode_at v.inodes place.0) (slots_of v place.0) m.names
  old_stands = subst (λ (node : Option Node). StandsForNode sectors v tree place.0 (inode_at v.inodes place.0) node) m.here (node_there sectors v tree is stand place m.within)

  abbrev new_place_inode : Inode
  new_place_inode = inode_at (edited v edit).inodes place.0

  place_kind : new_place_inode.kind ≡ Dir
  place_kind = kind_kept v edit is.inode_count is_edit place.0 (place_stays v tree client number place name kind ino g is m).stays ∙ m.directory.kind

  left_stands : StandsForDirectory new_place_inode left m.names
  left_stands = stands_same (inode_at v.inodes place.0) new_place_inode (slots_of v place.0) left m.names place_kind
      (λ q. ap (λ (xs : Slots). entry_at xs q) (left_is v tree client number place name kind ino g is m) ∙ ready_entry (slots_of v place.0) g q) old_stands

  at_place : StandsForNode others (edited v edit) later place.0 new_place_inode (node_at later place)
  at_place =
      subst (λ (node : Option Node). StandsForNode others (edited v edit) later place.0 new_place_inode node) (sym node_place)
      (subst (λ (xs : Slots). StandsForDirectory new_place_inode xs (map.insert m.names name ino))
      (sym (slots_edited-some v edit (record { directory = place; place = first_empty (slots_of v place.0); entry = entry_of name ino }) refl (place_stays v tree client number place name kind ino g is m).stays (let w = m.within in let c = is.directory_count in omega arith)))
      (stands_entered new_place_inode new_place_inode left (first_empty (slots_of v place.0)) m.names name ino place_kind left_place left_stands))

  kept_other : (other : ℕ) → other ≢ ino.0 → other ≢ place.0 → IsKept edit other
  kept_other other no_ino no_place = record {
    edited = ne_eqb ino.0 other (λ same. no_ino (sym same));
    grown = ready_other v place (slots_of v place.0) g other m.ready no_place;
    left = refl;
    entered = ne_eqb place.0 other (λ same. no_place (sym same));
  }

  at_each : (other : Ino) → other.0 < limits.inodes → StandsForNode others (edited v edit) later other.0 (inode_at (edited v edit).inodes other.0) (node_at later other)
  at_each other within = elim (cases_eq other.0 ino.0) [
    | inl same ↦ subst (λ (n : ℕ). StandsForNode others (edited v edit) later n (inode_at (edited v edit).inodes n) (node_at later (record { 0 = n }))) (sym same) at_new
    | inr no_ino ↦ elim (cases_eq other.0 place.0) [
      | inl same ↦ subst (λ (n : ℕ). StandsForNode others (edited v edit) later n (inode_at (edited v edit).inodes n) (node_at later (record { 0 = n }))) (sym same) at_place
      | inr no_place ↦ kept_stands sectors others v edit tree later other is keeps stand within (kept_other other.0 no_ino no_place) (node_other other no_ino no_place) (named_other other.0 no_ino)
    ]
  ]

  pub made_nodes : StandForNodes others (edited v edit) later
  made_nodes = stand_each others (edited v edit) later (length-edited v edit is) at_each
