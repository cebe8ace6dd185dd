-- A file or a directory is made: its entry comes to the first empty slot, for a free inode.
use Rattle.std.proofs.Common.{◌≡◌, ◌≢◌, ◌<◌, ◌≤◌, ◌+◌, ◌++◌, ℕ, zero, suc, false, List, [], length, get_or, replicate, slice_index, Option, Some, None, inl, refl, sym, ap, subst, ◌∙◌, arith}
use Rattle.cal_base.specs.Limits as limits
use Rattle.std.specs.Prelude.{IfSome}
use Rattle.std.proofs.lemmas.Bool.{ne_eqb}
use Rattle.std.proofs.lemmas.List.{length-replicate}
use Rattle.std.specs.FinMap as map
use Rattle.cal_base.specs.declared.identity.ClientId.{ClientId}
use Rattle.cal_base.specs.declared.identity.Ino.{Ino}
use Rattle.directory.specs.Block.{entry_at}
use Rattle.directory.specs.Directory.{IsAbsent, first_empty}
use Rattle.inode.specs.Inode.{IsInode, KindAllows}
use Rattle.inode.specs.declared.inode.Kind.{Kind}
use Rattle.inode.specs.declared.inode.Kind.TheVariants.{Free, File, Dir}
use Rattle.tree_law.specs.Names.{Names}
use Rattle.tree_law.specs.Path.{IsName}
use Rattle.tree_law.specs.Tree.{Tree, empty_directory, empty_file, node_at}
use Rattle.tree_law.specs.declared.node.Node.{Node}
use Rattle.tree_law.specs.declared.node.Node.TheVariants.{Directory}
use Rattle.tree_law.specs.declared.reply.Reply.TheVariants.{Done}
use Rattle.volume.specs.Volume.{Slots, Volume, slots_of}
use Rattle.volume_edit.specs.Blocks.{IsGrowing, TakesFree}
use Rattle.volume_edit.specs.Edit.{HasSlots, IsEdit, IsGrowth, IsSlotEdit, IsStaying, IsVolume, inode_at, slots_left, with_grown}
use Rattle.volume_edit.specs.declared.edit.Edit.{Edit}
use Rattle.volume_edit.specs.declared.edit.Growth.{Growth}
use Rattle.volume_edit.proofs.Inodes.{is_grown}
use Rattle.volume_edit.proofs.SlotChanges.{no_entries, with_slots-same}
use Rattle.volume_plan.specs.Plans.{answered, new_inode}
use Rattle.volume_plan.proofs.EditedAt.{slots_left-none}
use Rattle.volume_plan.proofs.NamesOf.{entry_of, got_absent}
use Rattle.volume_plan.proofs.Room.{IsReady, ready_entry, ready_within, with_block}
use Rattle.volume_plan.proofs.Similar.{IsDirectoryAt}

-- ---- ready slots in the edited volume

pub ready_other : (v : Volume) (place : Ino) (slots : Slots) (g : Option Growth) (number : ℕ) → IsReady v place slots g → number ≢ place.0 → is_grown g number ≡ false
ready_other v place slots (Some g) number room apart = ne_eqb g.directory.0 number (λ same. apart (sym same ∙ ap (λ (i : Ino). i.0) room.directory))
ready_other v place slots None number room apart = refl

pub ready_slots : (v : Volume) (place : Ino) (slots : Slots) (g : Option Growth) → IsReady v place slots g → place.0 < length v.directories → get_or (with_grown v.directories g) place.0 [] ≡ with_block (slots_of v place.0) g
ready_slots v place slots (Some g) room within =
    subst (λ (i : Ino). get_or (with_grown v.directories (Some g)) i.0 [] ≡ slots_of v i.0 ++ replicate 128 None) room.directory
    (with_slots-same v.directories g.directory.0 (λ xs. xs ++ replicate 128 None) (subst (λ (i : Ino). i.0 < length v.directories) (sym room.directory) within))
ready_slots v place slots None room within = refl

-- ---- a new inode

abbrev pub node_made : Kind → Node
node_made Free = empty_file
node_made File = empty_file
node_made Dir = empty_directory

pub zeros_at : (count i : ℕ) → slice_index (replicate count 0) i ≡ 0
zeros_at zero i = refl
zeros_at (suc count) zero = refl
zeros_at (suc count) (suc i) = zeros_at count i

new_allowed : (kind : Kind) → kind ≢ Free → KindAllows kind (new_inode kind)
new_allowed Free some = absurd (some refl)
new_allowed File some = record { size = omega arith; holes = λ place above. zeros_at 64 place }
new_allowed Dir some = record { named = refl; whole = refl; size = omega arith; blocks = λ place below. absurd (omega arith); holes = λ place above. zeros_at 64 place }

new_empty : (kind : Kind) → kind ≢ Free → HasSlots kind (new_inode kind) []
new_empty Free some = refl
new_empty File some = refl
new_empty Dir some = record { directory = no_entries; count = refl }

pub new_is_inode : (kind : Kind) → kind ≢ Free → IsInode (new_inode kind)
new_is_inode kind some = record {
  count = length-replicate {A = ℕ} 64 0;
  pointers = λ place. (let zero_there = zeros_at 64 place in omega arith);
  allowed = new_allowed kind some;
}

-- ---- the edit

abbrev pub made : Volume → ClientId → ℕ → Ino → List ℕ → Kind → Ino → Option Growth → Edit
made v client number place name kind ino g = record {
  slot = Some (answered v client number Done);
  inode = Some (record { ino = ino; inode = new_inode kind });
  growth = g;
  leaving = None;
  entering = Some (record { directory = place; place = first_empty (slots_of v place.0); entry = entry_of name ino });
}

-- a name that doesn't stand in a directory with room for it, and a free inode
pub record IsMaking (v : Volume) (tree : Tree) (place : Ino) (name : List ℕ) (kind : Kind) (ino : Ino) (g : Option Growth) : Type 0 where
  pub count : length tree.nodes ≡ limits.inodes
  pub within : place.0 < limits.inodes
  pub names : Names
  pub here : node_at tree place ≡ Some (Directory names)
  pub directory : IsDirectoryAt v place.0 names
  pub absent : map.get names name ≡ None
  pub is_name : IsName name
  pub from_one : 1 ≤ ino.0
  pub to_511 : ino.0 < limits.inodes
  pub nothing : node_at tree ino ≡ None
  pub free : (inode_at v.inodes ino.0).kind ≡ Free
  pub some : kind ≢ Free
  pub ready : IsReady v place (slots_of v place.0) g

module _ (v : Volume) (tree : Tree) (client : ClientId) (number : ℕ) (place : Ino) (name : List ℕ) (kind : Kind) (ino : Ino) (g : Option Growth) (is : IsVolume v) (m : IsMaking v tree place name kind ino g) where
  abbrev edit : Edit
  edit = made v client number place name kind ino g

  abbrev old_slots : Slots
  old_slots = slots_of v place.0

  pub other_number : ino.0 ≢ place.0
  other_number same =
      let f = m.free in
      let d = m.directory.kind in
      let at = ap (λ (n : ℕ). (inode_at v.inodes n).kind) same in
      absurd (cc)

  slots_absent : IsAbsent old_slots name
  slots_absent = got_absent old_slots name m.directory.sized.directory.distinct (ap (λ (names : Names). map.get names name) m.directory.same ∙ m.absent)

  pub place_stays : IsStaying v edit place.0
  place_stays = record { to_511 = (let w = m.within in omega arith); kind = m.directory.kind; stays = ne_eqb ino.0 place.0 other_number }

  pub left_is : slots_left v edit place.0 ≡ with_block old_slots g
  left_is = slots_left-none v edit place.0 refl ∙ ready_slots v place old_slots g m.ready (let w = m.within in let c = is.directory_count in omega arith)

  pub absent_left : IsAbsent (slots_left v edit place.0) name
  absent_left q e at = slots_absent q e (sym (ready_entry old_slots g q) ∙ ap (λ (xs : Slots). entry_at xs q) (sym left_is) ∙ at)

  pub within_left : first_empty old_slots < length (slots_left v edit place.0)
  within_left = subst (λ (xs : Slots). first_empty old_slots < length xs) (sym left_is) (ready_within v place old_slots g m.ready)

  made_grows : (o : Option Growth) → IsReady v place old_slots o → IfSome o (IsGrowth v (made v client number place name kind ino g))
  made_grows (Some x) room =
      let at : place.0 ≡ x.directory.0 = sym (ap (λ (i : Ino). i.0) room.directory) in
      let full = room.full.full in
      let fewer = room.full.fewer in
      record {
        directory = subst (λ (n : ℕ). IsStaying v edit n) at place_stays;
        fewer = subst (λ (n : ℕ). length (slots_of v n) < limits.directory_entries) at fewer;
        block = (let w = room.within in let c = is.map in omega arith);
        filled = record { directory = at; place = subst (λ (n : ℕ). length (slots_of v n) ≤ first_empty old_slots) at (omega arith) };
      }
  made_grows None room = tt

  pub made_is_edit : IsSlotEdit (answered v client number Done) → IsEdit v edit
  made_is_edit slot = record {
    some = inl refl;
    slot = slot;
    inode = record { from_one = m.from_one; to_511 = (let few = m.to_511 in omega arith); inode = new_is_inode kind m.some; empty = new_empty kind m.some };
    growth = made_grows g m.ready;
    leaving = tt;
    entering = record {
      directory = place_stays;
      within = within_left;
      entry = record { name = m.is_name; from_one = m.from_one; to_511 = (let few = m.to_511 in omega arith) };
      alone = λ q other at same. absurd (absent_left q other at same);
    };
  }

  zero_no_block : (place block : ℕ) → slice_index (replicate 64 0) place ≢ block + 1
  zero_no_block place block e = (let z = zeros_at 64 place in absurd (omega arith))

  takes_growth : (o : Option Growth) → IsReady v place old_slots o → IfSome o (IsGrowing v edit)
  takes_growth (Some x) room = record { free = room.free; alone = λ p. zero_no_block p x.block }
  takes_growth None room = tt

  pub made_takes_free : TakesFree v edit
  made_takes_free = record {
    inode = record { known = λ p block e. absurd (zero_no_block p block e); apart = λ p q block e f. absurd (zero_no_block p block e) };
    growth = takes_growth g m.ready;
  }
