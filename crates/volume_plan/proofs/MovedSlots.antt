-- The slots of the directories between which an entry moves.
use Rattle.std.proofs.Common.{◌≡◌, ◌≢◌, ◌≤◌, ◌<◌, ◌==◌, ℕ, Bool, false, List, [], length, get_or, Option, Some, None, IfSome, inl, inr, refl, sym, ap, subst, ◌∙◌, arith, eq-eqb}
use Rattle.cal_base.specs.Limits as limits
use Rattle.std.specs.Prelude.{option_map}
use Rattle.std.proofs.lemmas.Bool.{cases_eq, ne_eqb}
use Rattle.std.specs.List.{slice_set}
use Rattle.std.specs.FinMap as finite
use Rattle.cal_base.specs.declared.identity.ClientId.{ClientId}
use Rattle.cal_base.specs.declared.identity.Ino.{Ino}
use Rattle.directory.specs.Directory.{StandsAt}
use Rattle.inode.specs.declared.inode.Inode.{Inode}
use Rattle.inode.specs.declared.inode.Kind.TheVariants.{Dir}
use Rattle.tree_law.specs.Names.{Names}
use Rattle.tree_law.specs.Tree.{Tree}
use Rattle.tree_law.specs.declared.node.Node.{Node}
use Rattle.tree_law.specs.declared.reply.Reply.TheVariants.{Done}
use Rattle.volume.specs.Stands.{StandsForDirectory, StandsForNode}
use Rattle.volume.specs.Volume.{Slots, Volume, slots_of}
use Rattle.volume_edit.specs.Edit.{IsVolume, edited, inode_at, is_edited, slots_left, with_grown, with_left}
use Rattle.volume_edit.specs.declared.edit.Edit.{Edit}
use Rattle.volume_edit.specs.declared.edit.Growth.{Growth}
use Rattle.volume_edit.proofs.SlotChanges.{with_slots-other, with_slots-same}
use Rattle.volume_plan.specs.Plans.{answered, inode_gone, leaving_of, place_of}
use Rattle.volume_plan.proofs.EditedAt.{slots_edited-none, slots_edited-some, slots_grown-none, slots_left-some}
use Rattle.volume_plan.proofs.Fits.{StandForNodes}
use Rattle.volume_plan.proofs.Leaving.{IsPlaced, placed_at}
use Rattle.volume_plan.proofs.Made.{ready_other, ready_slots}
use Rattle.volume_plan.proofs.MovedNames.{IsReplaced, Moved, kept_names}
use Rattle.volume_plan.proofs.NamesOf.{entry_of, got_names}
use Rattle.volume_plan.proofs.Room.{IsReady, ready_entry, with_block}
use Rattle.volume_plan.proofs.Similar.{IsDirectoryAt, directory_there, node_there}
use Rattle.volume_plan.proofs.SlotEntries.{IsPlaceFor, stands_entered, stands_left, stands_same}

-- the slots of the goal's directory without the former entry, if that stood there
abbrev pub slots_then : Volume → Ino → Ino → List ℕ → Slots
slots_then v from to name = get_or (with_left v.directories (Some (leaving_of v from name))) to.0 []

-- the edit of a move
abbrev pub moved_edit : Volume → ClientId → ℕ → List Ino → Ino → Ino → Ino → Option Ino → List ℕ → List ℕ → Option Growth → ℕ → Edit
moved_edit v client number opened from to ino replaced name goal g place = record {
  slot = Some (answered v client number Done);
  inode = option_map (inode_gone v opened) replaced;
  growth = g;
  leaving = Some (leaving_of v from name);
  entering = Some (record { directory = to; place = place; entry = record { name = goal; ino = ino } });
}

-- the slots are ready for the entry at this place: empty ones, or a block more in another directory
pub record IsLanding (v : Volume) (from to : Ino) (name goal : List ℕ) (g : Option Growth) (place : ℕ) : Type 0 where
  pub ready : IfSome g (λ grown. IsReady v to (slots_then v from to name) (Some grown))
  pub alone : from.0 ≡ to.0 → g ≡ None
  pub free : IsPlaceFor (with_block (slots_then v from to name) g) place goal
  pub behind : IfSome g (λ grown. length (slots_of v to.0) ≤ place)

pub not_edited : (v : Volume) (opened : List Ino) (replaced : Option Ino) (number : ℕ) → IfSome replaced (λ target. target.0 ≢ number) → is_edited (option_map (inode_gone v opened) replaced) number ≡ false
not_edited v opened (Some target) number apart = ne_eqb target.0 number apart
not_edited v opened None number apart = refl

module _ (sectors : List (List ℕ)) (v : Volume) (tree less : Tree) (from to ino : Ino) (replaced : Option Ino) (name goal : List ℕ)
    (is : IsVolume v) (stand : StandForNodes sectors v tree) (r : Moved sectors v tree less from to ino replaced name goal) where
  abbrev pub then_slots : Slots
  then_slots = slots_then v from to name

  abbrev pub old_place : ℕ
  old_place = place_of (slots_of v from.0) name

  -- the two directories
  pub from_within : from.0 < limits.inodes
  from_within = (let few = r.former.place_511 in omega arith)

  pub to_within : to.0 < limits.inodes
  to_within = (let few = r.place_511 in omega arith)

  pub from_directory : IsDirectoryAt v from.0 r.former.names
  from_directory = directory_there sectors v tree is stand from r.former.names from_within r.former.here

  pub to_directory : IsDirectoryAt v to.0 r.names
  to_directory = directory_there sectors v tree is stand to r.names to_within r.there

  pub former_placed : IsPlaced (slots_of v from.0) name ino old_place
  former_placed = placed_at (slots_of v from.0) name ino from_directory.sized.directory.distinct (got_names (slots_of v from.0) name ino (ap (λ (ns : Names). finite.get ns name) from_directory.same ∙ r.former.got))

  pub former_stands : StandsAt (slots_of v from.0) name old_place
  former_stands = record { entry = entry_of name ino; there = former_placed.there; named = refl }

  -- the goal's slots before the entry comes
  pub then_other : from.0 ≢ to.0 → then_slots ≡ slots_of v to.0
  then_other apart = with_slots-other v.directories from.0 (λ slots. slice_set slots old_place None) to.0 (λ same. apart (sym same))

  pub then_same : from.0 ≡ to.0 → then_slots ≡ slice_set (slots_of v to.0) old_place None
  then_same same =
      subst (λ (n : ℕ). get_or (with_left v.directories (Some (leaving_of v from name))) n [] ≡ slice_set (slots_of v n) old_place None) same
      (with_slots-same v.directories from.0 (λ slots. slice_set slots old_place None) (let w = from_within in let c = is.directory_count in omega arith))

  pub from_old : StandsForDirectory (inode_at v.inodes from.0) (slots_of v from.0) r.former.names
  from_old = subst (λ (node : Option Node). StandsForNode sectors v tree from.0 (inode_at v.inodes from.0) node) r.former.here (node_there sectors v tree is stand from from_within)

  pub to_old : StandsForDirectory (inode_at v.inodes to.0) (slots_of v to.0) r.names
  to_old = subst (λ (node : Option Node). StandsForNode sectors v tree to.0 (inode_at v.inodes to.0) node) r.there (node_there sectors v tree is stand to to_within)

  pub then_names : StandsForDirectory (inode_at v.inodes to.0) then_slots (kept_names (from.0 == to.0) r.names name)
  then_names = elim (cases_eq from.0 to.0) [
    | inl same ↦ subst (λ (b : Bool). StandsForDirectory (inode_at v.inodes to.0) then_slots (kept_names b r.names name)) (sym (eq-eqb from.0 to.0 same))
        (subst (λ (slots : Slots). StandsForDirectory (inode_at v.inodes to.0) slots (finite.remove r.names name)) (sym (then_same same))
        (stands_left (inode_at v.inodes to.0) (inode_at v.inodes to.0) (slots_of v to.0) old_place r.names name to_directory.kind to_directory.sized.directory.distinct
        (subst (λ (n : ℕ). StandsAt (slots_of v n) name old_place) same former_stands) to_old))
    | inr apart ↦ subst (λ (b : Bool). StandsForDirectory (inode_at v.inodes to.0) then_slots (kept_names b r.names name)) (sym (ne_eqb from.0 to.0 apart))
        (subst (λ (slots : Slots). StandsForDirectory (inode_at v.inodes to.0) slots r.names) (sym (then_other apart)) to_old)
  ]

module _ (sectors : List (List ℕ)) (v : Volume) (tree less : Tree) (client : ClientId) (number : ℕ) (opened : List Ino) (from to ino : Ino) (replaced : Option Ino) (name goal : List ℕ) (g : Option Growth) (place : ℕ)
    (is : IsVolume v) (stand : StandForNodes sectors v tree) (r : Moved sectors v tree less from to ino replaced name goal) (l : IsLanding v from to name goal g place) where
  abbrev pub e : Edit
  e = moved_edit v client number opened from to ino replaced name goal g place

  abbrev to_then : Slots
  to_then = slots_then v from to name

  abbrev left_place : ℕ
  left_place = place_of (slots_of v from.0) name

  in_from : from.0 < length v.directories
  in_from = (let few = r.former.place_511 in let c = is.directory_count in omega arith)

  in_to : to.0 < length v.directories
  in_to = (let few = r.place_511 in let c = is.directory_count in omega arith)

  pub from_kept : is_edited e.inode from.0 ≡ false
  from_kept = not_edited v opened replaced from.0 (apart_from replaced r.goes)
    where
      apart_from : (o : Option Ino) → IfSome o (IsReplaced sectors v tree less from to) → IfSome o (λ target. target.0 ≢ from.0)
      apart_from (Some target) h = h.not_from
      apart_from None h = tt

  pub to_kept : is_edited e.inode to.0 ≡ false
  to_kept = not_edited v opened replaced to.0 (apart_to replaced r.goes)
    where
      apart_to : (o : Option Ino) → IfSome o (IsReplaced sectors v tree less from to) → IfSome o (λ target. target.0 ≢ to.0)
      apart_to (Some target) h = h.not_to
      apart_to None h = tt

  -- before the entry comes
  grown_then : (o : Option Growth) → IfSome o (λ grown. IsReady v to to_then (Some grown)) → get_or (with_grown v.directories o) to.0 [] ≡ with_block (slots_of v to.0) o
  grown_then (Some x) ready = ready_slots v to to_then (Some x) ready in_to
  grown_then None ready = refl

  pub left_to : slots_left v e to.0 ≡ with_block to_then g
  left_to = elim (cases_eq from.0 to.0) [
    | inl same ↦ subst (λ (o : Option Growth). get_or (with_left (with_grown v.directories o) (Some (leaving_of v from name))) to.0 [] ≡ with_block to_then o) (sym (l.alone same)) refl
    | inr apart ↦ with_slots-other (with_grown v.directories g) from.0 (λ slots. slice_set slots left_place None) to.0 (λ same. apart (sym same))
        ∙ grown_then g l.ready ∙ ap (λ (slots : Slots). with_block slots g) (sym (then_other sectors v tree less from to ino replaced name goal is stand r apart))
  ]

  not_grown : (o : Option Growth) → IfSome o (λ grown. IsReady v to to_then (Some grown)) → from.0 ≢ to.0 → get_or (with_grown v.directories o) from.0 [] ≡ slots_of v from.0
  not_grown (Some x) ready apart = slots_grown-none v (record e { growth = Some x }) from.0 (ready_other v to to_then (Some x) from.0 ready apart)
  not_grown None ready apart = refl

  left_from : from.0 ≢ to.0 → slots_left v e from.0 ≡ slice_set (slots_of v from.0) left_place None
  left_from apart =
      slots_left-some v e (leaving_of v from name) refl in_from
      ∙ ap (λ (slots : Slots). slice_set slots left_place None) (not_grown g l.ready apart)

  -- and in the end
  to_slots : slots_of (edited v e) to.0 ≡ slice_set (with_block to_then g) place (Some (entry_of goal ino))
  to_slots =
      slots_edited-some v e (record { directory = to; place = place; entry = entry_of goal ino }) refl to_kept in_to
      ∙ ap (λ (slots : Slots). slice_set slots place (Some (entry_of goal ino))) left_to

  from_slots : from.0 ≢ to.0 → slots_of (edited v e) from.0 ≡ slice_set (slots_of v from.0) left_place None
  from_slots apart = slots_edited-none v e from.0 from_kept (ne_eqb to.0 from.0 (λ same. apart (sym same))) ∙ left_from apart

  -- they stand for the names
  pub from_names : (new : Inode) → new.kind ≡ Dir → from.0 ≢ to.0 → StandsForDirectory new (slots_of (edited v e) from.0) (finite.remove r.former.names name)
  from_names new kind apart =
      subst (λ (slots : Slots). StandsForDirectory new slots (finite.remove r.former.names name)) (sym (from_slots apart))
      (stands_left (inode_at v.inodes from.0) new (slots_of v from.0) left_place r.former.names name kind (from_directory sectors v tree less from to ino replaced name goal is stand r).sized.directory.distinct (former_stands sectors v tree less from to ino replaced name goal is stand r) (from_old sectors v tree less from to ino replaced name goal is stand r))

  pub to_names : (new : Inode) → new.kind ≡ Dir → StandsForDirectory new (slots_of (edited v e) to.0) (finite.insert (kept_names (from.0 == to.0) r.names name) goal ino)
  to_names new kind =
      subst (λ (slots : Slots). StandsForDirectory new slots (finite.insert (kept_names (from.0 == to.0) r.names name) goal ino)) (sym to_slots)
      (stands_entered new new (with_block to_then g) place (kept_names (from.0 == to.0) r.names name) goal ino kind l.free
      (stands_same (inode_at v.inodes to.0) new to_then (with_block to_then g) (kept_names (from.0 == to.0) r.names name) kind (λ q. ready_entry to_then g q) (then_names sectors v tree less from to ino replaced name goal is stand r)))
