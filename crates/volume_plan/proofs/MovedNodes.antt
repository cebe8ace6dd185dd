-- A move: its edit keeps the grammar, and the inodes stand for the tree in which the entry has moved.
use Rattle.std.proofs.Common.{◌≡◌, ◌≢◌, ◌≤◌, ◌<◌, ◌+◌, ℕ, false, List, length, slice_index, Option, Some, None, IfSome, inl, inr, refl, sym, ap, subst, ◌∙◌, arith}
use Rattle.cal_base.specs.Limits as limits
use Rattle.std.specs.Prelude.{option_map}
use Rattle.std.proofs.lemmas.Bool.{cases_eq, ne_eqb}
use Rattle.cal_base.specs.declared.identity.ClientId.{ClientId}
use Rattle.cal_base.specs.declared.identity.Ino.{Ino}
use Rattle.directory.specs.Block.{entry_at}
use Rattle.inode.specs.declared.inode.Inode.{Inode}
use Rattle.inode.specs.declared.inode.Kind.TheVariants.{Dir}
use Rattle.tree_law.proofs.IdleLemmas.{node_of}
use Rattle.tree_law.specs.Idle.{is_open, swept}
use Rattle.tree_law.specs.Path.{IsName}
use Rattle.tree_law.specs.Tree.{Tree}
use Rattle.tree_law.specs.declared.node.Node.{Node}
use Rattle.tree_law.specs.declared.reply.Reply.TheVariants.{Done}
use Rattle.volume.specs.Stands.{AreBlocksKept, StandsForNode}
use Rattle.volume.specs.Volume.{Slots, Volume, slots_of}
use Rattle.volume_edit.specs.Blocks.{IsGrowing, IsPointing, TakesFree}
use Rattle.volume_edit.specs.Edit.{IsEdit, IsGrowth, IsInodeEdit, IsSlotEdit, IsStaying, IsVolume, edited, inode_at, is_edited, slots_left}
use Rattle.volume_edit.specs.declared.edit.Edit.{Edit}
use Rattle.volume_edit.specs.declared.edit.Growth.{Growth}
use Rattle.volume_edit.proofs.Grammar.{inode_is, kind_kept}
use Rattle.volume_edit.proofs.Inodes.{inode_put, is_grown, some_has}
use Rattle.volume_plan.specs.Plans.{answered, inode_gone, is_opened}
use Rattle.volume_plan.proofs.EditedAt.{IsKept, kept_stands, length-edited, stand_each}
use Rattle.volume_plan.proofs.Fits.{KeepsFiles, StandForNodes}
use Rattle.volume_plan.proofs.Frames.{keeps_bytes}
use Rattle.volume_plan.proofs.Gone.{gone_edit, gone_points, gone_stands, swept_at}
use Rattle.volume_plan.proofs.Made.{ready_other}
use Rattle.volume_plan.proofs.MovedNames.{IsApart, IsReplaced, Moved}
use Rattle.volume_plan.proofs.MovedSlots.{IsLanding, not_edited, from_directory, from_kept, from_names, left_to, moved_edit, former_placed, slots_then, to_directory, to_kept, to_names, then_other}
use Rattle.volume_plan.proofs.Room.{IsReady, with_block}
use Rattle.volume_plan.proofs.Similar.{inode_there}

module _ (sectors : List (List ℕ)) (v : Volume) (tree less : Tree) (client : ClientId) (number : ℕ) (opened : List Ino) (from to ino : Ino) (replaced : Option Ino) (name goal : List ℕ) (g : Option Growth) (place : ℕ)
    (is : IsVolume v) (stand : StandForNodes sectors v tree) (r : Moved sectors v tree less from to ino replaced name goal) (l : IsLanding v from to name goal g place) where
  abbrev e : Edit
  e = moved_edit v client number opened from to ino replaced name goal g place

  abbrev then_slots : Slots
  then_slots = slots_then v from to name

  from_stays : IsStaying v e from.0
  from_stays = record {
    to_511 = (let few = r.former.place_511 in omega arith);
    kind = (from_directory sectors v tree less from to ino replaced name goal is stand r).kind;
    stays = from_kept sectors v tree less client number opened from to ino replaced name goal g place is stand r l;
  }

  to_stays : IsStaying v e to.0
  to_stays = record {
    to_511 = (let few = r.place_511 in omega arith);
    kind = (to_directory sectors v tree less from to ino replaced name goal is stand r).kind;
    stays = to_kept sectors v tree less client number opened from to ino replaced name goal g place is stand r l;
  }

  left_is : slots_left v e to.0 ≡ with_block then_slots g
  left_is = left_to sectors v tree less client number opened from to ino replaced name goal g place is stand r l

  -- ---- the grammar

  gone_edits : (o : Option Ino) → IfSome o (IsReplaced sectors v tree less from to) → IfSome (option_map (inode_gone v opened) o) IsInodeEdit
  gone_edits (Some target) h = gone_edit v opened target h.from_one (let few = h.to_511 in omega arith) (inode_is v is target.0 (let few = h.to_511 in omega arith))
  gone_edits None h = tt

  different : (grown : Growth) → g ≡ Some grown → from.0 ≢ to.0
  different grown some same = (let both : Some grown ≡ None = sym some ∙ l.alone same in absurd (cc))

  grows : (o : Option Growth) → g ≡ o → IfSome o (λ grown. IsReady v to then_slots (Some grown)) → IfSome o (λ grown. length (slots_of v to.0) ≤ place) → IfSome o (IsGrowth v e)
  grows (Some x) some ready behind =
      let at : to.0 ≡ x.directory.0 = sym (ap (λ (i : Ino). i.0) ready.directory) in
      let fewer : length (slots_of v to.0) < limits.directory_entries = subst (λ (slots : Slots). length slots < limits.directory_entries) (then_other sectors v tree less from to ino replaced name goal is stand r (different x some)) ready.full.fewer in
      record {
        directory = subst (λ (n : ℕ). IsStaying v e n) at to_stays;
        fewer = subst (λ (n : ℕ). length (slots_of v n) < limits.directory_entries) at fewer;
        block = (let w = ready.within in let c = is.map in omega arith);
        filled = record { directory = at; place = subst (λ (n : ℕ). length (slots_of v n) ≤ place) at behind };
      }
  grows None some ready behind = tt

  pub moved_is_edit : IsSlotEdit (answered v client number Done) → IsName goal → IsEdit v e
  moved_is_edit slot named = record {
    some = inl refl;
    slot = slot;
    inode = gone_edits replaced r.goes;
    growth = grows g refl l.ready l.behind;
    leaving = record {
      directory = from_stays;
      within = (former_placed sectors v tree less from to ino replaced name goal is stand r).within;
    };
    entering = record {
      directory = to_stays;
      within = subst (λ (slots : Slots). place < length slots) (sym left_is) l.free.within;
      entry = record { name = named; from_one = r.former.from_one; to_511 = (let few = r.former.to_511 in omega arith) };
      alone = λ q other at same. l.free.alone q other (ap (λ (slots : Slots). entry_at slots q) (sym left_is) ∙ at) same;
    };
  }

  -- ---- the blocks

  gone_takes : (o : Option Ino) → IfSome o (IsReplaced sectors v tree less from to) → AreBlocksKept v → IfSome (option_map (inode_gone v opened) o) (IsPointing v)
  gone_takes (Some target) h kept = gone_points v opened target is kept (let few = h.to_511 in omega arith)
  gone_takes None h kept = tt

  grown_takes : (o : Option Growth) → IfSome o (λ grown. IsReady v to then_slots (Some grown)) → IfSome o (λ grown. replaced ≡ None) → IfSome o (IsGrowing v e)
  grown_takes (Some x) ready none = record {
    free = ready.free;
    alone = subst (λ (o : Option Ino). IfSome (option_map (inode_gone v opened) o) (λ i. (p : ℕ) → slice_index i.inode.blocks p ≢ x.block + 1)) (sym none) tt;
  }
  grown_takes None ready none = tt

  pub moved_takes : AreBlocksKept v → IfSome g (λ grown. replaced ≡ None) → TakesFree v e
  moved_takes kept none = record { inode = gone_takes replaced r.goes kept; growth = grown_takes g l.ready none }

  -- ---- the nodes

  module _ (others : List (List ℕ)) (keeps : KeepsFiles v sectors others) (edit : IsEdit v e) where
    abbrev w : Volume
    w = edited v e

    abbrev Stands : ℕ → Type 0
    Stands n = StandsForNode others w (swept less) n (inode_at w.inodes n) (node_of (swept less) n)

    from_kind : (inode_at w.inodes from.0).kind ≡ Dir
    from_kind = kind_kept v e is.inode_count edit from.0 from_stays.stays ∙ from_stays.kind

    to_kind : (inode_at w.inodes to.0).kind ≡ Dir
    to_kind = kind_kept v e is.inode_count edit to.0 to_stays.stays ∙ to_stays.kind

    at_to : Stands to.0
    at_to = swept_at others w less to.0 (inode_at w.inodes to.0)
        (subst (λ (node : Option Node). StandsForNode others w less to.0 (inode_at w.inodes to.0) node) (sym r.entered)
        (to_names sectors v tree less client number opened from to ino replaced name goal g place is stand r l (inode_at w.inodes to.0) to_kind))

    at_from : from.0 ≢ to.0 → Stands from.0
    at_from apart = swept_at others w less from.0 (inode_at w.inodes from.0)
        (subst (λ (node : Option Node). StandsForNode others w less from.0 (inode_at w.inodes from.0) node) (sym (r.left apart))
        (from_names sectors v tree less client number opened from to ino replaced name goal g place is stand r l (inode_at w.inodes from.0) from_kind apart))

    not_there : (n : ℕ) → IsApart replaced n → is_edited e.inode n ≡ false
    not_there n apart = not_edited v opened replaced n (turned replaced apart)
      where
        turned : (o : Option Ino) → IsApart o n → IfSome o (λ target. target.0 ≢ n)
        turned (Some target) other = λ same. other (sym same)
        turned None other = tt

    not_grown : (o : Option Growth) (n : ℕ) → IfSome o (λ grown. IsReady v to then_slots (Some grown)) → n ≢ to.0 → is_grown o n ≡ false
    not_grown (Some x) n ready apart = ready_other v to then_slots (Some x) n ready apart
    not_grown None n ready apart = refl

    at_other : (n : ℕ) → n < limits.inodes → n ≢ from.0 → n ≢ to.0 → IsApart replaced n → Stands n
    at_other n within no_from no_to apart =
        let kept : IsKept e n = record {
          edited = not_there n apart;
          grown = not_grown g n l.ready no_to;
          left = ne_eqb from.0 n (λ same. no_from (sym same));
          entered = ne_eqb to.0 n (λ same. no_to (sym same));
        } in
        swept_at others w less n (inode_at w.inodes n) (kept_stands sectors others v e tree less (record { 0 = n }) is keeps stand within kept (r.others n no_from no_to apart) (r.named n apart))

    at_replaced : (target : Ino) → replaced ≡ Some target → (is_opened opened target ≡ false → is_open less target.0 ≡ false) → Stands target.0
    at_replaced target some shut =
        let h : IsReplaced sectors v tree less from to target = some_has (IsReplaced sectors v tree less from to) replaced target r.goes some in
        let within : target.0 < limits.inodes = (let few = h.to_511 in omega arith) in
        subst (λ (inode : Inode). StandsForNode others w (swept less) target.0 inode (node_of (swept less) target.0)) (sym (inode_put v e (inode_gone v opened target) is.inode_count edit (ap (option_map (inode_gone v opened)) some)))
        (gone_stands sectors others w (inode_at v.inodes target.0) tree less target.0 (is_opened opened target) within (keeps_bytes sectors others v target.0 (inode_at v.inodes target.0) keeps (inode_there v is target.0 within)) shut h.loses)

    at_kept : (n : ℕ) → n < limits.inodes → IsApart replaced n → Stands n
    at_kept n within apart = elim (cases_eq n to.0) [
      | inl same ↦ subst Stands (sym same) at_to
      | inr no_to ↦ elim (cases_eq n from.0) [
        | inl same ↦ subst Stands (sym same) (at_from (λ e. no_to (same ∙ e)))
        | inr no_from ↦ at_other n within no_from no_to apart
      ]
    ]

    at_each : (o : Option Ino) → replaced ≡ o → (shut : (target : Ino) → is_opened opened target ≡ false → is_open less target.0 ≡ false) → (n : ℕ) → n < limits.inodes → Stands n
    at_each None none shut n within = at_kept n within (subst (λ (o : Option Ino). IsApart o n) (sym none) tt)
    at_each (Some target) some shut n within = elim (cases_eq n target.0) [
      | inl same ↦ subst Stands (sym same) (at_replaced target some (shut target))
      | inr apart ↦ at_kept n within (subst (λ (o : Option Ino). IsApart o n) (sym some) apart)
    ]

    pub moved_stands : (shut : (target : Ino) → is_opened opened target ≡ false → is_open less target.0 ≡ false) → StandForNodes others w (swept less)
    moved_stands shut = stand_each others w (swept less) (length-edited v e is) (λ n within. at_each replaced refl shut n.0 within)
