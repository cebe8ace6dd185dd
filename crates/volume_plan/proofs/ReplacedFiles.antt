-- When a `rename` is done, and what becomes of a file that it replaces.
use Rattle.std.proofs.Common.{◌≡◌, ◌≤◌, ℕ, Bool, true, false, nat_lt, List, Option, Some, None, Result, Ok, is_none, inl, inr, refl, sym, ap, subst, ◌∙◌, arith, if◌then◌else◌}
use Rattle.std.specs.Prelude.{option_map}
use Rattle.std.proofs.lemmas.Bool.{ltb-true}
use Rattle.cal_base.specs.declared.directory_entry.EntryKind.TheVariants.{File as IsFile}
use Rattle.cal_base.specs.declared.identity.ClientId.{ClientId}
use Rattle.cal_base.specs.declared.identity.Ino.{Ino}
use Rattle.inode.specs.declared.inode.Inode.{Inode}
use Rattle.tree_facts.proofs.Entries.{NamesIt}
use Rattle.tree_facts.proofs.Moves.{moves_by, replaced_stood}
use Rattle.tree_facts.proofs.OneNameKept.{one_named}
use Rattle.tree_law.specs.Legal.{tree_of}
use Rattle.tree_law.specs.Needs.{touches}
use Rattle.tree_law.specs.PartOf.{kind_of}
use Rattle.tree_law.specs.Rename.{move_of}
use Rattle.tree_law.specs.Resolve.{last_of}
use Rattle.tree_law.specs.Tree.{node_at}
use Rattle.tree_law.specs.declared.call.Call.TheVariants.{Rename}
use Rattle.tree_law.specs.declared.entry.Entry.{Entry}
use Rattle.tree_law.specs.declared.rename.Move.{Move}
use Rattle.tree_law.specs.declared.reply.Reply.TheVariants.{Done}
use Rattle.tree_law.specs.declared.reply.Why.{Why}
use Rattle.volume.specs.Volume.{Volume}
use Rattle.volume_edit.specs.Edit.{edited, inode_at}
use Rattle.volume_edit.proofs.Inodes.{inode_put, some_has}
use Rattle.volume_plan.specs.Leads.{IsAsked, Mounted}
use Rattle.volume_plan.specs.Plans.{Plan, blocks_needed, free_count, if_room, inode_gone, is_opened, moving, moving_by, plan, short, slots_without, standing}
use Rattle.volume_plan.specs.Removals.{IsFreedOrKept}
use Rattle.volume_plan.specs.Shown.{shown}
use Rattle.volume_plan.proofs.Removals.{kept_or_freed, loses_file, stand_nodes}
use Rattle.volume_plan.proofs.Standing.{allowed_move}
use Rattle.volume_plan.proofs.Renames.{moved_fits}

module _ (sectors : List (List ℕ)) (v : Volume) (history : List Entry) (client : ClientId) (number : ℕ) (path goal : List (List ℕ)) (opened : List Ino) (m : Mounted sectors v history) where
  abbrev planned_as : Result Move Why → Plan
  planned_as r = moving_by v client number opened (touches (shown v) (Rename path goal)) r (last_of path) (last_of goal)

  abbrev moving_as : Move → Plan
  moving_as move = moving v client number opened (touches (shown v) (Rename path goal)) move (last_of path) (last_of goal)

  planned_move : (move : Move) → move_of (tree_of history) path goal ≡ Ok move → plan v client number (Rename path goal) opened ≡ planned_as (Ok move)
  planned_move move at = ap planned_as (allowed_move sectors v history path goal m ∙ at)

  not_less : (a b : ℕ) → b ≤ a → nat_lt a b ≡ false
  not_less a b most = elim (nat_lt a b) as (λ t. nat_lt a b ≡ t → t ≡ false) [
    | true ↦ λ e. (let below = ltb-true a b e in absurd (omega arith))
    | false ↦ λ e. refl
  ] refl

  with_room : (p : Plan) → p.reply ≡ Done → (if_room v client number p).needed ≤ free_count v → (if_room v client number p).reply ≡ Done
  with_room p done = elim (nat_lt (free_count v) p.needed) as (λ b. nat_lt (free_count v) p.needed ≡ b → (if b then short v client number p.touches p.needed else p).needed ≤ free_count v → (if b then short v client number p.touches p.needed else p).reply ≡ Done) [
    | true ↦ λ less few. (let below = ltb-true (free_count v) p.needed less in absurd (omega arith))
    | false ↦ λ enough few. done
  ] refl

  done_by : (move : Move) (b : Bool) → (if b then standing v client number Done else if_room v client number (moving_as move)).needed ≤ free_count v → (if b then standing v client number Done else if_room v client number (moving_as move)).reply ≡ Done
  done_by move true few = refl
  done_by move false few = with_room (moving_as move) refl few

  pub rename_done : (move : Move) → move_of (tree_of history) path goal ≡ Ok move → (plan v client number (Rename path goal) opened).needed ≤ free_count v → (plan v client number (Rename path goal) opened).reply ≡ Done
  rename_done move at few = subst (λ (p : Plan). p.needed ≤ free_count v → p.reply ≡ Done) (sym (planned_move move at)) (done_by move move.is_same) few

  no_same : (move : Move) (target : Ino) → move_of (tree_of history) path goal ≡ Ok move → move.replaced ≡ Some target → move.is_same ≡ false
  no_same move target at some = elim (moves_by (tree_of history) path goal move at).goes [
    | inl same ↦ (let none : None ≡ Some target = ap (λ (x : Move). x.replaced) same ∙ some in absurd (cc))
    | inr g ↦ g.lands.other
  ]

  -- a move that replaces needs no block
  no_need : (move : Move) (target : Ino) → move.replaced ≡ Some target → nat_lt (free_count v) (moving_as move).needed ≡ false
  no_need move target some = not_less (free_count v) (moving_as move).needed
      (subst (λ (o : Option Ino). (if is_none o then blocks_needed (slots_without v move (last_of path)) else 0) ≤ free_count v) (sym some) (omega arith))

  replacing_plan : (move : Move) (target : Ino) → move_of (tree_of history) path goal ≡ Ok move → move.replaced ≡ Some target → plan v client number (Rename path goal) opened ≡ moving_as move
  replacing_plan move target at some =
      planned_move move at
      ∙ ap (λ (b : Bool). if b then standing v client number Done else if_room v client number (moving_as move)) (no_same move target at some)
      ∙ ap (λ (b : Bool). if b then short v client number (moving_as move).touches (moving_as move).needed else moving_as move) (no_need move target some)

  pub replaced_inode : IsAsked history client number (Rename path goal) opened → (move : Move) (target : Ino) → move_of (tree_of history) path goal ≡ Ok move → move.replaced ≡ Some target → kind_of (node_at (tree_of history) target) ≡ Some IsFile
      → IsFreedOrKept (is_opened opened target) (inode_at v.inodes target.0) (inode_at (edited v (plan v client number (Rename path goal) opened).edit).inodes target.0)
  replaced_inode a move target at some kind =
      let is = m.volume in
      let fits = moved_fits sectors v history client number path goal opened m a move (touches (shown v) (Rename path goal)) at (no_same move target at some) (no_need move target some) in
      let put = inode_put v (moving_as move).edit (inode_gone v opened target) is.inode_count fits.edit (ap (option_map (inode_gone v opened)) some) in
      let stood = some_has (NamesIt (node_at (tree_of history) move.to) (last_of goal)) move.replaced target (replaced_stood (tree_of history) path goal move (moves_by (tree_of history) path goal move at)) some in
      let few = ((one_named history m.legal).number move.to.0 (last_of goal) target stood).to_511 in
      let file = loses_file sectors v (tree_of history) target is (stand_nodes sectors v history m) (omega arith) kind in
      subst (λ (p : Plan). IsFreedOrKept (is_opened opened target) (inode_at v.inodes target.0) (inode_at (edited v p.edit).inodes target.0)) (sym (replacing_plan move target at some))
      (subst (λ (inode : Inode). IsFreedOrKept (is_opened opened target) (inode_at v.inodes target.0) inode) (sym put) (kept_or_freed (inode_at v.inodes target.0).kind (inode_at v.inodes target.0) (is_opened opened target) refl file))
