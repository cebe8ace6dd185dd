-- Each change that is refused, and a rename of an entry to itself, fits its plan.
use Rattle.std.proofs.Common.{◌≡◌, ◌≢◌, ◌&&◌, ℕ, Bool, true, false, not, List, [], ◌∷◌, Some, None, Result, Ok, Err, is_none, is_ok, inl, inr, refl, sym, ap, subst, ◌∙◌, if◌then◌else◌}
use Rattle.std.proofs.lemmas.Bool.{ne_eqb}
use Rattle.cal_base.specs.declared.directory_entry.EntryKind.TheVariants.{File as IsFile}
use Rattle.cal_base.specs.declared.identity.ClientId.{ClientId}
use Rattle.cal_base.specs.declared.identity.Ino.{Ino}
use Rattle.inode.specs.declared.inode.Kind.TheVariants.{File, Dir}
use Rattle.tree_facts.proofs.Paths.{has_parent, judged_empty, judged_file}
use Rattle.tree_law.specs.After.{put_name, take_name, with_move, without_replaced}
use Rattle.tree_law.specs.Answer.{made, moved}
use Rattle.tree_law.specs.Idle.{swept}
use Rattle.tree_law.specs.Legal.{after, blocks_of_move, tree_of, unless_refused}
use Rattle.tree_law.specs.Needs.{Touch, touches}
use Rattle.tree_law.specs.PartOf.{kind_of}
use Rattle.tree_law.specs.Rename.{move_of}
use Rattle.tree_law.specs.Resolve.{file_named, last_of, parent_of, removable, resolved}
use Rattle.tree_law.specs.Tree.{Tree, node_at, root}
use Rattle.tree_law.specs.declared.call.Call.{Call}
use Rattle.tree_law.specs.declared.call.Call.TheVariants.{Create, Mkdir, Unlink, Rmdir, Rename, Open, Close, Read, Write, Truncate, Stat, Readdir, Fsync}
use Rattle.tree_law.specs.declared.entry.Entry.{Entry}
use Rattle.tree_law.specs.declared.entry.Entry.TheVariants.{Call as Called}
use Rattle.tree_law.specs.declared.rename.Move.{Move}
use Rattle.tree_law.specs.declared.reply.Reply.TheVariants.{Done, Refused}
use Rattle.tree_law.specs.declared.reply.Why.{Why}
use Rattle.volume.specs.Volume.{Volume}
use Rattle.volume_edit.specs.Edit.{edited}
use Rattle.volume_plan.specs.Leads.{IsAsked, Mounted}
use Rattle.volume_plan.specs.Plans.{Plan, answered, if_room, moving, moving_by, plan, slot_alone, standing}
use Rattle.volume_plan.specs.Shown.{shown}
use Rattle.volume_plan.proofs.Fits.{StandForNodes}
use Rattle.volume_plan.proofs.Frames.{stand_swept}
use Rattle.volume_plan.proofs.Refusals.{alone_fits, making_refused, moving_refused_by, removing_refused}
use Rattle.volume_plan.proofs.Removals.{PlanFits, root_no_file, stand_nodes}
use Rattle.volume_plan.proofs.Standing.{allowed_move}
use Rattle.volume_plan.proofs.Similar.{same_file_named, same_parent_of, same_removable}
use Rattle.volume_plan.proofs.Whys.{file_named_whys, removable_whys}

-- what a rename of an entry to itself makes of a tree, and its plan
kept_by : {A : Type 0} (b : Bool) (x y : A) → b ≡ true → (if b then x else y) ≡ x
kept_by true x y same = refl
kept_by false x y same = absurd (cc)

moved_same : (tree : Tree) (move : Move) (name goal : List ℕ) → move.is_same ≡ true → with_move tree (Ok move) name goal ≡ tree
moved_same tree move name goal same = kept_by move.is_same tree (without_replaced (take_name (put_name tree move.to goal move.ino) move.from name) move.replaced) same

planned_same : (v : Volume) (client : ClientId) (number : ℕ) (opened : List Ino) (touched : List Touch) (move : Move) (name goal : List ℕ) → move.is_same ≡ true → moving_by v client number opened touched (Ok move) name goal ≡ standing v client number Done
planned_same v client number opened touched move name goal same = kept_by move.is_same (standing v client number Done) (if_room v client number (moving v client number opened touched move name goal)) same

module _ (sectors : List (List ℕ)) (v : Volume) (history : List Entry) (client : ClientId) (number : ℕ) (opened : List Ino) (m : Mounted sectors v history) where
  abbrev tree : Tree
  tree = tree_of history

  create_refused : (path : List (List ℕ)) (why : Why) → IsAsked history client number (Create path) opened → (plan v client number (Create path) opened).reply ≡ Refused why → PlanFits sectors v history client number (Create path) (plan v client number (Create path) opened)
  create_refused path why a refused = making_refused sectors v history client number (Create path) opened m a path File
      (λ other at. inl (ap made (sym at)))
      (λ place at. inr (ap is_ok at))
      (λ place free at less. inr (less, ap (unless_refused 1) (sym at)))
      why refused

  mkdir_refused : (path : List (List ℕ)) (why : Why) → IsAsked history client number (Mkdir path) opened → (plan v client number (Mkdir path) opened).reply ≡ Refused why → PlanFits sectors v history client number (Mkdir path) (plan v client number (Mkdir path) opened)
  mkdir_refused path why a refused = making_refused sectors v history client number (Mkdir path) opened m a path Dir
      (λ other at. inl (ap made (sym at)))
      (λ place at. inr (ap is_ok at))
      (λ place free at less. inr (less, ap (unless_refused 1) (sym at)))
      why refused

  -- a file or a directory that a path names has a directory above
  pub file_above : (path : List (List ℕ)) (ino : Ino) (why : Why) → file_named tree path ≡ Ok ino → parent_of tree path ≡ Err why → ⊥
  file_above [] ino why at up =
      let file = judged_file tree (Ok root) ino at in
      let same : root ≡ ino = (let both : Ok root ≡ Ok ino = file.0 in cc) in
      root_no_file sectors v tree m.volume (stand_nodes sectors v history m) (subst (λ (i : Ino). kind_of (node_at tree i) ≡ Some IsFile) (sym same) file.1)
  file_above (step ∷ steps) ino why at up = (let p = has_parent tree step steps ino (judged_file tree (resolved tree (step ∷ steps)) ino at).0 in let both : Ok p.place ≡ Err why = sym p.parent ∙ up in absurd (cc))

  pub directory_above : (path : List (List ℕ)) (ino : Ino) (why : Why) → removable tree path ≡ Ok ino → parent_of tree path ≡ Err why → ⊥
  directory_above [] ino why at up = absurd (cc)
  directory_above (step ∷ steps) ino why at up = (let p = has_parent tree step steps ino (judged_empty tree (resolved tree (step ∷ steps)) ino at) in let both : Ok p.place ≡ Err why = sym p.parent ∙ up in absurd (cc))

  unlink_refused : (path : List (List ℕ)) (why : Why) → IsAsked history client number (Unlink path) opened → (plan v client number (Unlink path) opened).reply ≡ Refused why → PlanFits sectors v history client number (Unlink path) (plan v client number (Unlink path) opened)
  unlink_refused path why a refused =
      let stand = stand_nodes sectors v history m in
      removing_refused sectors v history client number (Unlink path) opened m a (touches (shown v) (Unlink path)) (last_of path) (parent_of tree path) (file_named tree path)
      (λ other at. inl (ap made (sym at))) (file_named_whys tree path) (file_above path)
      (parent_of (shown v) path) (file_named (shown v) path) why (same_parent_of sectors v tree m.volume stand path).same (same_file_named sectors v tree m.volume stand path).same refused

  rmdir_refused : (path : List (List ℕ)) (why : Why) → IsAsked history client number (Rmdir path) opened → (plan v client number (Rmdir path) opened).reply ≡ Refused why → PlanFits sectors v history client number (Rmdir path) (plan v client number (Rmdir path) opened)
  rmdir_refused path why a refused =
      let stand = stand_nodes sectors v history m in
      removing_refused sectors v history client number (Rmdir path) opened m a (touches (shown v) (Rmdir path)) (last_of path) (parent_of tree path) (removable tree path)
      (λ other at. inl (ap made (sym at))) (removable_whys tree path) (directory_above path)
      (parent_of (shown v) path) (removable (shown v) path) why (same_parent_of sectors v tree m.volume stand path).same (same_removable sectors v tree m.volume stand path).same refused

  one_wanted : (move : Move) → is_none move.replaced ≡ true → move.from.0 ≢ move.to.0 → 1 ≡ blocks_of_move (Ok move)
  one_wanted move none apart = (λ i. if sym none i && not (sym (ne_eqb move.from.0 move.to.0 apart) i) then 1 else 0)

  rename_refused : (path goal : List (List ℕ)) (why : Why) → IsAsked history client number (Rename path goal) opened → (plan v client number (Rename path goal) opened).reply ≡ Refused why → PlanFits sectors v history client number (Rename path goal) (plan v client number (Rename path goal) opened)
  rename_refused path goal why a refused =
      subst (λ (r : Result Move Why). (moving_by v client number opened (touches (shown v) (Rename path goal)) r (last_of path) (last_of goal)).reply ≡ Refused why → PlanFits sectors v history client number (Rename path goal) (moving_by v client number opened (touches (shown v) (Rename path goal)) r (last_of path) (last_of goal)))
      (sym (allowed_move sectors v history path goal m))
      (moving_refused_by sectors v history client number (Rename path goal) opened m a path goal
      (λ other at. inl (ap moved (sym at)))
      (λ move free at none apart less. inr (less, one_wanted move none apart ∙ ap blocks_of_move (sym at)))
      (touches (shown v) (Rename path goal)) (move_of tree path goal) why refl)
      refused

  -- a change that is refused
  pub refusal_fits : (call : Call) (why : Why) → IsAsked history client number call opened → (plan v client number call opened).reply ≡ Refused why → PlanFits sectors v history client number call (plan v client number call opened)
  refusal_fits (Create path) why a refused = create_refused path why a refused
  refusal_fits (Mkdir path) why a refused = mkdir_refused path why a refused
  refusal_fits (Unlink path) why a refused = unlink_refused path why a refused
  refusal_fits (Rmdir path) why a refused = rmdir_refused path why a refused
  refusal_fits (Rename path goal) why a refused = rename_refused path goal why a refused
  refusal_fits (Open path mode) why a refused = (let c = a.change in absurd (cc))
  refusal_fits (Close fd) why a refused = (let c = a.change in absurd (cc))
  refusal_fits (Read fd offset len) why a refused = (let c = a.change in absurd (cc))
  refusal_fits (Write fd offset bytes) why a refused = (let c = a.change in absurd (cc))
  refusal_fits (Truncate fd size) why a refused = (let c = a.change in absurd (cc))
  refusal_fits (Stat path) why a refused = (let c = a.change in absurd (cc))
  refusal_fits (Readdir path) why a refused = (let c = a.change in absurd (cc))
  refusal_fits (Fsync fd) why a refused = (let c = a.change in absurd (cc))

  -- a rename of an entry to itself alters no entry
  same_later : (path goal : List (List ℕ)) (move : Move) → move_of tree path goal ≡ Ok move → move.is_same ≡ true → after tree (Called client number (Rename path goal) Done None) ≡ swept tree
  same_later path goal move at same = ap (λ (r : Result Move Why). swept (with_move tree r (last_of path) (last_of goal))) at ∙ ap swept (moved_same tree move (last_of path) (last_of goal) same)

  pub same_fits : (path goal : List (List ℕ)) (move : Move) → IsAsked history client number (Rename path goal) opened → move_of tree path goal ≡ Ok move → move.is_same ≡ true → PlanFits sectors v history client number (Rename path goal) (plan v client number (Rename path goal) opened)
  same_fits path goal move a at same =
      let planned : plan v client number (Rename path goal) opened ≡ standing v client number Done =
      ap (λ (r : Result Move Why). moving_by v client number opened (touches (shown v) (Rename path goal)) r (last_of path) (last_of goal)) (allowed_move sectors v history path goal m ∙ at)
      ∙ planned_same v client number opened (touches (shown v) (Rename path goal)) move (last_of path) (last_of goal) same in
      subst (λ (p : Plan). PlanFits sectors v history client number (Rename path goal) p) (sym planned)
      (alone_fits sectors v history client number (Rename path goal) opened m a Done tt
      (record { present = a.present; allowed = inl (ap moved (sym at)); new_inode = refl; flushed = a.flushed })
      (λ others stand. subst (λ (t : Tree). StandForNodes others (edited v (slot_alone (answered v client number Done))) t) (sym (same_later path goal move at same)) (stand_swept others (edited v (slot_alone (answered v client number Done))) tree stand)))
