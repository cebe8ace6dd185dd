-- The plan of a `rename` that moves an entry fits.
use Rattle.std.proofs.Common.{◌≡◌, ◌≢◌, ◌<◌, ◌-◌, ℕ, Bool, true, false, nat_lt, List, [], ◌∷◌, length, get_or, Option, Some, None, Result, Ok, Err, ok_or, IfSome, is_none, inl, inr, refl, sym, ap, subst, ◌∙◌, arith, eqb-true, if◌then◌else◌}
use Rattle.cal_base.specs.Limits as limits
use Rattle.std.proofs.lemmas.Bool.{cases_lt, le-leb}
use Rattle.std.specs.FinMap as finite
use Rattle.cal_base.specs.declared.identity.ClientId.{ClientId}
use Rattle.cal_base.specs.declared.identity.Ino.{Ino}
use Rattle.directory.specs.Directory.{first_empty}
use Rattle.tree_facts.proofs.Entries.{NamesIt, is_directory_by}
use Rattle.tree_facts.proofs.Moves.{CanReplace, Goes, IsMove, moves_by}
use Rattle.tree_facts.proofs.NameChanges.{IsThere}
use Rattle.tree_facts.proofs.OneName.{OneNamed}
use Rattle.tree_facts.proofs.OneNameKept.{one_named}
use Rattle.tree_law.specs.After.{put_name, take_name, with_move, without_replaced}
use Rattle.tree_law.specs.Answer.{moved}
use Rattle.tree_law.specs.Idle.{swept, with_node}
use Rattle.tree_law.specs.Legal.{after, is_flushed_move, is_flushed_target, tree_of}
use Rattle.tree_law.specs.Names.{Names}
use Rattle.tree_law.specs.Needs.{Touch, touches}
use Rattle.tree_law.specs.Path.{IsName, IsPath}
use Rattle.tree_law.specs.Rename.{is_directory, is_full_directory, move_of}
use Rattle.tree_law.specs.Resolve.{last_of, looked_up}
use Rattle.tree_law.specs.Tree.{Tree, node_at, writer_of}
use Rattle.tree_law.specs.declared.call.Call.TheVariants.{Rename}
use Rattle.tree_law.specs.declared.descriptor.Descriptor.{Descriptor}
use Rattle.tree_law.specs.declared.entry.Entry.{Entry}
use Rattle.tree_law.specs.declared.entry.Entry.TheVariants.{Call as Called}
use Rattle.tree_law.specs.declared.node.Node.{Node}
use Rattle.tree_law.specs.declared.node.Node.TheVariants.{Directory, Regular}
use Rattle.tree_law.specs.declared.rename.Move.{Move}
use Rattle.tree_law.specs.declared.reply.Reply.TheVariants.{Done}
use Rattle.tree_law.specs.declared.reply.Why.{Why}
use Rattle.tree_law.specs.declared.reply.Why.TheVariants.{NoEnt}
use Rattle.volume.specs.Volume.{Volume, slots_of}
use Rattle.volume_edit.specs.Edit.{IsVolume, edited}
use Rattle.volume_edit.specs.declared.edit.Growth.{Growth}
use Rattle.volume_plan.specs.Leads.{IsAsked, Mounted}
use Rattle.volume_plan.specs.Plans.{Plan, blocks_needed, free_count, growth_of, if_room, moving, moving_by, place_of, plan, short, standing}
use Rattle.volume_plan.specs.Planned.{PlanLeads}
use Rattle.volume_plan.specs.Shown.{shown}
use Rattle.volume_plan.proofs.Clients.{clients_called}
use Rattle.volume_plan.proofs.Fits.{StandForNodes}
use Rattle.volume_plan.proofs.Gone.{not_open}
use Rattle.volume_plan.proofs.Leading.{fits_leads}
use Rattle.volume_plan.proofs.MovedNames.{Moved, moved_alone, moved_over_directory, moved_over_file, replaced_directory, replaced_file, target_node, is_empty, is_file}
use Rattle.volume_plan.proofs.MovedNodes.{moved_is_edit, moved_stands, moved_takes}
use Rattle.volume_plan.proofs.MovedPlaces.{lands_alone, lands_over}
use Rattle.volume_plan.proofs.MovedSlots.{IsLanding, moved_edit, slots_then}
use Rattle.volume_plan.proofs.RefusedCalls.{same_fits}
use Rattle.volume_plan.proofs.RemovedNames.{IsEmptyNode, IsFileNode, Named, directory_node, found_name, named_there}
use Rattle.volume_plan.proofs.Removals.{PlanFits, done_slot, stand_clients, stand_nodes}
use Rattle.volume_plan.proofs.Standing.{allowed_move}

-- ---- the last name of the goal

path_name : (path : List (List ℕ)) (name : List ℕ) (names : List (List ℕ)) → path ≡ name ∷ names → IsPath path → IsName (last_of path)
path_name path name names is p = p.names (length path - 1) [] (let e = ap length is in omega arith)

pub goal_name : (tree : Tree) (path goal : List (List ℕ)) (move : Move) → move_of tree path goal ≡ Ok move → IsPath goal → IsName (last_of goal)
goal_name tree [] goal move is p = absurd (cc)
goal_name tree (name ∷ names) [] move is p = absurd (cc)
goal_name tree (name ∷ names) (other ∷ others) move is p = path_name (other ∷ others) other others refl p

-- ---- what a move finds

-- a move of an entry to another place
pub moves_apart : (tree : Tree) (path goal : List (List ℕ)) (move : Move) → move.is_same ≡ false → IsMove tree path goal move → Goes tree path goal move.ino move.from move.to move
moves_apart tree path goal move other m = elim m.goes [
  | inl same ↦ (let one : true ≡ move.is_same = ap (λ (x : Move). x.is_same) same in absurd (cc))
  | inr g ↦ g
]

not_full : (names : Names) → is_full_directory (Some (Directory names)) ≡ false → finite.len names < limits.directory_entries
not_full names is = elim (cases_lt (finite.len names) 1024) [
  | inl below ↦ below
  | inr above ↦ (let least = le-leb 1024 (finite.len names) above in absurd (cc))
]

-- what can be replaced is a file without writer, or an empty directory
pub data Replaceable (node target : Option Node) : Type 0 where
  by_file : IsFileNode target → Replaceable node target
  by_directory : IsEmptyNode target → Replaceable node target

replaceable : (node target : Option Node) → IsThere node → IsThere target → CanReplace node target → Replaceable node target
replaceable (Some (Directory names)) (Some (Directory others)) there stands can = by_directory (record { names = others; is = refl; empty = eqb-true (finite.len others) 0 can })
replaceable (Some (Directory names)) (Some (Regular file)) there stands can = absurd can
replaceable (Some (Directory names)) None there stands can = absurd (stands refl)
replaceable (Some (Regular file)) (Some (Directory others)) there stands can = absurd can
replaceable (Some (Regular file)) (Some (Regular other)) there stands can = by_file (record { file = other; is = refl })
replaceable (Some (Regular file)) None there stands can = absurd (stands refl)
replaceable None target there stands can = absurd (there refl)

none_name : (found : Option Ino) → ok_or found NoEnt ≡ Err NoEnt → found ≡ None
none_name (Some ino) is = absurd (cc)
none_name None is = refl

-- ---- the tree after a move

-- the tree without what is replaced, and what has moved in it
pub record HasMoved (sectors : List (List ℕ)) (v : Volume) (tree from_tree : Tree) (from to ino : Ino) (replaced : Option Ino) (name goal : List ℕ) : Type 0 where
  pub less : Tree
  pub is : without_replaced from_tree replaced ≡ less
  pub tables : less.tables ≡ tree.tables
  pub moved : Moved sectors v tree less from to ino replaced name goal

module _ (sectors : List (List ℕ)) (v : Volume) (tree : Tree) (from to ino : Ino) (name goal : List ℕ) (names : Names) (is : IsVolume v) (stand : StandForNodes sectors v tree)
    (all : OneNamed tree.nodes) (former : Named tree from ino name) (there : node_at tree to ≡ Some (Directory names)) (two : from.0 ≡ to.0 → name ≢ goal) where
  abbrev both_names : Tree
  both_names = take_name (put_name tree to goal ino) from name

  over_file : (target : Ino) → finite.get names goal ≡ Some target → IsFileNode (node_at tree target) → is_none (writer_of (node_at tree target)) ≡ true → HasMoved sectors v tree both_names from to ino (Some target) name goal
  over_file target stood f flushed = record {
    less = both_names;
    is = replaced_file both_names target (ap is_directory (target_node sectors v tree from to ino name goal names is stand all former there two target stood (is_file f flushed) ∙ f.is));
    tables = refl;
    moved = moved_over_file sectors v tree from to ino name goal names is stand all former there two target stood f flushed;
  }

  over_directory : (target : Ino) → finite.get names goal ≡ Some target → IsEmptyNode (node_at tree target) → HasMoved sectors v tree both_names from to ino (Some target) name goal
  over_directory target stood e = record {
    less = with_node both_names target.0 None;
    is = replaced_directory both_names target (ap is_directory (target_node sectors v tree from to ino name goal names is stand all former there two target stood (is_empty e) ∙ e.is));
    tables = refl;
    moved = moved_over_directory sectors v tree from to ino name goal names is stand all former there two target stood e;
  }

  over : (target : Ino) → finite.get names goal ≡ Some target → is_none (writer_of (node_at tree target)) ≡ true → Replaceable (node_at tree ino) (node_at tree target) → HasMoved sectors v tree both_names from to ino (Some target) name goal
  over target stood flushed (by_file f) = over_file target stood f flushed
  over target stood flushed (by_directory e) = over_directory target stood e

  at_goal : (x : Ino) → NamesIt (node_at tree to) goal x → finite.get names goal ≡ Some x
  at_goal x named = found_name (finite.get names goal) x (subst (λ (node : Option Node). NamesIt node goal x) there named)

  pub has_moved : (replaced : Option Ino) → IfSome replaced (NamesIt (node_at tree to) goal) → IfSome replaced (λ target. CanReplace (node_at tree ino) (node_at tree target)) → (replaced ≡ None → looked_up (node_at tree to) goal ≡ Err NoEnt)
      → is_flushed_target tree replaced ≡ true → IsThere (node_at tree ino) → HasMoved sectors v tree both_names from to ino replaced name goal
  has_moved None stood fits vacant flushed stands = record {
    less = both_names;
    is = refl;
    tables = refl;
    moved = moved_alone sectors v tree from to ino name goal names is stand all former there two
        (none_name (finite.get names goal) (subst (λ (node : Option Node). looked_up node goal ≡ Err NoEnt) there (vacant refl)));
  }
  has_moved (Some target) stood fits vacant flushed stands =
      over target (at_goal target stood) flushed (replaceable (node_at tree ino) (node_at tree target) stands (all.there to.0 goal target stood) fits)

-- ---- where the entry lands

module _ (sectors : List (List ℕ)) (v : Volume) (tree less : Tree) (from to ino : Ino) (name goal : List ℕ) (is : IsVolume v) (stand : StandForNodes sectors v tree) where
  pub landing_is : (replaced : Option Ino) → (r : Moved sectors v tree less from to ino replaced name goal) → (replaced ≡ None → from.0 ≢ to.0 → is_full_directory (node_at tree to) ≡ false)
      → nat_lt (free_count v) (if is_none replaced then blocks_needed (slots_then v from to name) else 0) ≡ false
      → IsLanding v from to name goal (if is_none replaced then growth_of v to (slots_then v from to name) else None) (if is_none replaced then first_empty (slots_then v from to name) else place_of (slots_of v to.0) goal)
  landing_is None r room enough =
      lands_alone sectors v tree less from to ino None name goal is stand r (r.vacant refl)
      (λ apart. not_full r.names (subst (λ (node : Option Node). is_full_directory node ≡ false) r.there (room refl apart))) enough
  landing_is (Some target) r room enough = lands_over sectors v tree less from to ino (Some target) name goal is stand r target r.stood

only_alone : (v : Volume) (to : Ino) (replaced : Option Ino) (g : Option Growth) → IfSome (if is_none replaced then g else None) (λ grown. replaced ≡ None)
only_alone v to None (Some x) = refl
only_alone v to None None = tt
only_alone v to (Some target) g = tt

-- ---- a move fits

module _ (sectors : List (List ℕ)) (v : Volume) (history : List Entry) (client : ClientId) (number : ℕ) (path goal : List (List ℕ)) (opened : List Ino) (m : Mounted sectors v history) (a : IsAsked history client number (Rename path goal) opened) where
  abbrev tree : Tree
  tree = tree_of history

  abbrev name : List ℕ
  name = last_of path

  abbrev last : List ℕ
  last = last_of goal

  pub moved_fits : (move : Move) (touched : List Touch) → move_of tree path goal ≡ Ok move → move.is_same ≡ false → nat_lt (free_count v) (moving v client number opened touched move name last).needed ≡ false
      → PlanFits sectors v history client number (Rename path goal) (moving v client number opened touched move name last)
  moved_fits move touched at other enough =
      let is = m.volume in
      let stand = stand_nodes sectors v history m in
      let all = one_named history m.legal in
      let i = moves_by tree path goal move at in
      let g = moves_apart tree path goal move other i in
      let d = directory_node (node_at tree move.to) i.directory in
      let former = named_there tree move.from move.ino name all (is_directory_by (node_at tree move.from) name move.ino i.named) i.named in
      let flushed : is_flushed_target tree move.replaced ≡ true = subst (λ (r : Result Move Why). is_flushed_move tree r ≡ true) at a.flushed in
      let h = has_moved sectors v tree move.from move.to move.ino name last d.names is stand all former d.is g.apart move.replaced g.lands.stood g.lands.fits g.lands.vacant flushed (all.there move.from.0 name move.ino i.named) in
      let grown : Option Growth = if is_none move.replaced then growth_of v move.to (slots_then v move.from move.to name) else None in
      let place : ℕ = if is_none move.replaced then first_empty (slots_then v move.from move.to name) else place_of (slots_of v move.to.0) last in
      let l : IsLanding v move.from move.to name last grown place = landing_is sectors v tree h.less move.from move.to move.ino name last is stand move.replaced h.moved g.lands.room enough in
      let edit = moved_is_edit sectors v tree h.less client number opened move.from move.to move.ino move.replaced name last grown place is stand h.moved l (done_slot v client number is a.known a.fits) (goal_name tree path goal move at a.paths.1) in
      let later : after tree (Called client number (Rename path goal) Done None) ≡ swept h.less =
      ap (λ (r : Result Move Why). swept (with_move tree r name last)) at
      ∙ ap (λ (b : Bool). swept (if b then tree else without_replaced (take_name (put_name tree move.to last move.ino) move.from name) move.replaced)) other
      ∙ ap swept h.is in
      record {
        edit = edit;
        takes = moved_takes sectors v tree h.less client number opened move.from move.to move.ino move.replaced name last grown place is stand h.moved l m.stands.blocks (only_alone v move.to move.replaced (growth_of v move.to (slots_then v move.from move.to name)));
        next = record { present = a.present; allowed = inl (ap moved (sym at)); new_inode = refl; flushed = a.flushed };
        nodes = λ others keeps. subst (λ (t : Tree). StandForNodes others (edited v (moved_edit v client number opened move.from move.to move.ino move.replaced name last grown place)) t) (sym later)
            (moved_stands sectors v tree h.less client number opened move.from move.to move.ino move.replaced name last grown place is stand h.moved l others keeps edit
            (λ target shut. not_open h.less opened target (λ who fd desc there. a.lists who fd desc (ap (λ (ts : List (List (Option Descriptor))). get_or (get_or ts who.0 []) fd None) (sym h.tables) ∙ there)) shut));
        clients = clients_called v (edited v (moved_edit v client number opened move.from move.to move.ino move.replaced name last grown place)) tree history client number (Rename path goal) Done None (let count = is.slot_count in let known = a.known in omega arith) refl a.change (stand_clients sectors v history m);
      }

  -- a move that is answered as done
  at_room : (move : Move) (touched : List Touch) → move_of tree path goal ≡ Ok move → move.is_same ≡ false → (if_room v client number (moving v client number opened touched move name last)).reply ≡ Done
      → PlanFits sectors v history client number (Rename path goal) (if_room v client number (moving v client number opened touched move name last))
  at_room move touched at other done =
      let p : Plan = moving v client number opened touched move name last in
      elim (nat_lt (free_count v) p.needed) as (λ b. nat_lt (free_count v) p.needed ≡ b → (if b then short v client number p.touches p.needed else p).reply ≡ Done → PlanFits sectors v history client number (Rename path goal) (if b then short v client number p.touches p.needed else p)) [
        | true ↦ λ less refused. absurd (cc)
        | false ↦ λ enough yes. moved_fits move touched at other enough
      ] refl done

  pub rename_fits : (move : Move) → move_of tree path goal ≡ Ok move → move.is_same ≡ false → (plan v client number (Rename path goal) opened).reply ≡ Done → PlanFits sectors v history client number (Rename path goal) (plan v client number (Rename path goal) opened)
  rename_fits move at other done =
      let touched : List Touch = touches (shown v) (Rename path goal) in
      let planned : plan v client number (Rename path goal) opened ≡ if_room v client number (moving v client number opened touched move name last) =
      ap (λ (r : Result Move Why). moving_by v client number opened touched r name last) (allowed_move sectors v history path goal m ∙ at)
      ∙ ap (λ (b : Bool). if b then standing v client number Done else if_room v client number (moving v client number opened touched move name last)) other in
      subst (λ (p : Plan). p.reply ≡ Done → PlanFits sectors v history client number (Rename path goal) p) (sym planned) (at_room move touched at other) done

  by_same : (move : Move) (b : Bool) → move.is_same ≡ b → move_of tree path goal ≡ Ok move → (plan v client number (Rename path goal) opened).reply ≡ Done → PlanFits sectors v history client number (Rename path goal) (plan v client number (Rename path goal) opened)
  by_same move true same at done = same_fits sectors v history client number opened m path goal move a at same
  by_same move false other at done = rename_fits move at other done

  abbrev planned_by : Result Move Why → Plan
  planned_by r = moving_by v client number opened (touches (shown v) (Rename path goal)) r name last

  by_move : (r : Result Move Why) → move_of tree path goal ≡ r → (planned_by r).reply ≡ Done → (plan v client number (Rename path goal) opened).reply ≡ Done → PlanFits sectors v history client number (Rename path goal) (plan v client number (Rename path goal) opened)
  by_move (Ok move) at answered done = by_same move move.is_same refl at done
  by_move (Err why) at answered done = absurd (cc)

  -- any that is answered as done, be it of an entry to itself
  pub rename_leads : (plan v client number (Rename path goal) opened).reply ≡ Done → PlanLeads sectors v history client number (Rename path goal) opened
  rename_leads done =
      let same = allowed_move sectors v history path goal m in
      fits_leads sectors v history _ _ m (by_move (move_of tree path goal) refl (ap (λ (r : Result Move Why). (planned_by r).reply) (sym same) ∙ done) done)
