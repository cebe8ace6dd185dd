-- A plan that alters no entry fits: one that is refused, and a move of an entry to itself.
use Rattle.std.proofs.Common.{◌≡◌, ◌≢◌, ◌≤◌, ◌<◌, ◌^◌, ℕ, zero, suc, Bool, true, false, nat_lt, List, [], ◌∷◌, get_or, Option, Some, None, Result, Ok, Err, is_none, inl, refl, sym, ap, subst, ◌∙◌, arith, if◌then◌else◌}
use Rattle.cal_base.specs.Limits as limits
use Rattle.std.proofs.lemmas.Bool.{ltb-true}
use Rattle.std.proofs.lemmas.List.{length-set}
use Rattle.std.proofs.lemmas.List.Sums.{count_by-le-length}
use Rattle.std.specs.List.{slice_set}
use Rattle.cal_base.specs.declared.identity.ClientId.{ClientId}
use Rattle.cal_base.specs.declared.identity.Ino.{Ino}
use Rattle.change_reply.specs.ReplyBytes.{IsChangeReply, IsChangeWhy}
use Rattle.directory.specs.Block.{entry_at}
use Rattle.directory.specs.Directory.{first_empty}
use Rattle.inode.specs.declared.inode.Kind.{Kind}
use Rattle.tree_facts.proofs.Moves.{moves_by}
use Rattle.tree_law.specs.Legal.{IsAllowed, IsNewInode, IsNext, after, tree_of}
use Rattle.tree_law.specs.Needs.{Touch}
use Rattle.tree_law.specs.Resolve.{last_of, new_place}
use Rattle.tree_law.specs.Rename.{move_of}
use Rattle.tree_law.specs.Tree.{Tree, node_at}
use Rattle.tree_law.specs.declared.call.Call.{Call}
use Rattle.tree_law.specs.declared.call.Call.TheVariants.{Create, Mkdir, Unlink, Rmdir, Rename, Open, Close, Read, Write, Truncate, Stat, Readdir, Fsync}
use Rattle.tree_law.specs.declared.entry.Entry.{Entry}
use Rattle.tree_law.specs.declared.entry.Entry.TheVariants.{Call as Called}
use Rattle.tree_law.specs.declared.rename.Move.{Move}
use Rattle.tree_law.specs.declared.reply.Reply.{Reply}
use Rattle.tree_law.specs.declared.reply.Reply.TheVariants.{Done, Refused}
use Rattle.tree_law.specs.declared.reply.Why.{Why}
use Rattle.tree_law.specs.declared.reply.Why.TheVariants.{NoInode, NoSpace}
use Rattle.volume.specs.Volume.{Slots, Volume, slots_of}
use Rattle.volume_edit.specs.Edit.{IsSlotEdit, IsVolume, edited, with_left}
use Rattle.volume_edit.proofs.SlotChanges.{with_slots-same}
use Rattle.volume_plan.specs.Leads.{IsAsked, Mounted}
use Rattle.volume_plan.specs.Plans.{Plan, answered, blocks_needed, free_count, grows, leaving_of, least_inode, making, making_at, making_if, moving, moving_by, needed_moved, place_of, removing_at, short, slot_alone, slots_without, standing}
use Rattle.volume_plan.specs.Shown.{shown}
use Rattle.volume_plan.proofs.Clients.{clients_called, slot_there}
use Rattle.volume_plan.proofs.Fits.{Fits, KeepsFiles, StandForNodes}
use Rattle.volume_plan.proofs.Frames.{keeps_bytes, stands_later}
use Rattle.volume_plan.proofs.NamesOf.{entry_of, place_of-got, taken_below}
use Rattle.volume_plan.proofs.Removals.{PlanFits, stand_clients, stand_nodes}
use Rattle.volume_plan.proofs.Room.{grows_full}
use Rattle.volume_plan.proofs.Similar.{entry_there, same_new_place, same_parent_of}
use Rattle.volume_plan.proofs.Whys.{move_whys, new_place_whys}

-- a slot with the reply of a change
answered_slot : (v : Volume) (client : ClientId) (number : ℕ) (reply : Reply) → IsVolume v → client.0 < limits.clients → 1 ≤ number → number < 2 ^ 64 → IsChangeReply reply → IsSlotEdit (answered v client number reply)
answered_slot v client number reply is known some fits change =
    let old = is.slots client.0 _ (slot_there v.slots client.0 (let count = is.slot_count in omega arith)) in
    record {
      client = known;
      slot = record { call = fits; flush = old.flush; reply = record { change = change; none = λ e. absurd (omega arith) } };
    }

-- a refused call makes no inode
no_new : (tree : Tree) (call : Call) (why : Why) → IsNewInode tree call (Refused why) None
no_new tree (Create path) why = refl
no_new tree (Mkdir path) why = refl
no_new tree (Unlink path) why = refl
no_new tree (Rmdir path) why = refl
no_new tree (Rename path goal) why = refl
no_new tree (Open path mode) why = refl
no_new tree (Close fd) why = refl
no_new tree (Read fd offset len) why = refl
no_new tree (Write fd offset bytes) why = refl
no_new tree (Truncate fd size) why = refl
no_new tree (Stat path) why = refl
no_new tree (Readdir path) why = refl
no_new tree (Fsync fd) why = refl

-- a volume stands for a tree on other sectors that keep its files
pub stand_on : (sectors others : List (List ℕ)) (v : Volume) (tree : Tree) → KeepsFiles v sectors others → StandForNodes sectors v tree → StandForNodes others v tree
stand_on sectors others v tree keeps stand = record {
  node = λ number inode there. stands_later sectors others v v tree tree number inode (node_at tree (record { 0 = number })) refl refl (keeps_bytes sectors others v number inode keeps there) (stand.node number inode there);
}

-- whether as many blocks are wanting as a call may want
few_needed : (slots : Slots) → blocks_needed slots ≤ 1
few_needed slots = elim (grows slots) as (λ b. (if b then 1 else 0) ≤ 1) [ true ↦ omega arith | false ↦ omega arith ]

space_why : (v : Volume) (needed : ℕ) → IsVolume v → needed ≤ 1 → IsChangeWhy (NoSpace (free_count v) needed)
space_why v needed is few = (let most = count_by-le-length (λ free. free) v.free in let count = is.map in (omega arith, omega arith))

module _ (sectors : List (List ℕ)) (v : Volume) (history : List Entry) (client : ClientId) (number : ℕ) (call : Call) (opened : List Ino) (m : Mounted sectors v history) (a : IsAsked history client number call opened) where
  abbrev tree : Tree
  tree = tree_of history

  pub alone_fits : (reply : Reply) → IsChangeReply reply → IsNext tree (Called client number call reply None)
      → ((others : List (List ℕ)) → StandForNodes others (edited v (slot_alone (answered v client number reply))) tree → StandForNodes others (edited v (slot_alone (answered v client number reply))) (after tree (Called client number call reply None)))
      → Fits sectors v history (slot_alone (answered v client number reply)) (Called client number call reply None)
  alone_fits reply change next later =
      let is = m.volume in
      let stand = stand_nodes sectors v history m in
      record {
        edit = record { some = inl refl; slot = answered_slot v client number reply is a.known a.from_one a.fits change; inode = tt; growth = tt; leaving = tt; entering = tt };
        takes = record { inode = tt; growth = tt };
        next = next;
        nodes = λ others keeps. later others (record { node = (stand_on sectors others v tree keeps stand).node });
        clients = clients_called v (edited v (slot_alone (answered v client number reply))) tree history client number call reply None (let count = is.slot_count in let known = a.known in omega arith) refl a.change (stand_clients sectors v history m);
      }

  refused_fits : (why : Why) → IsChangeWhy why → IsAllowed tree client call (Refused why) → Fits sectors v history (slot_alone (answered v client number (Refused why))) (Called client number call (Refused why) None)
  refused_fits why is allowed = alone_fits (Refused why) is (record { present = a.present; allowed = allowed; new_inode = no_new tree call why; flushed = refl }) (λ others stand. stand)

  -- ---- `create`, `mkdir`

  module _ (path : List (List ℕ)) (kind : Kind)
      (own : (why : Why) → new_place tree path ≡ Err why → IsAllowed tree client call (Refused why))
      (no_inode : (place : Ino) → new_place tree path ≡ Ok place → IsAllowed tree client call (Refused NoInode))
      (no_space : (place : Ino) (free : ℕ) → new_place tree path ≡ Ok place → free < 1 → IsAllowed tree client call (Refused (NoSpace free 1))) where
    short_made : (place : Ino) (touched : List Touch) (needed : ℕ) → new_place tree path ≡ Ok place → needed ≤ 1 → free_count v < needed → PlanFits sectors v history client number call (short v client number touched needed)
    short_made place touched needed at few less =
        let one : 1 ≡ needed = omega arith in
        refused_fits (NoSpace (free_count v) needed) (space_why v needed m.volume few)
        (subst (λ (n : ℕ). IsAllowed tree client call (Refused (NoSpace (free_count v) n))) one (no_space place (free_count v) at (omega arith)))

    at_room : (place ino : Ino) (why : Why) → new_place tree path ≡ Ok place → (b : Bool) → nat_lt (free_count v) (blocks_needed (slots_of v place.0)) ≡ b
        → (let p : Plan = making v client number place (last_of path) kind ino in (if b then short v client number p.touches p.needed else p).reply ≡ Refused why → PlanFits sectors v history client number call (if b then short v client number p.touches p.needed else p))
    at_room place ino why at true less refused = short_made place ((place, 1) ∷ []) (blocks_needed (slots_of v place.0)) at (few_needed (slots_of v place.0)) (ltb-true _ _ less)
    at_room place ino why at false less refused = absurd (cc)

    at_inode : (place : Ino) (why : Why) → new_place tree path ≡ Ok place → (o : Option ℕ) → (making_if v client number place (last_of path) kind o).reply ≡ Refused why → PlanFits sectors v history client number call (making_if v client number place (last_of path) kind o)
    at_inode place why at None refused = refused_fits NoInode tt (no_inode place at)
    at_inode place why at (Some n) refused = at_room place (record { 0 = n }) why at (nat_lt (free_count v) (blocks_needed (slots_of v place.0))) refl refused

    at_place : (r : Result Ino Why) (why : Why) → new_place tree path ≡ r → (making_at v client number r (last_of path) kind).reply ≡ Refused why → PlanFits sectors v history client number call (making_at v client number r (last_of path) kind)
    at_place (Err other) why at refused = refused_fits other (new_place_whys tree path other at) (own other at)
    at_place (Ok place) why at refused = at_inode place why at (least_inode v) refused

    pub making_refused : (why : Why) → (making_at v client number (new_place (shown v) path) (last_of path) kind).reply ≡ Refused why → PlanFits sectors v history client number call (making_at v client number (new_place (shown v) path) (last_of path) kind)
    making_refused why refused =
        subst (λ (r : Result Ino Why). (making_at v client number r (last_of path) kind).reply ≡ Refused why → PlanFits sectors v history client number call (making_at v client number r (last_of path) kind))
        (sym (same_new_place sectors v tree m.volume (stand_nodes sectors v history m) path).same) (at_place (new_place tree path) why refl) refused

  -- ---- `unlink`, `rmdir`

  module _ (touched : List Touch) (name : List ℕ) (parent target : Result Ino Why)
      (own : (why : Why) → target ≡ Err why → IsAllowed tree client call (Refused why)) (whys : (why : Why) → target ≡ Err why → IsChangeWhy why)
      (above : (ino : Ino) (why : Why) → target ≡ Ok ino → parent ≡ Err why → ⊥) where
    removing_refused_by : (x y : Result Ino Why) (why : Why) → parent ≡ x → target ≡ y → (removing_at v client number opened touched x y name).reply ≡ Refused why → PlanFits sectors v history client number call (removing_at v client number opened touched x y name)
    removing_refused_by (Ok place) (Ok ino) why up at refused = absurd (cc)
    removing_refused_by (Err other) (Ok ino) why up at refused = absurd (above ino other at up)
    removing_refused_by (Ok place) (Err other) why up at refused = refused_fits other (whys other at) (own other at)
    removing_refused_by (Err first) (Err other) why up at refused = refused_fits other (whys other at) (own other at)

    pub removing_refused : (x y : Result Ino Why) (why : Why) → x ≡ parent → y ≡ target → (removing_at v client number opened touched x y name).reply ≡ Refused why → PlanFits sectors v history client number call (removing_at v client number opened touched x y name)
    removing_refused x y why up at refused = removing_refused_by x y why (sym up) (sym at) refused

  -- ---- `rename`

  module _ (path goal : List (List ℕ))
      (own : (why : Why) → move_of tree path goal ≡ Err why → IsAllowed tree client call (Refused why))
      (no_space : (move : Move) (free : ℕ) → move_of tree path goal ≡ Ok move → is_none move.replaced ≡ true → move.from.0 ≢ move.to.0 → free < 1 → IsAllowed tree client call (Refused (NoSpace free 1))) where
    first_below : (slots : Slots) (q : ℕ) → entry_at slots q ≡ None → first_empty slots ≤ q
    unfolding first_empty
    first_below [] q none = omega arith
    first_below (None ∷ slots) q none = omega arith
    first_below (Some e ∷ slots) zero none = absurd (cc)
    first_below (Some e ∷ slots) (suc q) none = (let rest = first_below slots q none in omega arith)

    -- where the entry goes from the directory that it comes to, a slot is empty
    apart : (move : Move) → move_of tree path goal ≡ Ok move → grows (slots_without v move (last_of path)) ≡ true → move.from.0 ≢ move.to.0
    apart move at full same =
        let is = m.volume in
        let stand = stand_nodes sectors v history m in
        let moves = moves_by tree path goal move at in
        let within = ((same_parent_of sectors v tree is stand path).meet move.from moves.parent).within in
        let there = entry_there sectors v tree is stand move.from (last_of path) move.ino within moves.named in
        let slots : Slots = slots_of v move.from.0 in
        let place : ℕ = place_of slots (last_of path) in
        let stands = place_of-got slots (last_of path) move.ino there.sized.directory.distinct there.got in
        let below = taken_below slots place (entry_of (last_of path) move.ino) stands in
        let less : slots_without v move (last_of path) ≡ slice_set slots place None =
        ap (λ (n : ℕ). get_or (with_left v.directories (Some (leaving_of v move.from (last_of path)))) n []) (sym same)
        ∙ with_slots-same v.directories move.from.0 (λ xs. slice_set xs place None) (let count = is.directory_count in omega arith) in
        let filled = grows_full (slice_set slots place None) (subst (λ (xs : Slots). grows xs ≡ true) less full) in
        let first = first_below (slice_set slots place None) place (emptied slots place) in
        let f = filled.full in
        let long = length-set slots place None in
        absurd (omega arith)
      where
        emptied : (slots : Slots) (q : ℕ) → entry_at (slice_set slots q None) q ≡ None
        emptied [] q = refl
        emptied (x ∷ slots) zero = refl
        emptied (x ∷ slots) (suc q) = emptied slots q

    short_moved : (move : Move) (touched : List Touch) → move_of tree path goal ≡ Ok move → free_count v < needed_moved v move (last_of path) → PlanFits sectors v history client number call (short v client number touched (needed_moved v move (last_of path)))
    short_moved move touched at less =
        elim (is_none move.replaced) as (λ b. is_none move.replaced ≡ b → free_count v < (if b then blocks_needed (slots_without v move (last_of path)) else 0) → PlanFits sectors v history client number call (short v client number touched (if b then blocks_needed (slots_without v move (last_of path)) else 0))) [
          | true ↦ λ one below. elim (grows (slots_without v move (last_of path))) as (λ g. grows (slots_without v move (last_of path)) ≡ g → free_count v < (if g then 1 else 0) → PlanFits sectors v history client number call (short v client number touched (if g then 1 else 0))) [
            | true ↦ λ full few. refused_fits (NoSpace (free_count v) 1) (space_why v 1 m.volume (omega arith)) (no_space move (free_count v) at one (apart move at full) few)
            | false ↦ λ full few. absurd (omega arith)
          ] refl below
          | false ↦ λ one below. absurd (omega arith)
        ] refl less

    pub moving_refused_by : (touched : List Touch) (r : Result Move Why) (why : Why) → move_of tree path goal ≡ r → (moving_by v client number opened touched r (last_of path) (last_of goal)).reply ≡ Refused why → PlanFits sectors v history client number call (moving_by v client number opened touched r (last_of path) (last_of goal))
    moving_refused_by touched (Err other) why at refused = refused_fits other (move_whys tree path goal other at) (own other at)
    moving_refused_by touched (Ok move) why at refused = at_same move.is_same refused
      where
        plan_moved : Plan
        plan_moved = moving v client number opened touched move (last_of path) (last_of goal)

        at_space : (b : Bool) → nat_lt (free_count v) plan_moved.needed ≡ b → (if b then short v client number plan_moved.touches plan_moved.needed else plan_moved).reply ≡ Refused why
            → PlanFits sectors v history client number call (if b then short v client number plan_moved.touches plan_moved.needed else plan_moved)
        at_space true less refused = short_moved move touched at (ltb-true _ _ less)
        at_space false less refused = absurd (cc)

        at_same : (b : Bool) → (if b then standing v client number Done else (if nat_lt (free_count v) plan_moved.needed then short v client number plan_moved.touches plan_moved.needed else plan_moved)).reply ≡ Refused why
            → PlanFits sectors v history client number call (if b then standing v client number Done else (if nat_lt (free_count v) plan_moved.needed then short v client number plan_moved.touches plan_moved.needed else plan_moved))
        at_same true refused = absurd (cc)
        at_same false refused = at_space (nat_lt (free_count v) plan_moved.needed) refl refused
