-- The plans of `create` and `mkdir` fit.
use Rattle.std.proofs.Common.{◌≡◌, ◌≢◌, ◌<◌, ◌-◌, ℕ, Bool, true, false, nat_lt, List, [], ◌∷◌, length, Option, Some, None, Result, Ok, Err, is_some, inl, inr, refl, sym, ap, subst, ◌∙◌, arith, if◌then◌else◌}
use Rattle.cal_base.specs.Limits as limits
use Rattle.std.specs.Prelude.{nat_le}
use Rattle.std.specs.FinMap as map
use Rattle.std.proofs.lemmas.Bool.{cases_lt, le-leb}
use Rattle.cal_base.specs.declared.identity.ClientId.{ClientId}
use Rattle.cal_base.specs.declared.identity.Ino.{Ino}
use Rattle.directory.specs.Directory.{entry_count}
use Rattle.inode.specs.declared.inode.Inode.{Inode}
use Rattle.inode.specs.declared.inode.Kind.{Kind}
use Rattle.inode.specs.declared.inode.Kind.TheVariants.{Free, File, Dir}
use Rattle.tree_facts.proofs.OneNameKept.{one_named}
use Rattle.tree_law.specs.After.{with_entry}
use Rattle.tree_law.specs.Answer.{made as made_reply}
use Rattle.tree_law.specs.Idle.{swept}
use Rattle.tree_law.specs.Legal.{IsNext, after, tree_of}
use Rattle.tree_law.specs.Names.{Names}
use Rattle.tree_law.specs.Path.{IsName, IsPath}
use Rattle.tree_law.specs.Resolve.{judged, last_of, new_place, prefix_of, resolved, room_for}
use Rattle.tree_law.specs.Tree.{IsFree, Tree, empty_directory, empty_file, node_at}
use Rattle.tree_law.specs.declared.call.Call.{Call}
use Rattle.tree_law.specs.declared.call.Call.TheVariants.{Create, Mkdir}
use Rattle.tree_law.specs.declared.entry.Entry.{Entry}
use Rattle.tree_law.specs.declared.entry.Entry.TheVariants.{Call as Called}
use Rattle.tree_law.specs.declared.node.Node.{Node}
use Rattle.tree_law.specs.declared.node.Node.TheVariants.{Directory, Regular}
use Rattle.tree_law.specs.declared.reply.Reply.TheVariants.{Done}
use Rattle.tree_law.specs.declared.reply.Why.{Why}
use Rattle.tree_law.specs.declared.reply.Why.TheVariants.{DirFull, Exist}
use Rattle.volume.specs.Stands.{StandsForNode}
use Rattle.volume.specs.Volume.{Volume, slots_of}
use Rattle.volume_edit.specs.Edit.{IsVolume, edited, free_inode, inode_at}
use Rattle.volume_plan.specs.Leads.{IsAsked, Mounted}
use Rattle.volume_plan.specs.Plans.{Plan, blocks_needed, free_count, growth_of, is_free, least_inode, making, making_at, making_if, plan, short}
use Rattle.volume_plan.specs.Shown.{shown}
use Rattle.volume_plan.proofs.Clients.{clients_called}
use Rattle.volume_plan.proofs.Fits.{StandForNodes}
use Rattle.volume_plan.proofs.Frames.{stand_swept}
use Rattle.volume_plan.proofs.Made.{IsMaking, made, made_is_edit, made_takes_free}
use Rattle.volume_plan.proofs.MadeNodes.{made_nodes, tree_made}
use Rattle.volume_plan.proofs.NamesOf.{names_of-len}
use Rattle.volume_plan.proofs.Removals.{PlanFits, done_slot, stand_clients, stand_nodes}
use Rattle.volume_plan.proofs.Room.{position_passes, readied}
use Rattle.volume_plan.proofs.Similar.{directory_there, node_there, same_new_place}

-- ---- where a name can be made

-- a directory with room for one name more, which doesn't stand in it
pub record IsNewPlace (tree : Tree) (place : Ino) (name : List ℕ) : Type 0 where
  pub names : Names
  pub here : node_at tree place ≡ Some (Directory names)
  pub absent : map.get names name ≡ None
  pub few : map.len names < limits.directory_entries

record HasRoom (names : Names) (ino place : Ino) (name : List ℕ) : Type 0 where
  same : ino ≡ place
  absent : map.get names name ≡ None
  few : map.len names < limits.directory_entries

less_than : (n : ℕ) → nat_le 1024 n ≡ false → n < limits.directory_entries
less_than n e = elim (cases_lt n 1024) [
  | inl below ↦ below
  | inr above ↦ (let least = le-leb 1024 n above in absurd (cc))
]

room_in : (names : Names) (name : List ℕ) (ino place : Ino) → room_for name (Some (Directory names)) ino ≡ Ok place → HasRoom names ino place name
room_in names name ino place is = absence (map.get names name) refl is
  where
    absence : (found : Option Ino) → map.get names name ≡ found → (if is_some found then Err Exist else (if nat_le 1024 (map.len names) then Err DirFull else Ok ino)) ≡ Ok place → HasRoom names ino place name
    absence (Some other) at e = absurd (cc)
    absence None at e = elim (nat_le 1024 (map.len names)) as (λ b. nat_le 1024 (map.len names) ≡ b → (if b then Err DirFull else Ok ino) ≡ Ok place → HasRoom names ino place name) [
      | true ↦ λ t full. absurd (cc)
      | false ↦ λ t one. record { same = cc; absent = at; few = less_than (map.len names) t }
    ] refl e

place_at : (tree : Tree) (name : List ℕ) (ino place : Ino) (node : Option Node) → node_at tree ino ≡ node → room_for name node ino ≡ Ok place → IsNewPlace tree place name
place_at tree name ino place (Some (Directory names)) at is =
    let room = room_in names name ino place is in
    record { names = names; here = ap (node_at tree) (sym room.same) ∙ at; absent = room.absent; few = room.few }
place_at tree name ino place (Some (Regular file)) at is = absurd (cc)
place_at tree name ino place None at is = absurd (cc)

judged_place : (tree : Tree) (name : List ℕ) (r : Result Ino Why) (place : Ino) → judged (room_for name) tree r ≡ Ok place → IsNewPlace tree place name
judged_place tree name (Ok ino) place is = place_at tree name ino place (node_at tree ino) refl is
judged_place tree name (Err why) place is = absurd (cc)

pub new_place_is : (tree : Tree) (path : List (List ℕ)) (place : Ino) → new_place tree path ≡ Ok place → IsNewPlace tree place (last_of path)
new_place_is tree [] place is = absurd (cc)
new_place_is tree (step ∷ steps) place is = judged_place tree (last_of (step ∷ steps)) (resolved tree (prefix_of (step ∷ steps))) place is

-- the last name of a path is a name
pub last_is_name : (tree : Tree) (path : List (List ℕ)) (place : Ino) → new_place tree path ≡ Ok place → IsPath path → IsName (last_of path)
last_is_name tree [] place is p = absurd (cc)
last_is_name tree (step ∷ steps) place is p = p.names (length (step ∷ steps) - 1) [] (omega arith)

-- ---- the least free inode

free_kind : (kind : Kind) → is_free kind ≡ true → kind ≡ Free
free_kind Free e = refl
free_kind File e = absurd (cc)
free_kind Dir e = absurd (cc)

free_stands : (sectors : List (List ℕ)) (v : Volume) (tree : Tree) (number : ℕ) (inode : Inode) (node : Option Node) → inode.kind ≡ Free → StandsForNode sectors v tree number inode node → node ≡ None
free_stands sectors v tree number inode (Some (Directory names)) free s = (let k = s.kind in absurd (cc))
free_stands sectors v tree number inode (Some (Regular file)) free s = (let k = s.kind in absurd (cc))
free_stands sectors v tree number inode None free s = refl

pub record IsFreeInode (v : Volume) (tree : Tree) (number : ℕ) : Type 0 where
  pub kind : (inode_at v.inodes number).kind ≡ Free
  pub free : IsFree tree (record { 0 = number })

pub least_is_free : (sectors : List (List ℕ)) (v : Volume) (tree : Tree) (number : ℕ) → IsVolume v → StandForNodes sectors v tree → least_inode v ≡ Some number → IsFreeInode v tree number
least_is_free sectors v tree number is stand least =
    let at = position_passes (λ (inode : Inode). is_free inode.kind) v.inodes number least free_inode in
    let kind : (inode_at v.inodes number).kind ≡ Free = free_kind (inode_at v.inodes number).kind (at.passes free_inode) in
    let within : number < limits.inodes = (let w = at.within in let c = is.inode_count in omega arith) in
    let some : number ≢ 0 = λ same. (let r = is.root in let e = ap (λ (n : ℕ). (inode_at v.inodes n).kind) same in absurd (cc)) in
    record {
      kind = kind;
      free = record { from_one = omega arith; to_511 = omega arith; free = free_stands sectors v tree number (inode_at v.inodes number) (node_at tree (record { 0 = number })) kind (node_there sectors v tree is stand (record { 0 = number }) within) };
    }

-- ---- a creation fits

module _ (sectors : List (List ℕ)) (v : Volume) (history : List Entry) (client : ClientId) (number : ℕ) (call : Call) (opened : List Ino) (m : Mounted sectors v history) (a : IsAsked history client number call opened)
    (path : List (List ℕ)) (kind : Kind) (some : kind ≢ Free) (is_path : IsPath path)
    (next : (place ino : Ino) → new_place (tree_of history) path ≡ Ok place → IsFree (tree_of history) ino → IsNext (tree_of history) (Called client number call Done (Some ino)))
    (later : (place ino : Ino) → new_place (tree_of history) path ≡ Ok place → after (tree_of history) (Called client number call Done (Some ino)) ≡ swept (tree_made (tree_of history) place (last_of path) kind ino)) where
  abbrev tree : Tree
  tree = tree_of history

  is_making : (place : Ino) (n : ℕ) → new_place tree path ≡ Ok place → least_inode v ≡ Some n → nat_lt (free_count v) (blocks_needed (slots_of v place.0)) ≡ false
      → IsMaking v tree place (last_of path) kind (record { 0 = n }) (growth_of v place (slots_of v place.0))
  is_making place n at least enough =
      let is = m.volume in
      let stand = stand_nodes sectors v history m in
      let p = new_place_is tree path place at in
      let within = ((same_new_place sectors v tree is stand path).meet place at).within in
      let directory = directory_there sectors v tree is stand place p.names within p.here in
      let free = least_is_free sectors v tree n is stand least in
      let few : entry_count (slots_of v place.0) < limits.directory_entries = (let count = sym (names_of-len (slots_of v place.0) directory.sized.directory.distinct) ∙ ap map.len directory.same in let less = p.few in omega arith) in
      record {
        count = (one_named history m.legal).count;
        within = within;
        names = p.names;
        here = p.here;
        directory = directory;
        absent = p.absent;
        is_name = last_is_name tree path place at is_path;
        from_one = free.free.from_one;
        to_511 = (let few = free.free.to_511 in omega arith);
        nothing = free.free.free;
        free = free.kind;
        some = some;
        ready = readied v place (slots_of v place.0) few enough;
      }

  making_fits : (place : Ino) (n : ℕ) → new_place tree path ≡ Ok place → least_inode v ≡ Some n → nat_lt (free_count v) (blocks_needed (slots_of v place.0)) ≡ false
      → PlanFits sectors v history client number call (making v client number place (last_of path) kind (record { 0 = n }))
  making_fits place n at least enough =
      let is = m.volume in
      let stand = stand_nodes sectors v history m in
      let ino : Ino = record { 0 = n } in
      let g = growth_of v place (slots_of v place.0) in
      let k = is_making place n at least enough in
      let slot = done_slot v client number is a.known a.fits in
      record {
        edit = made_is_edit v tree client number place (last_of path) kind ino g is k slot;
        takes = made_takes_free v tree client number place (last_of path) kind ino g is k;
        next = next place ino at (least_is_free sectors v tree n is stand least).free;
        nodes = λ others keeps. subst (λ (t : Tree). StandForNodes others (edited v (made v client number place (last_of path) kind ino g)) t) (sym (later place ino at))
            (stand_swept others (edited v (made v client number place (last_of path) kind ino g)) (tree_made tree place (last_of path) kind ino)
            (made_nodes sectors others v tree client number place (last_of path) kind ino g is stand keeps k slot));
        clients = clients_called v (edited v (made v client number place (last_of path) kind ino g)) tree history client number call Done (Some ino) (let count = is.slot_count in let known = a.known in omega arith) refl a.change (stand_clients sectors v history m);
      }

  at_room : (place : Ino) (n : ℕ) → new_place tree path ≡ Ok place → least_inode v ≡ Some n → (b : Bool) → nat_lt (free_count v) (blocks_needed (slots_of v place.0)) ≡ b
      → (let p : Plan = making v client number place (last_of path) kind (record { 0 = n }) in (if b then short v client number p.touches p.needed else p).reply ≡ Done → PlanFits sectors v history client number call (if b then short v client number p.touches p.needed else p))
  at_room place n at least true enough done = absurd (cc)
  at_room place n at least false enough done = making_fits place n at least enough

  at_inode : (place : Ino) → new_place tree path ≡ Ok place → (o : Option ℕ) → least_inode v ≡ o → (making_if v client number place (last_of path) kind o).reply ≡ Done → PlanFits sectors v history client number call (making_if v client number place (last_of path) kind o)
  at_inode place at None least done = absurd (cc)
  at_inode place at (Some n) least done = at_room place n at least (nat_lt (free_count v) (blocks_needed (slots_of v place.0))) refl done

  at_place : (r : Result Ino Why) → new_place tree path ≡ r → (making_at v client number r (last_of path) kind).reply ≡ Done → PlanFits sectors v history client number call (making_at v client number r (last_of path) kind)
  at_place (Err why) at done = absurd (cc)
  at_place (Ok place) at done = at_inode place at (least_inode v) refl done

  creation_fits : (making_at v client number (new_place (shown v) path) (last_of path) kind).reply ≡ Done → PlanFits sectors v history client number call (making_at v client number (new_place (shown v) path) (last_of path) kind)
  creation_fits done =
      let same = (same_new_place sectors v tree m.volume (stand_nodes sectors v history m) path).same in
      subst (λ (r : Result Ino Why). (making_at v client number r (last_of path) kind).reply ≡ Done → PlanFits sectors v history client number call (making_at v client number r (last_of path) kind)) (sym same)
      (at_place (new_place tree path) refl) done

module _ (sectors : List (List ℕ)) (v : Volume) (history : List Entry) (client : ClientId) (number : ℕ) (opened : List Ino) (m : Mounted sectors v history) where
  pub create_fits : (path : List (List ℕ)) → IsAsked history client number (Create path) opened → (plan v client number (Create path) opened).reply ≡ Done → PlanFits sectors v history client number (Create path) (plan v client number (Create path) opened)
  create_fits path a done = creation_fits sectors v history client number (Create path) opened m a path File (λ e. absurd (cc)) a.paths
      (λ place ino at free. record { present = a.present; allowed = inl (ap made_reply (sym at)); new_inode = free; flushed = a.flushed })
      (λ place ino at. ap (λ (r : Result Ino Why). swept (with_entry (tree_of history) r (last_of path) (Some ino) empty_file)) at)
      done

  pub mkdir_fits : (path : List (List ℕ)) → IsAsked history client number (Mkdir path) opened → (plan v client number (Mkdir path) opened).reply ≡ Done → PlanFits sectors v history client number (Mkdir path) (plan v client number (Mkdir path) opened)
  mkdir_fits path a done = creation_fits sectors v history client number (Mkdir path) opened m a path Dir (λ e. absurd (cc)) a.paths
      (λ place ino at free. record { present = a.present; allowed = inl (ap made_reply (sym at)); new_inode = free; flushed = a.flushed })
      (λ place ino at. ap (λ (r : Result Ino Why). swept (with_entry (tree_of history) r (last_of path) (Some ino) empty_directory)) at)
      done
