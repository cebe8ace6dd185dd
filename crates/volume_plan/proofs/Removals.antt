-- The plans of `unlink` and `rmdir` fit.
use Rattle.std.proofs.Common.{◌≡◌, ◌<◌, ◌^◌, ℕ, Bool, true, false, List, [], ◌∷◌, length, get_or, Option, Some, None, Result, Ok, Err, is_none, inl, refl, sym, ap, subst, ◌∙◌, arith}
use Rattle.cal_base.specs.Limits as limits
use Rattle.cal_base.specs.declared.directory_entry.EntryKind.TheVariants.{File as IsFile}
use Rattle.cal_base.specs.declared.identity.ClientId.{ClientId}
use Rattle.cal_base.specs.declared.identity.Ino.{Ino}
use Rattle.inode.specs.declared.inode.Inode.{Inode}
use Rattle.inode.specs.declared.inode.Kind.{Kind}
use Rattle.inode.specs.declared.inode.Kind.TheVariants.{Free, File, Dir}
use Rattle.tree_facts.proofs.OneNameKept.{one_named}
use Rattle.tree_facts.proofs.Paths.{has_parent, judged_empty, judged_file}
use Rattle.tree_law.specs.After.{take_name, without_directory, without_entry}
use Rattle.tree_law.specs.Answer.{answer, made}
use Rattle.tree_law.specs.Idle.{swept, with_node}
use Rattle.tree_law.specs.Legal.{IsNext, after, is_flushed_by_all, tree_of}
use Rattle.tree_law.specs.Needs.{Touch, touches}
use Rattle.tree_law.specs.PartOf.{kind_of}
use Rattle.tree_law.specs.Resolve.{as_empty_directory, file_named, judged, last_of, removable, resolved}
use Rattle.tree_law.specs.Tree.{Tree, node_at, root, writer_of}
use Rattle.tree_law.specs.declared.call.Call.{Call}
use Rattle.tree_law.specs.declared.call.Call.TheVariants.{Unlink, Rmdir}
use Rattle.tree_law.specs.declared.descriptor.Descriptor.{Descriptor}
use Rattle.tree_law.specs.declared.entry.Entry.{Entry}
use Rattle.tree_law.specs.declared.entry.Entry.TheVariants.{Call as Called}
use Rattle.tree_law.specs.declared.node.Node.{Node}
use Rattle.tree_law.specs.declared.reply.Reply.TheVariants.{Done}
use Rattle.tree_law.specs.declared.reply.Why.{Why}
use Rattle.volume.specs.Stands.{StandsForFile, StandsForNode}
use Rattle.volume.specs.Volume.{Volume}
use Rattle.volume_edit.specs.Edit.{IsSlotEdit, IsVolume, edited, free_inode, inode_at}
use Rattle.volume_edit.proofs.Grammar.{inode_is}
use Rattle.volume_edit.proofs.Inodes.{inode_put}
use Rattle.volume_plan.specs.Leads.{IsAsked, Mounted}
use Rattle.volume_plan.specs.Plans.{Plan, answered, inode_gone, is_opened, nameless, plan, removing, removing_at}
use Rattle.volume_plan.specs.Removals.{IsFreedOrKept}
use Rattle.volume_plan.specs.Planned.{PlanLeads}
use Rattle.volume_plan.specs.Shown.{shown}
use Rattle.volume_plan.proofs.Clients.{clients_called, slot_there}
use Rattle.volume_plan.proofs.Fits.{Fits, StandForClients, StandForNodes}
use Rattle.volume_plan.proofs.Gone.{not_open}
use Rattle.volume_plan.proofs.Leading.{fits_leads}
use Rattle.volume_plan.proofs.RemovedNames.{IsEmptyNode, directory_removed, empty_node, file_node, file_removed, named_there}
use Rattle.volume_plan.proofs.RemovedNodes.{Removed, removal, removal_edits, removal_stands, removal_takes}
use Rattle.volume_plan.proofs.Similar.{directory_there, node_there, same_file_named, same_parent_of, same_removable}

-- ---- what is mounted and asked

pub stand_nodes : (sectors : List (List ℕ)) (v : Volume) (history : List Entry) → Mounted sectors v history → StandForNodes sectors v (tree_of history)
stand_nodes sectors v history m = record { node = m.stands.nodes }

pub stand_clients : (sectors : List (List ℕ)) (v : Volume) (history : List Entry) → Mounted sectors v history → StandForClients v (tree_of history) history
stand_clients sectors v history m = record { slot = m.stands.clients }

-- a slot that says that a change was carried out
pub done_slot : (v : Volume) (client : ClientId) (number : ℕ) → IsVolume v → client.0 < limits.clients → number < 2 ^ 64 → IsSlotEdit (answered v client number Done)
done_slot v client number is known fits =
    let within : client.0 < length v.slots = (let count = is.slot_count in omega arith) in
    let old = is.slots client.0 _ (slot_there v.slots client.0 within) in
    record {
      client = known;
      slot = record { call = fits; flush = old.flush; reply = record { change = tt; none = λ e. refl } };
    }

-- ---- a removal fits

-- a result is an inode
pub record Finds (found : Result Ino Why) : Type 0 where
  pub ino : Ino
  pub is : found ≡ Ok ino

pub made_finds : (found : Result Ino Why) → made found ≡ Done → Finds found
made_finds (Ok ino) done = record { ino = ino; is = refl }
made_finds (Err why) done = absurd (cc)

-- a plan fits with its own reply and inode
abbrev pub PlanFits : List (List ℕ) → Volume → List Entry → ClientId → ℕ → Call → Plan → Type 0
PlanFits sectors v history client number call p = Fits sectors v history p.edit (Called client number call p.reply p.new_ino)

module _ (sectors : List (List ℕ)) (v : Volume) (history : List Entry) (client : ClientId) (number : ℕ) (call : Call) (opened : List Ino) (m : Mounted sectors v history) (a : IsAsked history client number call opened) where
  abbrev tree : Tree
  tree = tree_of history

  -- a removal fits, where the call leaves the tree without the name
  pub removal_fits : (touched : List Touch) (place ino : Ino) (name : List ℕ) (less : Tree) → IsNext tree (Called client number call Done None) → Removed sectors v tree less place ino name → less.tables ≡ tree.tables
      → after tree (Called client number call Done None) ≡ swept less → PlanFits sectors v history client number call (removing v client number opened touched place ino name)
  removal_fits touched place ino name less next r tables later =
      let is = m.volume in
      let stand = stand_nodes sectors v history m in
      let within : ino.0 < limits.inodes = (let few = r.to_511 in omega arith) in
      let edit = removal_edits sectors v tree less client number opened place ino name is stand r (done_slot v client number is a.known a.fits) (inode_is v is ino.0 within) in
      record {
        edit = edit;
        takes = removal_takes sectors v tree less client number opened place ino name is stand r m.stands.blocks;
        next = next;
        nodes = λ others keeps. subst (λ (t : Tree). StandForNodes others (edited v (removal v client number opened place ino name)) t) (sym later)
            (removal_stands sectors v tree less client number opened place ino name is stand r others keeps edit
            (λ shut. not_open less opened ino (λ other fd d at. a.lists other fd d (ap (λ (ts : List (List (Option Descriptor))). get_or (get_or ts other.0 []) fd None) (sym tables) ∙ at)) shut));
        clients = clients_called v (edited v (removal v client number opened place ino name)) tree history client number call Done None (let count = is.slot_count in let known = a.known in omega arith) refl a.change (stand_clients sectors v history m);
      }

module _ (sectors : List (List ℕ)) (v : Volume) (history : List Entry) (client : ClientId) (number : ℕ) (call : Call) (opened : List Ino) where
  -- a call that takes a name from a directory, with its plan and the tree that it leaves
  pub record Removes (ino : Ino) : Type 0 where
    pub place : Ino
    pub name : List ℕ
    pub less : Tree
    pub planned : plan v client number call opened ≡ removing v client number opened (touches (shown v) call) place ino name
    pub next : IsNext (tree_of history) (Called client number call Done None)
    pub removed : Removed sectors v (tree_of history) less place ino name
    pub tables : less.tables ≡ (tree_of history).tables
    pub later : after (tree_of history) (Called client number call Done None) ≡ swept less

  pub removes_fits : (ino : Ino) → Mounted sectors v history → IsAsked history client number call opened → Removes ino → PlanFits sectors v history client number call (plan v client number call opened)
  removes_fits ino m a r =
      subst (λ (q : Plan). PlanFits sectors v history client number call q) (sym r.planned)
      (removal_fits sectors v history client number call opened m a (touches (shown v) call) r.place ino r.name r.less r.next r.removed r.tables r.later)

  -- what becomes of the inode
  pub removes_inode : (ino : Ino) → Mounted sectors v history → IsAsked history client number call opened → Removes ino
      → inode_at (edited v (plan v client number call opened).edit).inodes ino.0 ≡ (inode_gone v opened ino).inode
  removes_inode ino m a r =
      let is = m.volume in
      let within : ino.0 < limits.inodes = (let few = r.removed.to_511 in omega arith) in
      let edit = removal_edits sectors v (tree_of history) r.less client number opened r.place ino r.name is (stand_nodes sectors v history m) r.removed (done_slot v client number is a.known a.fits) (inode_is v is ino.0 within) in
      ap (λ (q : Plan). inode_at (edited v q.edit).inodes ino.0) r.planned
      ∙ inode_put v (removal v client number opened r.place ino r.name) (inode_gone v opened ino) is.inode_count edit refl

-- ---- `unlink`

pub root_no_file : (sectors : List (List ℕ)) (v : Volume) (tree : Tree) → IsVolume v → StandForNodes sectors v tree → kind_of (node_at tree root) ≡ Some IsFile → ⊥
root_no_file sectors v tree is stand kind =
    let f = file_node (node_at tree root) kind in
    let s : StandsForFile sectors (inode_at v.inodes 0) tree 0 f.file = subst (λ (node : Option Node). StandsForNode sectors v tree 0 (inode_at v.inodes 0) node) f.is (node_there sectors v tree is stand root (omega arith)) in
    let file = s.kind in
    let directory = is.root in
    absurd (cc)

module _ (sectors : List (List ℕ)) (v : Volume) (history : List Entry) (client : ClientId) (number : ℕ) (opened : List Ino) (m : Mounted sectors v history) where
  abbrev tree_now : Tree
  tree_now = tree_of history

  unlinks : (step : List ℕ) (steps : List (List ℕ)) (ino : Ino) → IsAsked history client number (Unlink (step ∷ steps)) opened → file_named tree_now (step ∷ steps) ≡ Ok ino
      → Removes sectors v history client number (Unlink (step ∷ steps)) opened ino
  unlinks step steps ino a found =
      let path : List (List ℕ) = step ∷ steps in
      let is = m.volume in
      let stand = stand_nodes sectors v history m in
      let file = judged_file tree_now (resolved tree_now path) ino found in
      let p = has_parent tree_now step steps ino file.0 in
      let all = one_named history m.legal in
      let n = named_there tree_now p.place ino (last_of path) all p.directory p.named in
      let flushed : is_none (writer_of (node_at tree_now ino)) ≡ true = subst (λ (r : Result Ino Why). is_flushed_by_all tree_now r ≡ true) found a.flushed in
      record {
        place = p.place;
        name = last_of path;
        less = take_name tree_now p.place (last_of path);
        planned = λ i. removing_at v client number opened (touches (shown v) (Unlink path)) (((same_parent_of sectors v tree_now is stand path).same ∙ p.parent) i) (((same_file_named sectors v tree_now is stand path).same ∙ found) i) (last_of path);
        next = record { present = a.present; allowed = inl (sym (ap made found)); new_inode = refl; flushed = a.flushed };
        removed = file_removed sectors v tree_now p.place ino (last_of path) is stand all n file.1 flushed;
        tables = refl;
        later = ap (λ (r : Result Ino Why). swept (without_entry tree_now r path)) p.parent;
      }

  -- the root is no file
  pub unlink_removes : (path : List (List ℕ)) (ino : Ino) → IsAsked history client number (Unlink path) opened → file_named tree_now path ≡ Ok ino → Removes sectors v history client number (Unlink path) opened ino
  unlink_removes [] ino a found =
      let file = judged_file tree_now (Ok root) ino found in
      let same : root ≡ ino = (let both : Ok root ≡ Ok ino = file.0 in cc) in
      absurd (root_no_file sectors v tree_now m.volume (stand_nodes sectors v history m) (subst (λ (i : Ino). kind_of (node_at tree_now i) ≡ Some IsFile) (sym same) file.1))
  unlink_removes (step ∷ steps) ino a found = unlinks step steps ino a found

  pub rmdir_removes : (path : List (List ℕ)) (ino : Ino) → IsAsked history client number (Rmdir path) opened → removable tree_now path ≡ Ok ino → Removes sectors v history client number (Rmdir path) opened ino
  rmdir_removes [] ino a found = absurd (cc)
  rmdir_removes (step ∷ steps) ino a found =
      let path : List (List ℕ) = step ∷ steps in
      let is = m.volume in
      let stand = stand_nodes sectors v history m in
      let at = judged_empty tree_now (resolved tree_now path) ino found in
      let empty = empty_node (node_at tree_now ino) ino ino (subst (λ (r : Result Ino Why). judged as_empty_directory tree_now r ≡ Ok ino) at found) in
      let p = has_parent tree_now step steps ino at in
      let all = one_named history m.legal in
      let n = named_there tree_now p.place ino (last_of path) all p.directory p.named in
      record {
        place = p.place;
        name = last_of path;
        less = with_node (take_name tree_now p.place (last_of path)) ino.0 None;
        planned = λ i. removing_at v client number opened (touches (shown v) (Rmdir path)) (((same_parent_of sectors v tree_now is stand path).same ∙ p.parent) i) (((same_removable sectors v tree_now is stand path).same ∙ found) i) (last_of path);
        next = record { present = a.present; allowed = inl (sym (ap made found)); new_inode = refl; flushed = a.flushed };
        removed = directory_removed sectors v tree_now p.place ino (last_of path) is stand all n empty;
        tables = refl;
        later = λ i. swept (without_directory tree_now (found i) (p.parent i) path);
      }

-- ---- so the sectors stand for the history with the removal

module _ (sectors : List (List ℕ)) (v : Volume) (history : List Entry) (client : ClientId) (number : ℕ) (opened : List Ino) (m : Mounted sectors v history) where
  unlink_fits : (path : List (List ℕ)) → IsAsked history client number (Unlink path) opened → answer (tree_of history) client (Unlink path) ≡ Done → PlanFits sectors v history client number (Unlink path) (plan v client number (Unlink path) opened)
  unlink_fits path a done =
      let f = made_finds (file_named (tree_of history) path) done in
      removes_fits sectors v history client number (Unlink path) opened f.ino m a (unlink_removes sectors v history client number opened m path f.ino a f.is)

  rmdir_fits : (path : List (List ℕ)) → IsAsked history client number (Rmdir path) opened → answer (tree_of history) client (Rmdir path) ≡ Done → PlanFits sectors v history client number (Rmdir path) (plan v client number (Rmdir path) opened)
  rmdir_fits path a done =
      let f = made_finds (removable (tree_of history) path) done in
      removes_fits sectors v history client number (Rmdir path) opened f.ino m a (rmdir_removes sectors v history client number opened m path f.ino a f.is)

  pub unlink_leads : (path : List (List ℕ)) → IsAsked history client number (Unlink path) opened → answer (tree_of history) client (Unlink path) ≡ Done → PlanLeads sectors v history client number (Unlink path) opened
  unlink_leads path a done = fits_leads sectors v history _ _ m (unlink_fits path a done)

  pub rmdir_leads : (path : List (List ℕ)) → IsAsked history client number (Rmdir path) opened → answer (tree_of history) client (Rmdir path) ≡ Done → PlanLeads sectors v history client number (Rmdir path) opened
  rmdir_leads path a done = fits_leads sectors v history _ _ m (rmdir_fits path a done)

-- ---- a file that loses its last name

pub kept_or_freed : (kind : Kind) (old : Inode) (opened : Bool) → old.kind ≡ kind → kind ≡ File → IsFreedOrKept opened old (nameless kind old opened)
kept_or_freed File old true kind is = record { kind = kind; named = refl; size = refl; blocks = refl }
kept_or_freed File old false kind is = refl
kept_or_freed Dir old opened kind is = absurd (cc)
kept_or_freed Free old opened kind is = absurd (cc)

pub loses_file : (sectors : List (List ℕ)) (v : Volume) (tree : Tree) (ino : Ino) → IsVolume v → StandForNodes sectors v tree → ino.0 < limits.inodes → kind_of (node_at tree ino) ≡ Some IsFile → (inode_at v.inodes ino.0).kind ≡ File
loses_file sectors v tree ino is stand within kind =
    let f = file_node (node_at tree ino) kind in
    let s : StandsForFile sectors (inode_at v.inodes ino.0) tree ino.0 f.file = subst (λ (node : Option Node). StandsForNode sectors v tree ino.0 (inode_at v.inodes ino.0) node) f.is (node_there sectors v tree is stand ino within) in
    s.kind

pub unlinked_file : (sectors : List (List ℕ)) (v : Volume) (history : List Entry) (client : ClientId) (number : ℕ) (path : List (List ℕ)) (opened : List Ino) (ino : Ino) → Mounted sectors v history → IsAsked history client number (Unlink path) opened
    → file_named (tree_of history) path ≡ Ok ino → IsFreedOrKept (is_opened opened ino) (inode_at v.inodes ino.0) (inode_at (edited v (plan v client number (Unlink path) opened).edit).inodes ino.0)
unlinked_file sectors v history client number path opened ino m a found =
    let r = unlink_removes sectors v history client number opened m path ino a found in
    let file = judged_file (tree_of history) (resolved (tree_of history) path) ino found in
    let kind = loses_file sectors v (tree_of history) ino m.volume (stand_nodes sectors v history m) (let few = r.removed.to_511 in omega arith) file.1 in
    subst (λ (inode : Inode). IsFreedOrKept (is_opened opened ino) (inode_at v.inodes ino.0) inode) (sym (removes_inode sectors v history client number (Unlink path) opened ino m a r))
    (kept_or_freed (inode_at v.inodes ino.0).kind (inode_at v.inodes ino.0) (is_opened opened ino) refl kind)

removed_empty : (tree : Tree) (path : List (List ℕ)) (ino : Ino) → removable tree path ≡ Ok ino → IsEmptyNode (node_at tree ino)
removed_empty tree [] ino found = absurd (cc)
removed_empty tree (step ∷ steps) ino found =
    empty_node (node_at tree ino) ino ino (subst (λ (r : Result Ino Why). judged as_empty_directory tree r ≡ Ok ino) (judged_empty tree (resolved tree (step ∷ steps)) ino found) found)

pub removed_directory : (sectors : List (List ℕ)) (v : Volume) (history : List Entry) (client : ClientId) (number : ℕ) (path : List (List ℕ)) (opened : List Ino) (ino : Ino) → Mounted sectors v history → IsAsked history client number (Rmdir path) opened
    → removable (tree_of history) path ≡ Ok ino → inode_at (edited v (plan v client number (Rmdir path) opened).edit).inodes ino.0 ≡ free_inode
removed_directory sectors v history client number path opened ino m a found =
    let r = rmdir_removes sectors v history client number opened m path ino a found in
    let e = removed_empty (tree_of history) path ino found in
    let d = directory_there sectors v (tree_of history) m.volume (stand_nodes sectors v history m) ino e.names (let few = r.removed.to_511 in omega arith) e.is in
    removes_inode sectors v history client number (Rmdir path) opened ino m a r
    ∙ ap (λ (kind : Kind). nameless kind (inode_at v.inodes ino.0) (is_opened opened ino)) d.kind
