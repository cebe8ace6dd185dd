-- A flush of a client: its file's bytes last, and the client's slot counts the flush.
use Rattle.std.proofs.Common.{◌≡◌, ◌≢◌, ◌<◌, ◌≤◌, ◌+◌, ◌^◌, ℕ, Bool, true, List, ◌∷◌, length, slice_get, Option, Some, None, inl, inr, refl, sym, ap, subst, ◌∙◌, arith, if◌then◌else◌, get_or}
use Rattle.cal_base.specs.Limits as limits
use Rattle.std.specs.List.{slice_set}
use Rattle.std.proofs.lemmas.Bool.{cases_eq, cases_lt, eq-eqb, ne_eqb}
use Rattle.std.proofs.lemmas.List.{get_or-set_other, get_or-set_same, get_or_past}
use Rattle.cal_base.specs.declared.identity.ClientId.{ClientId}
use Rattle.cal_base.specs.declared.identity.Ino.{Ino}
use Rattle.inode.specs.declared.inode.Inode.{Inode}
use Rattle.journal.specs.Layout.{sector}
use Rattle.request_log.specs.Slot.{IsSlot}
use Rattle.request_log.specs.declared.slot.Slot.{Slot}
use Rattle.shared_disk.specs.Sectors.{written}
use Rattle.token_kind.specs.declared.flush.Flush.{Flush}
use Rattle.tree_law.proofs.IdleLemmas.{swept_purged}
use Rattle.tree_law.specs.After.{after, flushed_node}
use Rattle.tree_law.specs.FileState.{FileState, flushed_file, is_writer}
use Rattle.tree_law.specs.Idle.{is_named, names_it, with_node}
use Rattle.tree_law.specs.Legal.{IsNext, tree_of}
use Rattle.tree_law.specs.Tree.{Tree, is_purged, node_at, writer_of}
use Rattle.tree_law.specs.declared.entry.Entry.{Entry}
use Rattle.tree_law.specs.declared.entry.Entry.TheVariants.{Flush as Flushed}
use Rattle.tree_law.specs.declared.node.Node.{Node}
use Rattle.tree_law.specs.declared.node.Node.TheVariants.{Directory, Regular}
use Rattle.volume.specs.Numbers.{flush_count}
use Rattle.volume.specs.Stands.{AreBlocksKept, StandsForClient, StandsForFile, StandsForNode}
use Rattle.volume.specs.Volume.{Volume}
use Rattle.volume_edit.proofs.InodePointers.{same_there, there_at}
use Rattle.volume_edit.proofs.Marked.{get_set_other, get_set_same}
use Rattle.volume_edit.specs.Blocks.{TakesFree}
use Rattle.volume_edit.specs.Edit.{IsEdit, IsSlotEdit, IsVolume, edited, slot_at}
use Rattle.volume_edit.specs.declared.edit.SlotEdit.{SlotEdit}
use Rattle.volume_plan.proofs.Clients.{slot_other, slot_same, slot_there}
use Rattle.volume_plan.proofs.Fits.{StandForClients, StandForNodes}
use Rattle.volume_plan.proofs.FlushedBytes.{data_of, flushed_bytes}
use Rattle.volume_plan.proofs.FlushedInode.{CanFlush, flush_edits, flush_points, new_of, old_of, there}
use Rattle.volume_plan.proofs.Frames.{stand_swept}
use Rattle.volume_plan.proofs.LowHomes.{stands_elsewhere}
use Rattle.volume_plan.proofs.Named.{with_node_named}
use Rattle.volume_plan.proofs.Reaping.{from_one}
use Rattle.volume_plan.specs.Flushing.{IsFlushDue, flush_of}
use Rattle.volume_plan.specs.Leads.{Mounted}

-- the inode stands for the file
old_stands : (sectors : List (List ℕ)) (v : Volume) (history : List Entry) (client : ClientId) (flush : Flush) (file : FileState) → Mounted sectors v history → IsFlushDue v history client flush file
    → StandsForFile sectors (old_of v flush) (tree_of history) flush.ino.0 file
old_stands sectors v history client flush file m due =
    subst (λ (node : Option Node). StandsForNode sectors v (tree_of history) flush.ino.0 (old_of v flush) node) due.there
    (m.stands.nodes flush.ino.0 (old_of v flush) (there_at v.inodes flush.ino.0 (let a = due.is.ino in let b = m.volume.inode_count in omega arith)))

pub can_flush : (sectors : List (List ℕ)) (v : Volume) (history : List Entry) (client : ClientId) (flush : Flush) (file : FileState) → Mounted sectors v history → IsFlushDue v history client flush file → CanFlush sectors v flush
can_flush sectors v history client flush file m due = record {
  count = m.count;
  volume = m.volume;
  is = due.is;
  file = (old_stands sectors v history client flush file m due).kind;
  enough = due.enough;
}

-- the client's slot, with the number of the flush
abbrev pub flush_slot : Volume → ClientId → Flush → Slot
flush_slot v client flush = record { purged = (slot_at v.slots client.0).purged; call = (slot_at v.slots client.0).call; flush = flush.number; reply = (slot_at v.slots client.0).reply }

abbrev pub slot_edit_of : Volume → ClientId → Flush → SlotEdit
slot_edit_of v client flush = record { client = client; slot = flush_slot v client flush }

pub slot_edits : (v : Volume) (client : ClientId) (flush : Flush) → IsVolume v → client.0 < limits.clients → flush.number < 2 ^ 64 → IsSlotEdit (slot_edit_of v client flush)
slot_edits v client flush is below fits =
    let old : IsSlot (slot_at v.slots client.0) = is.slots client.0 (slot_at v.slots client.0) (slot_there v.slots client.0 (let l = is.slot_count in omega arith)) in
    record { client = below; slot = record { call = old.call; flush = fits; reply = old.reply } }

-- a flush that its volume can take is an edit, whatever the sectors are
pub flush_edits_by : (sectors : List (List ℕ)) (v : Volume) (client : ClientId) (flush : Flush) → CanFlush sectors v flush → client.0 < limits.clients → flush.number < 2 ^ 64 → IsEdit v (flush_of v client flush)
flush_edits_by sectors v client flush can known fits = record {
  some = inl refl;
  slot = slot_edits v client flush can.volume known fits;
  inode = flush_edits sectors v flush can (from_one v flush.ino.0 (old_of v flush) can.volume (there sectors v flush can) can.file);
  growth = tt;
  leaving = tt;
  entering = tt;
}

pub flush_edit_is : (sectors : List (List ℕ)) (v : Volume) (history : List Entry) (client : ClientId) (flush : Flush) (file : FileState) → Mounted sectors v history → IsFlushDue v history client flush file → IsEdit v (flush_of v client flush)
flush_edit_is sectors v history client flush file m due = flush_edits_by sectors v client flush (can_flush sectors v history client flush file m due) due.known due.fits

pub flush_takes : (sectors : List (List ℕ)) (v : Volume) (client : ClientId) (flush : Flush) → CanFlush sectors v flush → AreBlocksKept v → TakesFree v (flush_of v client flush)
flush_takes sectors v client flush can kept = record { inode = flush_points sectors v flush can kept; growth = tt }

pub flush_next : (v : Volume) (history : List Entry) (client : ClientId) (flush : Flush) (file : FileState) → IsFlushDue v history client flush file → IsNext (tree_of history) (Flushed client flush.ino)
flush_next v history client flush file due = ap (λ (node : Option Node). is_writer (writer_of node) client) due.there ∙ due.writer

-- the tree where the file lasts, before idle files go
abbrev flushed_tree : Tree → Ino → Tree
flushed_tree tree ino = with_node tree ino.0 (flushed_node (node_at tree ino))

flushed_names : (number : ℕ) (node : Option Node) → names_it number (flushed_node node) ≡ names_it number node
flushed_names number (Some (Directory names)) = refl
flushed_names number (Some (Regular file)) = refl
flushed_names number None = refl

flushed_named : (tree : Tree) (ino : Ino) (number : ℕ) → is_named (flushed_tree tree ino) number ≡ is_named tree number
flushed_named tree ino number = with_node_named tree ino.0 number (flushed_node (node_at tree ino)) (flushed_names number (node_at tree ino))

flushed_at : (tree : Tree) (ino : Ino) (file : FileState) → node_at tree ino ≡ Some (Regular file) → node_at (flushed_tree tree ino) ino ≡ Some (Regular (flushed_file file))
flushed_at tree ino file there = elim (cases_lt ino.0 (length tree.nodes)) [
  | inl within ↦ get_or-set_same tree.nodes ino.0 (flushed_node (node_at tree ino)) None within ∙ ap flushed_node there
  | inr past ↦ (let both : None ≡ Some (Regular file) = sym (get_or_past tree.nodes ino.0 None past) ∙ there in absurd (cc))
]

-- the inode stands for the file with its present bytes
new_stands : (sectors others : List (List ℕ)) (v : Volume) (history : List Entry) (client : ClientId) (flush : Flush) (file : FileState) → Mounted sectors v history → IsFlushDue v history client flush file
    → ((j : ℕ) → 548 ≤ j → sector others j ≡ sector (written sectors (data_of v flush)) j)
    → StandsForFile others (new_of v flush) (flushed_tree (tree_of history) flush.ino) flush.ino.0 (flushed_file file)
new_stands sectors others v history client flush file m due same =
    let can = can_flush sectors v history client flush file m due in
    let old = old_stands sectors v history client flush file m due in
    record {
      kind = can.file;
      size = sym due.bytes.sized;
      bytes = λ i. flushed_bytes sectors others v flush file.kept file.contents can m.stands.blocks m.stands.spells due.bytes old.bytes same i;
      named = old.named ∙ sym (flushed_named (tree_of history) flush.ino flush.ino.0);
    }

node_flushed : (sectors others : List (List ℕ)) (v : Volume) (history : List Entry) (client : ClientId) (flush : Flush) (file : FileState) → Mounted sectors v history → IsFlushDue v history client flush file
    → StandForNodes (written sectors (data_of v flush)) v (tree_of history)
    → ((j : ℕ) → 548 ≤ j → sector others j ≡ sector (written sectors (data_of v flush)) j)
    → (number : ℕ) (inode : Inode) → slice_get (slice_set v.inodes flush.ino.0 (new_of v flush)) number ≡ Some inode
    → StandsForNode others (edited v (flush_of v client flush)) (flushed_tree (tree_of history) flush.ino) number inode (node_at (flushed_tree (tree_of history) flush.ino) (record { 0 = number }))
node_flushed sectors others v history client flush file m due stand same number inode at = elim (cases_eq number flush.ino.0) [
  | inl here ↦ at_file here
  | inr apart ↦ subst (λ (node : Option Node). StandsForNode others (edited v (flush_of v client flush)) (flushed_tree tree flush.ino) number inode node) (sym (get_or-set_other tree.nodes flush.ino.0 number (flushed_node (node_at tree flush.ino)) None apart))
      (stands_elsewhere (written sectors (data_of v flush)) others v (edited v (flush_of v client flush)) tree (flushed_tree tree flush.ino) flush.ino.0 number inode (node_at tree (record { 0 = number })) apart refl (flushed_named tree flush.ino number) same
      (stand.node number inode (sym (get_set_other v.inodes flush.ino.0 number (new_of v flush) apart) ∙ at)))
]
  where
    tree : Tree
    tree = tree_of history

    within : flush.ino.0 < length v.inodes
    within = let a = due.is.ino in let b = m.volume.inode_count in omega arith

    at_file : number ≡ flush.ino.0 → StandsForNode others (edited v (flush_of v client flush)) (flushed_tree tree flush.ino) number inode (node_at (flushed_tree tree flush.ino) (record { 0 = number }))
    at_file here =
        let one : new_of v flush ≡ inode = same_there (slice_set v.inodes flush.ino.0 (new_of v flush)) flush.ino.0 (new_of v flush) inode (get_set_same v.inodes flush.ino.0 (new_of v flush) within) (subst (λ (n : ℕ). slice_get (slice_set v.inodes flush.ino.0 (new_of v flush)) n ≡ Some inode) here at) in
        subst (λ (i : Inode). StandsForNode others (edited v (flush_of v client flush)) (flushed_tree tree flush.ino) number i (node_at (flushed_tree tree flush.ino) (record { 0 = number }))) one
        (subst (λ (n : ℕ). StandsForNode others (edited v (flush_of v client flush)) (flushed_tree tree flush.ino) n (new_of v flush) (node_at (flushed_tree tree flush.ino) (record { 0 = n }))) (sym here)
        (subst (λ (node : Option Node). StandsForNode others (edited v (flush_of v client flush)) (flushed_tree tree flush.ino) flush.ino.0 (new_of v flush) node) (sym (flushed_at tree flush.ino file due.there))
        (new_stands sectors others v history client flush file m due same)))

-- the inodes stand for the tree where the file lasts
pub flush_nodes : (sectors others : List (List ℕ)) (v : Volume) (history : List Entry) (client : ClientId) (flush : Flush) (file : FileState) → Mounted sectors v history → IsFlushDue v history client flush file
    → StandForNodes (written sectors (data_of v flush)) v (tree_of history)
    → ((j : ℕ) → 548 ≤ j → sector others j ≡ sector (written sectors (data_of v flush)) j)
    → StandForNodes others (edited v (flush_of v client flush)) (after (tree_of history) (Flushed client flush.ino))
flush_nodes sectors others v history client flush file m due stand same =
    stand_swept others (edited v (flush_of v client flush)) (flushed_tree (tree_of history) flush.ino) (record { node = node_flushed sectors others v history client flush file m due stand same })

-- nobody is purged by a flush
flush_purged : (tree : Tree) (client other : ClientId) (ino : Ino) → is_purged (after tree (Flushed client ino)) other ≡ is_purged tree other
flush_purged tree client other ino = ap (λ (purged : List Bool). get_or purged other.0 true) (swept_purged (flushed_tree tree ino) 512)

counted : (client other : ClientId) (ino : Ino) (history : List Entry) → other.0 ≡ client.0 → flush_count other (Flushed client ino ∷ history) ≡ flush_count other history + 1
counted client other ino history same = ap (λ (b : Bool). if b then flush_count other history + 1 else flush_count other history) (eq-eqb client.0 other.0 (sym same))

uncounted : (client other : ClientId) (ino : Ino) (history : List Entry) → other.0 ≢ client.0 → flush_count other (Flushed client ino ∷ history) ≡ flush_count other history
uncounted client other ino history apart = ap (λ (b : Bool). if b then flush_count other history + 1 else flush_count other history) (ne_eqb client.0 other.0 (λ (e : client.0 ≡ other.0). apart (sym e)))

pub flush_clients : (v : Volume) (history : List Entry) (client : ClientId) (flush : Flush) → client.0 < length v.slots → flush.number ≡ (slot_at v.slots client.0).flush + 1 → StandForClients v (tree_of history) history
    → StandForClients (edited v (flush_of v client flush)) (after (tree_of history) (Flushed client flush.ino)) (Flushed client flush.ino ∷ history)
flush_clients v history client flush within next stand = record { slot = at }
  where
    at : (other : ClientId) (slot : Slot) → slice_get (slice_set v.slots client.0 (flush_slot v client flush)) other.0 ≡ Some slot → StandsForClient slot (after (tree_of history) (Flushed client flush.ino)) (Flushed client flush.ino ∷ history) other
    at other slot there = elim (cases_eq other.0 client.0) [
      | inl same ↦ (let old = stand.slot other (slot_at v.slots client.0) (ap (slice_get v.slots) same ∙ slot_there v.slots client.0 within) in
          subst (λ (s : Slot). StandsForClient s (after (tree_of history) (Flushed client flush.ino)) (Flushed client flush.ino ∷ history) other)
          (slot_same v.slots client.0 (flush_slot v client flush) slot within (subst (λ (n : ℕ). slice_get (slice_set v.slots client.0 (flush_slot v client flush)) n ≡ Some slot) same there))
          (record {
            purged = old.purged ∙ sym (flush_purged (tree_of history) client other flush.ino);
            call = old.call;
            reply = old.reply;
            flush = next ∙ ap (λ (n : ℕ). n + 1) old.flush ∙ sym (counted client other flush.ino history same);
          }))
      | inr apart ↦ (let old = stand.slot other slot (sym (slot_other v.slots client.0 other.0 (flush_slot v client flush) apart) ∙ there) in
          record {
            purged = old.purged ∙ sym (flush_purged (tree_of history) client other flush.ino);
            call = old.call;
            reply = old.reply;
            flush = old.flush ∙ sym (uncounted client other flush.ino history apart);
          })
    ]
