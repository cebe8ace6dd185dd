-- A purge of a client: files have what lasts of them alone, and the client's slot says that it is purged.
use Rattle.std.proofs.Common.{◌≡◌, ◌≢◌, ◌<◌, ◌||◌, ℕ, zero, suc, Bool, true, false, List, [], ◌∷◌, length, map, get_or, slice_get, Option, Some, None, inl, inr, refl, sym, ap, subst, ◌∙◌, arith, if◌then◌else◌}
use Rattle.cal_base.specs.Limits as limits
use Rattle.std.specs.List.{list_any, slice_set}
use Rattle.std.proofs.lemmas.Bool.{cases_eq}
use Rattle.std.proofs.lemmas.List.{get_or-set_other}
use Rattle.std.proofs.Math.ListN.{get_or-map}
use Rattle.cal_base.specs.declared.identity.ClientId.{ClientId}
use Rattle.inode.specs.declared.inode.Inode.{Inode}
use Rattle.request_log.specs.Slot.{IsSlot}
use Rattle.request_log.specs.declared.slot.Slot.{Slot}
use Rattle.tree_law.proofs.IdleLemmas.{swept_purged}
use Rattle.tree_law.specs.After.{after, restored_node, without_client}
use Rattle.tree_law.specs.FileState.{FileState, is_writer, kept_file}
use Rattle.tree_law.specs.Idle.{names_it}
use Rattle.tree_law.specs.Legal.{tree_of}
use Rattle.tree_law.specs.Tree.{Tree, is_purged, node_at}
use Rattle.tree_law.specs.declared.entry.Entry.{Entry}
use Rattle.tree_law.specs.declared.entry.Entry.TheVariants.{Purge}
use Rattle.tree_law.specs.declared.node.Node.{Node}
use Rattle.tree_law.specs.declared.node.Node.TheVariants.{Directory, Regular}
use Rattle.volume.specs.Stands.{StandsForClient, StandsForFile, StandsForNode}
use Rattle.volume.specs.Volume.{Volume}
use Rattle.volume_edit.specs.Edit.{IsEdit, IsVolume, edited, slot_at}
use Rattle.volume_plan.proofs.Clients.{slot_other, slot_same, slot_there}
use Rattle.volume_plan.proofs.Fits.{Fits, KeepsFiles, StandForClients, StandForNodes}
use Rattle.volume_plan.proofs.Frames.{keeps_bytes, stand_swept, stands_later}
use Rattle.volume_plan.specs.Leads.{Mounted}
use Rattle.volume_plan.specs.Plans.{purge_of}

-- what is kept names as before
restored_names : (client : ClientId) (number : ℕ) (node : Option Node) → names_it number (restored_node client node) ≡ names_it number node
restored_names client number (Some (Directory names)) = refl
restored_names client number (Some (Regular file)) = refl
restored_names client number None = refl

restored_named : (client : ClientId) (nodes : List (Option Node)) (number : ℕ) → list_any (names_it number) (map (restored_node client) nodes) ≡ list_any (names_it number) nodes
restored_named client [] number = refl
restored_named client (x ∷ nodes) number = (λ i. restored_names client number x i || restored_named client nodes number i)

-- a file stands for itself without a client's unflushed writes
restored_file_stands : (sectors : List (List ℕ)) (inode : Inode) (tree : Tree) (number : ℕ) (file : FileState) (b : Bool) → StandsForFile sectors inode tree number file
    → StandsForFile sectors inode tree number (if b then kept_file file else file)
restored_file_stands sectors inode tree number file true s = record { kind = s.kind; size = s.size; bytes = s.bytes; named = s.named }
restored_file_stands sectors inode tree number file false s = s

restored_stands : (sectors : List (List ℕ)) (v : Volume) (tree : Tree) (number : ℕ) (inode : Inode) (client : ClientId) (node : Option Node) → StandsForNode sectors v tree number inode node
    → StandsForNode sectors v tree number inode (restored_node client node)
restored_stands sectors v tree number inode client (Some (Directory names)) s = s
restored_stands sectors v tree number inode client (Some (Regular file)) s = restored_file_stands sectors inode tree number file (is_writer file.writer client) s
restored_stands sectors v tree number inode client None s = s

-- the inodes stand for the tree without the client
purged_stand : (sectors others : List (List ℕ)) (v w : Volume) (tree : Tree) (client : ClientId) → w.inodes ≡ v.inodes → w.directories ≡ v.directories → KeepsFiles v sectors others → StandForNodes sectors v tree
    → StandForNodes others w (after tree (Purge client))
purged_stand sectors others v w tree client inodes directories keeps stand = stand_swept others w (without_client tree client) (record {
  node = λ number inode there.
      (let before : slice_get v.inodes number ≡ Some inode = sym (ap (λ (is : List Inode). slice_get is number) inodes) ∙ there in
      let later = stands_later sectors others v w tree (without_client tree client) number inode (node_at tree (record { 0 = number })) (ap (λ (ds : _). get_or ds number []) directories) (restored_named client tree.nodes number)
      (keeps_bytes sectors others v number inode keeps before) (stand.node number inode before) in
      subst (λ (node : Option Node). StandsForNode others w (without_client tree client) number inode node) (sym (get_or-map (restored_node client) tree.nodes number None))
      (restored_stands others w (without_client tree client) number inode client (node_at tree (record { 0 = number })) later));
})

-- who is purged then
set_default : (purged : List Bool) (n : ℕ) → get_or (slice_set purged n true) n true ≡ true
set_default [] n = refl
set_default (b ∷ purged) zero = refl
set_default (b ∷ purged) (suc n) = set_default purged n

swept_is_purged : (tree : Tree) (client other : ClientId) → is_purged (after tree (Purge client)) other ≡ get_or (slice_set tree.purged client.0 true) other.0 true
swept_is_purged tree client other = ap (λ (purged : List Bool). get_or purged other.0 true) (swept_purged (without_client tree client) 512)

purged_then : (tree : Tree) (client other : ClientId) → other.0 ≡ client.0 → is_purged (after tree (Purge client)) other ≡ true
purged_then tree client other same = swept_is_purged tree client other ∙ ap (λ (n : ℕ). get_or (slice_set tree.purged client.0 true) n true) same ∙ set_default tree.purged client.0

purged_as_before : (tree : Tree) (client other : ClientId) → other.0 ≢ client.0 → is_purged (after tree (Purge client)) other ≡ is_purged tree other
purged_as_before tree client other apart = swept_is_purged tree client other ∙ get_or-set_other tree.purged client.0 other.0 true true apart

abbrev purged_slot : Volume → ClientId → Slot
purged_slot v client = record { purged = true; call = (slot_at v.slots client.0).call; flush = (slot_at v.slots client.0).flush; reply = (slot_at v.slots client.0).reply }

clients_purged : (v : Volume) (history : List Entry) (client : ClientId) → client.0 < length v.slots → StandForClients v (tree_of history) history
    → StandForClients (edited v (purge_of v client)) (after (tree_of history) (Purge client)) (Purge client ∷ history)
clients_purged v history client within stand = record { slot = at }
  where
    at : (other : ClientId) (slot : Slot) → slice_get (slice_set v.slots client.0 (purged_slot v client)) other.0 ≡ Some slot → StandsForClient slot (after (tree_of history) (Purge client)) (Purge client ∷ history) other
    at other slot there = elim (cases_eq other.0 client.0) [
      | inl same ↦ (let old = stand.slot other (slot_at v.slots client.0) (ap (slice_get v.slots) same ∙ slot_there v.slots client.0 within) in
          subst (λ (s : Slot). StandsForClient s (after (tree_of history) (Purge client)) (Purge client ∷ history) other)
          (slot_same v.slots client.0 (purged_slot v client) slot within (subst (λ (n : ℕ). slice_get (slice_set v.slots client.0 (purged_slot v client)) n ≡ Some slot) same there))
          (record { purged = sym (purged_then (tree_of history) client other same); call = old.call; reply = old.reply; flush = old.flush }))
      | inr apart ↦ (let old = stand.slot other slot (sym (slot_other v.slots client.0 other.0 (purged_slot v client) apart) ∙ there) in
          record { purged = old.purged ∙ sym (purged_as_before (tree_of history) client other apart); call = old.call; reply = old.reply; flush = old.flush })
    ]

pub purge_edits : (v : Volume) (client : ClientId) → IsVolume v → client.0 < limits.clients → IsEdit v (purge_of v client)
purge_edits v client is below =
    let old : IsSlot (slot_at v.slots client.0) = is.slots client.0 (slot_at v.slots client.0) (slot_there v.slots client.0 (let l = is.slot_count in omega arith)) in
    record {
      some = inl refl;
      slot = record { client = below; slot = record { call = old.call; flush = old.flush; reply = old.reply } };
      inode = tt;
      growth = tt;
      leaving = tt;
      entering = tt;
    }

pub purge_fits : (sectors : List (List ℕ)) (v : Volume) (history : List Entry) (client : ClientId) → Mounted sectors v history → client.0 < limits.clients → is_purged (tree_of history) client ≡ false
    → Fits sectors v history (purge_of v client) (Purge client)
purge_fits sectors v history client m below present = record {
  edit = purge_edits v client m.volume below;
  takes = record { inode = tt; growth = tt };
  next = present;
  nodes = λ others keeps. purged_stand sectors others v (edited v (purge_of v client)) (tree_of history) client refl refl keeps (record { node = m.stands.nodes });
  clients = clients_purged v history client (let l = m.volume.slot_count in omega arith) (record { slot = m.stands.clients });
}
