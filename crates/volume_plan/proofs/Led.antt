-- A purge, a reaping and a flush lead to sectors that stand for their history.
use Rattle.std.proofs.Common.{◌≡◌, ◌<◌, ◌∷◌, ◌∙◌, ℕ, false, List, Some, None, slice_get, arith}
use Rattle.cal_base.specs.Limits as limits
use Rattle.std.proofs.lemmas.Option.{slice_get_within}
use Rattle.cal_base.specs.declared.identity.ClientId.{ClientId}
use Rattle.cal_base.specs.declared.identity.Ino.{Ino}
use Rattle.inode.specs.declared.inode.Inode.{Inode}
use Rattle.inode.specs.declared.inode.Kind.TheVariants.{File}
use Rattle.journal.proofs.Sectors.{length_written}
use Rattle.shared_disk.specs.Sectors.{left_of, written}
use Rattle.token_kind.specs.declared.flush.Flush.{Flush}
use Rattle.tree_law.specs.FileState.{FileState}
use Rattle.tree_law.specs.Legal.{tree_of}
use Rattle.tree_law.specs.Tree.{is_purged, node_at}
use Rattle.tree_law.specs.declared.entry.Entry.{Entry}
use Rattle.tree_law.specs.declared.entry.Entry.TheVariants.{Flush as Flushed, Purge}
use Rattle.volume.specs.Stands.{StandsForHistory}
use Rattle.volume.specs.Volume.{Volume}
use Rattle.volume_edit.proofs.Data.{data_stands}
use Rattle.volume_edit.specs.Edit.{edited}
use Rattle.volume_edit.specs.Homes.{AreHomes}
use Rattle.volume_plan.proofs.FlushedBytes.{data_goes_to_free, data_of}
use Rattle.volume_plan.proofs.FlushedInode.{inode_edit_of}
use Rattle.volume_plan.proofs.FlushFits.{can_flush, flush_clients, flush_edit_is, flush_next, flush_nodes, flush_takes, slot_edit_of}
use Rattle.volume_plan.proofs.Leading.{edit_stands, fits_leads}
use Rattle.volume_plan.proofs.LowHomes.{data_stays}
use Rattle.volume_plan.proofs.PurgeFits.{purge_fits}
use Rattle.volume_plan.proofs.Reaping.{reap_edits, reap_inode, reap_nodes, reap_takes}
use Rattle.volume_plan.proofs.Stopping.{stopped_to_free}
use Rattle.volume_plan.specs.Flushing.{FlushLeads, IsFlushDue, flush_of}
use Rattle.volume_plan.specs.Leads.{Leads, Mounted}
use Rattle.volume_plan.specs.Plans.{purge_of, reap_of}

pub purge_leads : (sectors : List (List ℕ)) (v : Volume) (history : List Entry) (client : ClientId) → Mounted sectors v history → client.0 < limits.clients → is_purged (tree_of history) client ≡ false → Leads sectors v history (purge_of v client) (Purge client)
purge_leads sectors v history client m below present = fits_leads sectors v history (purge_of v client) (Purge client) m (purge_fits sectors v history client m below present)

pub reaping_stands : (sectors : List (List ℕ)) (v : Volume) (history : List Entry) (ino : Ino) (inode : Inode) (homes : List (ℕ × List ℕ)) → Mounted sectors v history → slice_get v.inodes ino.0 ≡ Some inode → inode.kind ≡ File → node_at (tree_of history) ino ≡ None
    → AreHomes v (reap_of ino) homes → StandsForHistory (written sectors homes) (edited v (reap_of ino)) history
reaping_stands sectors v history ino inode homes m there file gone are =
    edit_stands sectors v (reap_of ino) homes history m.count m.stands.spells m.volume m.stands.blocks (reap_edits v ino inode m.volume there file) (reap_takes v ino) are
    (record {
      node = λ number i at. reap_nodes sectors (written sectors homes) v history ino m (slice_get_within v.inodes ino.0 inode there) gone
          (λ j high. data_stays sectors v None (reap_of ino).inode homes j tt (reap_inode v ino inode m.volume there file) are high) number i at;
    })
    (record { slot = m.stands.clients })

flush_stands : (sectors : List (List ℕ)) (v : Volume) (history : List Entry) (client : ClientId) (flush : Flush) (file : FileState) (homes : List (ℕ × List ℕ)) → Mounted sectors v history → IsFlushDue v history client flush file
    → AreHomes v (flush_of v client flush) homes → StandsForHistory (written (written sectors (data_of v flush)) homes) (edited v (flush_of v client flush)) (Flushed client flush.ino ∷ history)
flush_stands sectors v history client flush file homes m due are =
    let can = can_flush sectors v history client flush file m due in
    let made = written sectors (data_of v flush) in
    let before = data_stands sectors v history (data_of v flush) (data_goes_to_free v flush) m.stands in
    let edit = flush_edit_is sectors v history client flush file m due in
    edit_stands made v (flush_of v client flush) homes (Flushed client flush.ino ∷ history) (length_written (data_of v flush) sectors ∙ m.count) before.spells m.volume before.blocks edit (flush_takes sectors v client flush can before.blocks) are
    (flush_nodes sectors (written made homes) v history client flush file m due (record { node = before.nodes })
    (λ j high. data_stays made v (Some (slot_edit_of v client flush)) (Some (inode_edit_of v flush)) homes j edit.slot edit.inode are high))
    (flush_clients v history client flush (let a = due.known in let b = m.volume.slot_count in omega arith) due.next (record { slot = m.stands.clients }))

pub flush_leads : (sectors : List (List ℕ)) (v : Volume) (history : List Entry) (client : ClientId) (flush : Flush) (file : FileState) → Mounted sectors v history → IsFlushDue v history client flush file → FlushLeads sectors v history client flush
flush_leads sectors v history client flush file m due = record {
  goes = data_goes_to_free v flush;
  stopped = λ made torn. data_stands sectors v history (left_of (data_of v flush) made torn) (stopped_to_free v (data_of v flush) made torn (data_goes_to_free v flush)) m.stands;
  before = data_stands sectors v history (data_of v flush) (data_goes_to_free v flush) m.stands;
  edit = flush_edit_is sectors v history client flush file m due;
  next = flush_next v history client flush file due;
  stands = λ homes are. flush_stands sectors v history client flush file homes m due are;
}
