-- The plans of purges, reapings and flushes keep what the laws promise.
use Rattle.std.proofs.Common.{◌≡◌, ◌≤◌, ◌<◌, ◌^◌, ℕ, true, false, Bool, List, [], length, replicate, Some, None, slice_get, refl, sym, subst, arith}
use Rattle.cal_base.specs.Limits as limits
use Rattle.std.proofs.lemmas.List.{length-replicate}
use Rattle.cal_base.specs.declared.identity.ClientId.{ClientId}
use Rattle.cal_base.specs.declared.identity.Ino.{Ino}
use Rattle.inode.specs.declared.inode.Kind.{Kind}
use Rattle.inode.specs.declared.inode.Kind.TheVariants.{Free, File, Dir}
use Rattle.shared_disk.specs.Sectors.{written}
use Rattle.token_kind.specs.Flush.{IsFlush}
use Rattle.token_kind.specs.declared.flush.Flush.{Flush}
use Rattle.tree_law.specs.FileState.{FileState}
use Rattle.tree_law.specs.Legal.{tree_of}
use Rattle.tree_law.specs.Tree.{is_purged, node_at}
use Rattle.tree_law.specs.declared.entry.Entry.{Entry}
use Rattle.tree_law.specs.declared.entry.Entry.TheVariants.{Purge}
use Rattle.volume.specs.Stands.{AreBlocksKept, StandsForHistory}
use Rattle.volume.specs.Volume.{Volume}
use Rattle.volume_edit.specs.Blocks.{GoToFree, TakesFree}
use Rattle.volume_edit.specs.Edit.{IsEdit, IsVolume, edited, free_inode, inode_at}
use Rattle.volume_edit.specs.Homes.{AreHomes}
use Rattle.volume_edit.specs.declared.edit.Edit.{Edit}
use Rattle.volume_plan.proofs.EditParts.{get_there}
use Rattle.volume_plan.proofs.FlushFits.{flush_edits_by}
use Rattle.volume_plan.proofs.FlushedBytes.{data_goes_to_free}
use Rattle.volume_plan.proofs.TakenFree.{flush_takes_free}
use Rattle.volume_plan.proofs.Led.{flush_leads, purge_leads, reaping_stands}
use Rattle.volume_plan.proofs.PurgeFits.{purge_edits}
use Rattle.volume_plan.proofs.Reaping.{reap_edits, reap_takes}
use Rattle.volume_plan.specs.Flushing.{IsFlushDue, blocks_for, data_writes, flush_of}
use Rattle.volume_plan.specs.Leads.{Mounted}
use Rattle.volume_plan.specs.Plans.{free_count, purge_of, reap_of}
use Rattle.image.specs.EntryPlans.{EntryStands, FlushStands}
use Rattle.image.specs.Image.{is_nameless, is_orphan}

pub purge_is : (v : Volume) (client : ClientId) (e : Edit) → e ≡ purge_of v client → IsVolume v → client.0 < limits.clients → IsEdit v e
purge_is v client e same is known = subst (IsEdit v) (sym same) (purge_edits v client is known)

pub purge_takes_free : (v : Volume) (client : ClientId) (e : Edit) → e ≡ purge_of v client → TakesFree v e
purge_takes_free v client e same = subst (TakesFree v) (sym same) (record { inode = tt; growth = tt })

pub reap_takes_free : (v : Volume) (ino : Ino) (e : Edit) → e ≡ reap_of ino → TakesFree v e
reap_takes_free v ino e same = subst (TakesFree v) (sym same) (reap_takes v ino)

pub flush_takes_of : (v : Volume) (client : ClientId) (flush : Flush) (e : Edit) → e ≡ flush_of v client flush → IsVolume v → AreBlocksKept v → IsFlush flush → (inode_at v.inodes flush.ino.0).kind ≡ File → length flush.pieces ≤ free_count v → TakesFree v e
flush_takes_of v client flush e same is kept of file enough = subst (TakesFree v) (sym same) (flush_takes_free v client flush is kept (record { is = of; file = file; enough = enough }))

pub data_goes : (v : Volume) (flush : Flush) (writes : List (ℕ × List ℕ)) → writes ≡ data_writes (blocks_for v flush) flush.pieces → GoToFree v writes
data_goes v flush writes same = subst (GoToFree v) (sym same) (data_goes_to_free v flush)

purge_led : (sectors : List (List ℕ)) (v : Volume) (history : List Entry) (client : ClientId) (homes : List (ℕ × List ℕ)) → Mounted sectors v history → client.0 < limits.clients → is_purged (tree_of history) client ≡ false → AreHomes v (purge_of v client) homes
    → EntryStands sectors v history (purge_of v client) homes (Purge client)
purge_led sectors v history client homes m known present are =
    let leads = purge_leads sectors v history client m known present in
    record { next = leads.next; stands = leads.stands homes are }

pub purge_stands : (sectors : List (List ℕ)) (v : Volume) (history : List Entry) (client : ClientId) (e : Edit) (homes : List (ℕ × List ℕ)) → e ≡ purge_of v client → AreHomes v e homes → Mounted sectors v history → client.0 < limits.clients → is_purged (tree_of history) client ≡ false
    → EntryStands sectors v history e homes (Purge client)
purge_stands sectors v history client e homes same are m known present =
    subst (λ (o : Edit). EntryStands sectors v history o homes (Purge client)) (sym same) (purge_led sectors v history client homes m known present (subst (λ (o : Edit). AreHomes v o homes) same are))

nameless_file : (kind : Kind) (named : Bool) → is_nameless kind named ≡ true → kind ≡ File
nameless_file Free named e = absurd (cc)
nameless_file File named e = refl
nameless_file Dir named e = absurd (cc)

file_of : (v : Volume) (ino : Ino) → is_orphan (inode_at v.inodes ino.0) ≡ true → (inode_at v.inodes ino.0).kind ≡ File
file_of v ino orphan = nameless_file (inode_at v.inodes ino.0).kind (inode_at v.inodes ino.0).named orphan

there_of : (v : Volume) (ino : Ino) → IsVolume v → ino.0 < limits.inodes → slice_get v.inodes ino.0 ≡ Some (inode_at v.inodes ino.0)
there_of v ino is within = let count = is.inode_count in get_there v.inodes ino.0 free_inode (omega arith)

pub reap_is : (v : Volume) (ino : Ino) (e : Edit) → e ≡ reap_of ino → IsVolume v → ino.0 < limits.inodes → is_orphan (inode_at v.inodes ino.0) ≡ true → IsEdit v e
reap_is v ino e same is within orphan = subst (IsEdit v) (sym same) (reap_edits v ino (inode_at v.inodes ino.0) is (there_of v ino is within) (file_of v ino orphan))

pub reap_stands : (sectors : List (List ℕ)) (v : Volume) (history : List Entry) (ino : Ino) (e : Edit) (homes : List (ℕ × List ℕ)) → e ≡ reap_of ino → AreHomes v e homes → Mounted sectors v history → ino.0 < limits.inodes → is_orphan (inode_at v.inodes ino.0) ≡ true → node_at (tree_of history) ino ≡ None
    → StandsForHistory (written sectors homes) (edited v e) history
reap_stands sectors v history ino e homes same are m within orphan gone =
    subst (λ (o : Edit). StandsForHistory (written sectors homes) (edited v o) history) (sym same)
    (reaping_stands sectors v history ino (inode_at v.inodes ino.0) homes m (there_of v ino m.volume within) (file_of v ino orphan) gone (subst (λ (o : Edit). AreHomes v o homes) same are))

pub flush_is : (v : Volume) (client : ClientId) (flush : Flush) (e : Edit) → e ≡ flush_of v client flush → IsVolume v → client.0 < limits.clients → flush.number < 2 ^ 64 → IsFlush flush → (inode_at v.inodes flush.ino.0).kind ≡ File → length flush.pieces ≤ free_count v → IsEdit v e
flush_is v client flush e same is known fits flushes file enough = subst (IsEdit v) (sym same)
    (flush_edits_by (replicate {A = List ℕ} 2596 []) v client flush (record { count = length-replicate {A = List ℕ} 2596 []; volume = is; is = flushes; file = file; enough = enough }) known fits)

flush_led : (sectors : List (List ℕ)) (v : Volume) (history : List Entry) (client : ClientId) (flush : Flush) (file : FileState) (homes : List (ℕ × List ℕ)) → AreHomes v (flush_of v client flush) homes → Mounted sectors v history → IsFlushDue v history client flush file
    → FlushStands sectors v history client flush (data_writes (blocks_for v flush) flush.pieces) (flush_of v client flush) homes
flush_led sectors v history client flush file homes are m due =
    let leads = flush_leads sectors v history client flush file m due in
    record { goes = leads.goes; stopped = leads.stopped; before = leads.before; last = record { next = leads.next; stands = leads.stands homes are } }

pub flush_stands : (sectors : List (List ℕ)) (v : Volume) (history : List Entry) (client : ClientId) (flush : Flush) (file : FileState) (blocks : List (ℕ × List ℕ)) (e : Edit) (homes : List (ℕ × List ℕ))
    → blocks ≡ data_writes (blocks_for v flush) flush.pieces → e ≡ flush_of v client flush → AreHomes v e homes → Mounted sectors v history → IsFlushDue v history client flush file → FlushStands sectors v history client flush blocks e homes
flush_stands sectors v history client flush file blocks e homes written_are same are m due =
    subst (λ (ws : List (ℕ × List ℕ)). FlushStands sectors v history client flush ws e homes) (sym written_are)
    (subst (λ (o : Edit). FlushStands sectors v history client flush (data_writes (blocks_for v flush) flush.pieces) o homes) (sym same)
    (flush_led sectors v history client flush file homes (subst (λ (o : Edit). AreHomes v o homes) same are) m due))
