-- A purge and the freeing of an orphan are what the law asks of such an act.
use Rattle.std.proofs.Common.{◌≡◌, [], ℕ, false, not, List, Some, IsTrue, ap, refl, arith}
use Rattle.std.proofs.lemmas.List.Filters.{length-filter_both}
use Rattle.cal_base.specs.declared.identity.ClientId.{ClientId}
use Rattle.cal_base.specs.declared.identity.Ino.{Ino}
use Rattle.token_table.specs.Table.{same_client}
use Rattle.volume_edit.specs.Edit.{edited}
use Rattle.volume_edit.specs.Homes.{AreHomes}
use Rattle.volume_edit.specs.declared.edit.Edit.{Edit}
use Rattle.volume_plan.specs.Plans.{free_count, purge_of, reap_of}
use Rattle.volume_space.proofs.Planning.{reap_takes_none}
use Rattle.cluster_law.specs.Asking.{deserted, holders_of}
use Rattle.cluster_law.specs.Lanes.{Act, Commit, Commits, Purges, Reaps}
use Rattle.cluster_law.specs.Removing.{due, has_removed}
use Rattle.cluster_law.specs.ServerRules.{ActsWell, Occasion}
use Rattle.cluster_law.specs.ServerState.{ServerState, after_act, table_in}
use Rattle.server_draft.specs.Draft.{HasSpace}
use Rattle.server_removals.specs.Removals.{LooksAtOrphans}

-- the commit of a purge, and that of a freeing
abbrev pub purge-of : ClientId → List (ℕ × List ℕ) → Edit → List (ℕ × List ℕ) → Commit
purge-of client lays edit homes = record { deed = Purges client.0; lays = lays; edit = edit; homes = homes }

abbrev pub freeing-of : Ino → List (ℕ × List ℕ) → Edit → List (ℕ × List ℕ) → Commit
freeing-of ino lays edit homes = record { deed = Reaps ino; lays = lays; edit = edit; homes = homes }

-- a purge leaves as many blocks free, and no more Data Write holds
pub purged-space : (server : ServerState) (client : ClientId) (lays : List (ℕ × List ℕ)) (edit : Edit) (homes : List (ℕ × List ℕ)) → edit ≡ purge_of server.volume client → HasSpace server
    → HasSpace (after_act server (Commits (purge-of client lays edit homes)))
unfolding after_act
purged-space server client lays edit homes is space =
    let fewer = length-filter_both (λ (write : ClientId × Ino). same_client client write.0) (λ (write : ClientId × Ino). not (same_client client write.0)) (λ write. refl) (table_in server).writes in
    let same : free_count (edited server.volume edit) ≡ free_count server.volume = ap (λ (e : Edit). free_count (edited server.volume e)) is in
    omega (arith, fewer, same, space)

-- a freeing leaves no fewer blocks free, and the same holds
pub freed-space : (server : ServerState) (ino : Ino) (lays : List (ℕ × List ℕ)) (edit : Edit) (homes : List (ℕ × List ℕ)) → edit ≡ reap_of ino → HasSpace server
    → HasSpace (after_act server (Commits (freeing-of ino lays edit homes)))
unfolding after_act
freed-space server ino lays edit homes is space =
    let more = reap_takes_none server.volume ino in
    let same : free_count (edited server.volume edit) ≡ free_count (edited server.volume (reap_of ino)) = ap (λ (e : Edit). free_count (edited server.volume e)) is in
    omega (arith, more, same, space)

-- the client that is due is purged
pub purges-well : (o : Occasion) (start server : ServerState) (before : List Act) (client : ClientId) (lays : List (ℕ × List ℕ)) (edit : Edit) (homes : List (ℕ × List ℕ))
    → IsTrue o.tick → due o.gone server ≡ Some client → has_removed before ≡ false → lays ≡ [] → edit ≡ purge_of server.volume client → AreHomes server.volume edit homes → HasSpace server
    → ActsWell o start server before (Commits (purge-of client lays edit homes))
unfolding after_act
purges-well o start server before client lays edit homes tick is-due alone none is homes-are space = record {
  grants = tt;
  refuses = tt;
  commits = (tt, homes-are);
  collects = tt;
  revokes = tt;
  removes = (tick, record { due_is = is-due; alone = alone; edit_is = is; lays_none = none });
  reserve = λ admitted. purged-space server client lays edit homes is space;
}

-- the orphan that nobody uses is freed
pub frees-well : (o : Occasion) (start server : ServerState) (before : List Act) (ino : Ino) (lays : List (ℕ × List ℕ)) (edit : Edit) (homes : List (ℕ × List ℕ))
    → LooksAtOrphans o server → deserted server ≡ Some ino → holders_of server (Some ino) ≡ [] → has_removed before ≡ false → lays ≡ [] → edit ≡ reap_of ino → AreHomes server.volume edit homes → HasSpace server
    → ActsWell o start server before (Commits (freeing-of ino lays edit homes))
unfolding after_act
frees-well o start server before ino lays edit homes looks least unheld alone none is homes-are space = record {
  grants = tt;
  refuses = tt;
  commits = (tt, homes-are);
  collects = tt;
  revokes = tt;
  removes = (looks.tick, record { admitted = looks.admitted; none_due = looks.none_due; least = least; unheld = unheld; alone = alone; edit_is = is; lays_none = none });
  reserve = λ admitted. freed-space server ino lays edit homes is space;
}
