-- Which client a server purges, and which orphan it frees.
use Rattle.std.specs.Prelude.{◌≡◌, ◌⊎◌, ◌∷◌, [], ◌&&◌, ◌||◌, Bool, true, false, not, List, Option, Some, None, IsTrue, filter, is_none}
use Rattle.cal_base.specs.declared.identity.ClientId.{ClientId}
use Rattle.cal_base.specs.declared.identity.Ino.{Ino}
use Rattle.token_kind.specs.declared.blocker.Blocker.{Blocker}
use Rattle.token_table.specs.Blockers.{clients_below}
use Rattle.volume_plan.specs.Plans.{purge_of, reap_of}
use Rattle.cluster_law.specs.Asking.{deserted, holders_of, next_revoke}
use Rattle.cluster_law.specs.Lanes.{Act, Mounts, Tells, Commits, Drops, Commit, Deed, Changes, Flushes, Purges, Reaps}
use Rattle.cluster_law.specs.Lists.{first_of}
use Rattle.cluster_law.specs.ServerState.{ServerState, is_admitted, is_present}

abbrev pub is_removing : Deed → Bool
is_removing (Changes asked reply new_ino) = false
is_removing (Flushes client flush) = false
is_removing (Purges client) = true
is_removing (Reaps ino) = true

-- a purge or a freeing was committed before in the step
abbrev pub has_removed : List Act → Bool
has_removed [] = false
has_removed (Mounts volume ∷ before) = has_removed before
has_removed (Tells lane message ∷ before) = has_removed before
has_removed (Commits commit ∷ before) = is_removing commit.deed || has_removed before
has_removed (Drops ∷ before) = has_removed before

-- the least client that was declared gone and isn't marked as purged
abbrev pub due : (ClientId → Bool) → ServerState → Option ClientId
due gone server = first_of (filter (λ client. gone client && is_present server.volume client) (clients_below server.volume.clients))

-- a purge is of the client that is due, alone in its step, and marks its slot
pub record PurgesDue (gone : ClientId → Bool) (server : ServerState) (before : List Act) (client : ClientId) (commit : Commit) : Type 0 where
  pub due_is : due gone server ≡ Some client
  pub alone : has_removed before ≡ false
  pub edit_is : commit.edit ≡ purge_of server.volume client
  pub lays_none : commit.lays ≡ []

-- an orphan is freed by an admitted server, where no purge is due, if it is the least that nobody has open and
-- nobody holds its bytes or its size
pub record ReapsDeserted (gone : ClientId → Bool) (server : ServerState) (before : List Act) (ino : Ino) (commit : Commit) : Type 0 where
  pub admitted : IsTrue (is_admitted server)
  pub none_due : due gone server ≡ None
  pub least : deserted server ≡ Some ino
  pub unheld : holders_of server (Some ino) ≡ []
  pub alone : has_removed before ≡ false
  pub edit_is : commit.edit ≡ reap_of ino
  pub lays_none : commit.lays ≡ []

-- both are done in a Tick alone
abbrev pub RemovesDeed : Bool → (ClientId → Bool) → ServerState → List Act → Deed → Commit → Type 0
RemovesDeed tick gone server before (Changes asked reply new_ino) commit = Unit {0}
RemovesDeed tick gone server before (Flushes client flush) commit = Unit {0}
RemovesDeed tick gone server before (Purges client) commit = IsTrue tick × PurgesDue gone server before (record { 0 = client }) commit
RemovesDeed tick gone server before (Reaps ino) commit = IsTrue tick × ReapsDeserted gone server before ino commit

abbrev pub RemovesWell : Bool → (ClientId → Bool) → ServerState → List Act → Act → Type 0
RemovesWell tick gone server before (Mounts volume) = Unit {0}
RemovesWell tick gone server before (Tells lane message) = Unit {0}
RemovesWell tick gone server before (Commits commit) = RemovesDeed tick gone server before commit.deed commit
RemovesWell tick gone server before Drops = Unit {0}

-- a purge of a client was committed in the step; or the freeing of an orphan
abbrev pub HasDone : (Deed → Type 0) → List Act → Type 0
HasDone P [] = ⊥
HasDone P (Mounts volume ∷ before) = HasDone P before
HasDone P (Tells lane message ∷ before) = HasDone P before
HasDone P (Commits commit ∷ before) = P commit.deed ⊎ HasDone P before
HasDone P (Drops ∷ before) = HasDone P before

-- a Tick of this server would neither remove nor ask for anything
abbrev pub is_dealt_with : ServerState → Option Ino → List Blocker → Bool
is_dealt_with server None holders = true
is_dealt_with server (Some ino) [] = false
is_dealt_with server (Some ino) (holder ∷ holders) = is_none (next_revoke server (holder ∷ holders))

abbrev pub removes_nothing : (ClientId → Bool) → ServerState → Bool
removes_nothing gone server = is_none (due gone server) && (not (is_admitted server) || is_dealt_with server (deserted server) (holders_of server (deserted server)))
