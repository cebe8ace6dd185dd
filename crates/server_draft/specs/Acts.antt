-- The acts of a step, as they are kept in order, and as the law names them.
use Rattle.std.specs.Prelude.{◌∷◌, ◌++◌, [], ◌+◌, ◌<◌, ℕ, nat_eq, if◌then◌else◌, List, All, map}
use Rattle.cal_base.specs.Limits as limits
use Rattle.cal_base.specs.declared.identity.ClientId.{ClientId}
use Rattle.message.specs.Range.{IsMessage}
use Rattle.message.specs.declared.message.Message.TheVariants.{Revoke as AsksBack}
use Rattle.token_kind.specs.declared.revoke.Revoke.{Revoke}
use Rattle.server_draft.specs.declared.act.Act.{Act}
use Rattle.server_draft.specs.declared.act.Act.TheVariants.{Tells, Commits, Drops}
use Rattle.server_draft.specs.declared.act.Commit.{Commit}
use Rattle.server_draft.specs.declared.act.Deed.{Deed}
use Rattle.server_draft.specs.declared.act.Deed.TheVariants.{Changes, Flushes, Purges, Reaps}
use Rattle.cluster_law.specs.Lanes as law
use Rattle.cluster_law.specs.Lists.{onto}

abbrev pub deed_of : Deed → law.Deed
deed_of (Changes request reply new_ino) = law.Changes request reply new_ino
deed_of (Flushes client flush) = law.Flushes client.0 flush
deed_of (Purges client) = law.Purges client.0
deed_of (Reaps ino) = law.Reaps ino

abbrev pub commit_of : Commit → law.Commit
commit_of commit = record { deed = deed_of commit.deed; lays = commit.lays; edit = commit.edit; homes = commit.homes }

-- a message goes on the lane of its client in the view of the server
abbrev pub act_of : ℕ → Act → law.Act
act_of view (Tells client message) = law.Tells (record { client = client.0; view = view; way = law.Down }) message
act_of view (Commits commit) = law.Commits (commit_of commit)
act_of view Drops = law.Drops

-- the law has the acts newest first
unfoldable pub acts_of : ℕ → List Act → List law.Act
acts_of view acts = onto (map (act_of view) acts) []

-- an act that can be carried out: a message goes to a client of the cluster and has a spelling, and blocks are
-- laid into sectors of the disk
abbrev pub CanBeDone : Act → Type 0
CanBeDone (Tells client message) = (client.0 < limits.clients) × IsMessage message
CanBeDone (Commits commit) = All (λ lay. lay.0 < limits.sectors) commit.lays
CanBeDone Drops = Unit {0}

-- what some acts write in their places, without the journal: the blocks that each commit lays, and its homes
abbrev pub places_of : Act → List (ℕ × List ℕ)
places_of (Tells client message) = []
places_of (Commits commit) = commit.lays ++ commit.homes
places_of Drops = []

unfoldable pub places : List Act → List (ℕ × List ℕ)
places [] = []
places (act ∷ acts) = places_of act ++ places acts

-- a client is asked for holds
abbrev pub asked_back : ClientId × Revoke → Act
asked_back sent = Tells sent.0 (AsksBack sent.1)

-- how many messages an act makes for a client
abbrev pub tells : ℕ → Act → ℕ
tells client (Tells to message) = if nat_eq to.0 client then 1 else 0
tells client (Commits commit) = 0
tells client Drops = 0

-- how many messages some acts make for a client
unfoldable pub told_to : ℕ → List Act → ℕ
told_to client [] = 0
told_to client (act ∷ acts) = tells client act + told_to client acts
