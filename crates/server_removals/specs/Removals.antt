-- What a server removes, as it is read off its desk and the members.
use Rattle.std.specs.Prelude.{◌≡◌, ◌∷◌, ◌++◌, [], ◌||◌, ◌&&◌, Bool, true, false, not, List, Option, Some, None, IsTrue}
use Rattle.std.specs.List.{list_all, list_any}
use Rattle.cal_base.specs.Limits.{clients}
use Rattle.cal_base.specs.declared.identity.ClientId.{ClientId}
use Rattle.cal_base.specs.declared.identity.Ino.{Ino}
use Rattle.membership.specs.Membership.{Membership, standing_of}
use Rattle.membership.specs.declared.standing.Standing.{Standing}
use Rattle.membership.specs.declared.standing.Standing.TheVariants.{Runs, Crashed, Gone}
use Rattle.revocation.specs.Revokes.{is_within}
use Rattle.revocation.specs.Waiting.{asked_at}
use Rattle.token_kind.specs.Hold.{is_held}
use Rattle.token_kind.specs.declared.«class».Class.{Class}
use Rattle.token_kind.specs.declared.«class».Class.TheVariants.{Attr, Data}
use Rattle.token_kind.specs.declared.hold.Hold.TheVariants.{None as Nothing}
use Rattle.token_table.specs.Blockers.{clients_below}
use Rattle.token_table.specs.Table.{Table, held_of, key_of}
use Rattle.volume.specs.Volume.{Volume}
use Rattle.cluster_law.specs.Asking.{deserted, holders_of}
use Rattle.cluster_law.specs.Removing.{due, is_dealt_with}
use Rattle.cluster_law.specs.ServerRules.{Occasion}
use Rattle.cluster_law.specs.ServerState.{ServerState, is_admitted}
use Rattle.server_desk.specs.Desk.{DeskValue, with_desk}
use Rattle.server_draft.specs.declared.act.Act.{Act}
use Rattle.server_draft.specs.declared.act.Act.TheVariants.{Commits}
use Rattle.server_draft.specs.declared.act.Commit.{Commit}
use Rattle.server_draft.specs.declared.act.Deed.{Deed}

-- a client was declared gone
abbrev pub is_gone : Option Standing → Bool
is_gone None = false
is_gone (Some Runs) = false
is_gone (Some Crashed) = false
is_gone (Some Gone) = true

abbrev pub gone_in : Membership → ClientId → Bool
gone_in members client = is_gone (standing_of members client)

-- one deed was made final behind some acts, and nothing else was done
pub record Does (deed : Deed) (old new : List Act) : Type 0 where
  pub commit : Commit
  pub deed_is : commit.deed ≡ deed
  pub is : new ≡ old ++ Commits commit ∷ []

-- orphans are looked at in a tick of an admitted server that has nobody to purge
pub record LooksAtOrphans (o : Occasion) (server : ServerState) : Type 0 where
  pub tick : IsTrue o.tick
  pub admitted : IsTrue (is_admitted server)
  pub none_due : due o.gone server ≡ None

-- some client has a hold of a file in a class; and of its bytes or its size
abbrev pub is_held_by_some : Table → Ino → Class → Bool
is_held_by_some table ino cls = list_any (λ client. is_held (held_of table client ino cls)) (clients_below clients)

abbrev pub is_used : Table → Ino → Bool
is_used table ino = is_held_by_some table ino Data || is_held_by_some table ino Attr

-- a client has no hold of a file in a class, or is asked to give it up
abbrev pub is_asked_back : DeskValue → Ino → Class → ClientId → Bool
is_asked_back desk ino cls client = not (is_held (held_of desk.collecting.table client ino cls)) || is_within (asked_at desk.asked (key_of client ino cls)) Nothing

abbrev pub is_asked_of_all : DeskValue → Ino → Class → Bool
is_asked_of_all desk ino cls = list_all (is_asked_back desk ino cls) (clients_below clients)

-- somebody holds the bytes or the size of a file, and all such holds are asked back
abbrev pub is_asked_for : DeskValue → Ino → Bool
is_asked_for desk ino = is_used desk.collecting.table ino && (is_asked_of_all desk ino Data && is_asked_of_all desk ino Attr)

-- a server that has what a desk knows, and a volume
abbrev pub at_desk : DeskValue → Volume → ServerState
at_desk desk volume = with_desk desk volume []

-- nothing is left to be done of an orphan, if there is one; and of the one that comes first, if the server is admitted
abbrev pub has_dealt : ServerState → Option Ino → Bool
has_dealt server orphan = is_dealt_with server orphan (holders_of server orphan)

abbrev pub rests_with_orphans : ServerState → Bool
rests_with_orphans server = not (is_admitted server) || has_dealt server (deserted server)
