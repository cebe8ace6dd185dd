-- How a step of a server begins.
use Rattle.std.specs.Prelude.{◌≡◌, ◌<◌, ℕ, Bool, true, false, Option, Some, None, IsTrue}
use Rattle.cal_base.specs.Limits as limits
use Rattle.membership.specs.Membership.{Membership}
use Rattle.message.specs.Range.{IsMessage}
use Rattle.cluster_law.specs.History.{hearing_taken}
use Rattle.cluster_law.specs.Lanes as law
use Rattle.cluster_law.specs.ServerRules.{AnswersTaken, Occasion, Removes}
use Rattle.cluster_law.specs.Removing.{due}
use Rattle.cluster_law.specs.ServerState.{ServerState}
use Rattle.cluster_law.specs.Sessions.{Taken}
use Rattle.server_desk.specs.Desk.{IsLike}
use Rattle.server_draft.specs.Acts.{acts_of}
use Rattle.server_draft.specs.Draft.{Follows, HasSpace, reached}
use Rattle.server_draft.specs.declared.draft.Draft.{Draft}
use Rattle.server_removals.specs.Removals.{gone_in}
use Rattle.server_reports.specs.Reports.{HasAdmittedNobody}
use Rattle.server_opening.specs.Ungranted.{HasGrantedNobody}
use Rattle.server_opening.specs.declared.opening.Coming.{Coming}
use Rattle.server_opening.specs.declared.opening.Coming.TheVariants.{Nothing, Message, Tick}
use Rattle.volume.specs.Stands.{AreBlocksKept}
use Rattle.volume.specs.Volume.{Volume}
use Rattle.server_desk.specs.Desk.{DeskValue}

-- what comes to a server can be taken: a message has a spelling, and its client is one of the cluster
abbrev pub CanCome : Coming → Type 0
CanCome Nothing = Unit {0}
CanCome (Message client message) = (client.0 < limits.clients) × IsMessage message
CanCome Tick = Unit {0}

-- the message that it brings, as the law has it, in the view of the server
abbrev pub taken_of : ℕ → Coming → Option Taken
taken_of view Nothing = None
taken_of view (Message client message) = Some (record { lane = record { client = client.0; view = view; way = law.Up }; message = message })
taken_of view Tick = None

abbrev pub is_tick : Coming → Bool
is_tick Nothing = false
is_tick (Message client message) = false
is_tick Tick = true

-- what a step of a server is told beside the server's own state
abbrev pub occasion : ℕ → Membership → Bool → Coming → Occasion
occasion view members was_admitted coming = record { took = taken_of view coming; tick = is_tick coming; boot = false; was_admitted = was_admitted; gone = gone_in members }

-- the law's server as its acts begin: it has heard what comes
abbrev pub begun : ℕ → ServerState → Coming → ServerState
begun view server coming = hearing_taken server (taken_of view coming)

-- a server of the law of which a step goes out: it holds the same and has the same volume, of which each block is
-- in one use, and blocks are kept for what is held once it has heard what comes
pub record GoesOut (view : ℕ) (server : ServerState) (desk : DeskValue) (volume : Volume) (coming : Coming) : Type 0 where
  pub like : IsLike desk server
  pub volume_is : volume ≡ server.volume
  pub kept : AreBlocksKept volume
  pub space : HasSpace (begun view server coming)

-- the first acts of a step follow, and do what is owed for the message that it took, and of removals
pub record Opens (view : ℕ) (o : Occasion) (start : ServerState) (draft : Draft) : Type 0 where
  pub follows : Follows view o start draft
  pub taken : AnswersTaken start (acts_of view draft.acts) o.took
  pub removed : IsTrue o.tick → Removes start (reached view start draft) (acts_of view draft.acts) (due o.gone start)
  pub nobody : HasAdmittedNobody view draft.acts
  pub ungranted : HasGrantedNobody view draft.acts
