-- A step of a server: what comes, what it sends, and what it does as the law asks.
use Rattle.std.specs.Prelude.{◌≡◌, ◌+◌, ◌++◌, ◌∷◌, [], ◌<◌, ◌&&◌, ℕ, false, if◌then◌else◌, List, Option, Some, None, All, filter}
use Rattle.cal_base.specs.Limits.{clients}
use Rattle.cal_base.specs.declared.identity.ClientId.{ClientId}
use Rattle.client_sessions.specs.Mail.{is_to, session_at}
use Rattle.cluster_law.specs.Delivery.{has_number}
use Rattle.cluster_law.specs.DiskRules.{MeetsKey, WritesOn}
use Rattle.cluster_law.specs.Ends.{hearing, making}
use Rattle.cluster_law.specs.Lists.{Each, is_empty}
use Rattle.cluster_law.specs.Noted.{DiskAt}
use Rattle.cluster_law.specs.ServerRules.{ActsWell, EachAct, MountsNothing, Occasion, entries_of}
use Rattle.cluster_law.specs.ServerState.{ServerState, is_admitted}
use Rattle.cluster_law.specs.declared.step.Halt.{Halt}
use Rattle.cluster_law.specs.declared.node.ServerHalted.{ServerHalted}
use Rattle.cluster_law.specs.declared.node.ServerInput.{ServerInput}
use Rattle.cluster_law.specs.declared.node.ServerInput.TheVariants.{Packet as Comes, Tick}
use Rattle.cluster_law.specs.declared.node.ServerOutput.{ServerOutput}
use Rattle.lane_facts.specs.Speaking.{opened_by, packets_with}
use Rattle.membership.specs.Membership.{Membership}
use Rattle.server_disk.specs.Carrying.{is_failure, planned_by}
use Rattle.server_draft.specs.Acts.{CanBeDone, acts_of}
use Rattle.server_draft.specs.declared.act.Act.{Act}
use Rattle.server_line.specs.Known.{SeesOwn}
use Rattle.server_mail.specs.Step.{GoesOut as PacketGoesOut, bodies_to, brought, heard_from, part_of, resent}
use Rattle.server_mail.specs.declared.hearing.FromClient.{FromClient}
use Rattle.server_node.specs.Node.{NodeValue, view_of}
use Rattle.server_opening.specs.Opens.{GoesOut, begun, occasion}
use Rattle.server_opening.specs.declared.opening.Coming.{Coming}
use Rattle.server_opening.specs.declared.opening.Coming.TheVariants.{Nothing, Message as Brings, Tick as Ticks}
use Rattle.server_start.specs.declared.stops.StepError.{StepError}
use Rattle.server_start.specs.declared.stops.StepError.TheVariants.{OutOfMemory, Halted}
use Rattle.server_turn.specs.Turn.{IsPlanned}
use Rattle.server_writes.specs.Ending.{StandsAs}
use Rattle.server_writes.specs.Halted.{entries_left}
use Rattle.session.specs.Session.{SessionState, bare_ack_of}
use Rattle.session.specs.declared.packet.Packet.{Packet}
use Rattle.shared_disk.specs.Disk.{Disk}
use Rattle.shared_disk.specs.declared.stop.Stop.{Stop}
use Rattle.volume_names.specs.Named.{AreNamed}

-- what comes: the message that a packet brings, if it is the next of its client, or a tick
abbrev pub coming_with : Option FromClient → Coming
coming_with None = Nothing
coming_with (Some from) = Brings from.client from.message

abbrev pub coming_in : NodeValue → ServerInput → Coming
coming_in n (Comes p) = coming_with (brought n.mail p (heard_from n.mail n.image p))
coming_in n Tick = Ticks

-- what the session with a client hears
abbrev pub heard_by : NodeValue → ServerInput → ClientId → Option Packet
heard_by n (Comes p) client = part_of client p (heard_from n.mail n.image p)
heard_by n Tick client = None

abbrev pub hearing_at : NodeValue → ServerInput → ClientId → SessionState
hearing_at n input client = hearing (session_at n.mail client) (heard_by n input client)

-- only a tick sends again: the oldest message that isn't acknowledged
abbrev pub again : NodeValue → ServerInput → ClientId → List Packet
again n (Comes p) client = []
again n Tick client = resent n.image n.mail client

-- messages that an acknowledgement lets out of the queue go first, and then those that the acts make
abbrev pub fresh : NodeValue → ServerInput → ClientId → List Act → List Packet
fresh n input client acts = opened_by (session_at n.mail client) (heard_by n input client) ++ packets_with (hearing_at n input client) (bodies_to n.port.view client acts)

-- a packet with a number is acknowledged by itself, where no message goes to its client
abbrev pub bare : NodeValue → ServerInput → ClientId → List Act → List Packet
bare n input client acts = if has_number (heard_by n input client) && is_empty (again n input client ++ fresh n input client acts) then bare_ack_of (hearing_at n input client) ∷ [] else []

-- what a step with these acts does with the session of a client, and sends there
pub record Speaks (n : NodeValue) (input : ServerInput) (acts : List Act) (next : NodeValue) (output : ServerOutput) (client : ClientId) : Type 0 where
  pub session : session_at next.mail client ≡ making (hearing_at n input client) (bodies_to n.port.view client acts)
  pub sent : filter (is_to client) output.sent ≡ again n input client ++ fresh n input client acts ++ bare n input client acts

-- the law's server as its acts begin, and what the step is told beside that
abbrev pub start_of : NodeValue → ServerInput → ServerState → ServerState
start_of n input server = begun n.port.view server (coming_in n input)

abbrev pub occasion_of : NodeValue → Membership → ServerInput → ServerState → Occasion
occasion_of n members input server = occasion n.port.view members (is_admitted server) (coming_in n input)

-- a server of the law for which the node stands in a step: it holds the same and has the same volume, of which each
-- block is in one use and each name stands for something; blocks are kept for what is held; and the disk has its
-- sectors, as long as the key is the view
pub record StandsFor (n : NodeValue) (input : ServerInput) (server : ServerState) (disk : Disk) : Type 0 where
  pub goes : GoesOut n.port.view server n.desk n.image (coming_in n input)
  pub named : AreNamed n.image
  pub sees : SeesOwn (start_of n input server) n.port.view disk

-- the disk, told before and after, takes what some acts have planned to write
abbrev pub WritesSo : NodeValue → Option Stop → List Act → Disk → ℕ → List (ℕ × List ℕ) → Option Halt → Disk → ℕ → Type 0
WritesSo n stop acts old faults writes halt new faults' = (before after : DiskAt) → StandsAs old faults before → StandsAs new faults' after → WritesOn false n.port.view (planned_by n.port.view acts) stop before after writes halt

-- a step goes on to its end: it does these acts, in order. The node is the server's of the view still, each session
-- speaks, all packets go from the server in its view, the disk takes the writes, and the entries are those of the
-- commits. From each server of the law for which the node stands the acts are as the law asks, what is owed at the
-- end is done, and what the node is then is the law's
pub record Steps (n : NodeValue) (members : Membership) (input : ServerInput) (stop : Option Stop) (old : Disk) (faults : ℕ) (next : NodeValue) (output : ServerOutput) (new : Disk) (faults' : ℕ) : Type 0 where
  pub acts : List Act
  pub doable : All CanBeDone acts
  pub mounts : MountsNothing (acts_of n.port.view acts)
  pub id : next.id ≡ n.id
  pub view : next.port.view ≡ n.port.view
  pub steps : next.steps ≡ n.steps + 1
  pub speaks : (client : ClientId) → client.0 < clients → Speaks n input acts next output client
  pub out : Each (PacketGoesOut n.id (view_of n)) output.sent
  pub writes : WritesSo n stop acts old faults output.writes None new faults'
  pub entries : output.entries ≡ entries_of (acts_of n.port.view acts)
  pub law : (server : ServerState) → StandsFor n input server old → IsPlanned n.port.view (occasion_of n members input server) (start_of n input server) old (record { draft = record { desk = next.desk; image = next.image; acts = acts }; head = output.head })

-- a step halts: what it had planned by then is as the law asks, the disk took a front part of the writes, the entries
-- are those of the commits that became final, and the one in doubt; and it is fenced only where it reads or has
-- something to write
pub record Halts (n : NodeValue) (members : Membership) (input : ServerInput) (stop : Option Stop) (server : ServerState) (old : Disk) (faults : ℕ) (halted : ServerHalted) (new : Disk) (faults' : ℕ) : Type 0 where
  pub acts : List Act
  pub mounts : MountsNothing (acts_of n.port.view acts)
  pub well : EachAct (start_of n input server) (ActsWell (occasion_of n members input server) (start_of n input server)) (acts_of n.port.view acts)
  pub writes : WritesSo n stop acts old faults halted.writes (Some halted.halt) new faults'
  pub entries : halted.entries ≡ entries_left (is_failure halted.halt) halted.writes (acts_of n.port.view acts)
  pub meets : MeetsKey false n.port.view old.key (start_of n input server) (acts_of n.port.view acts) (Some halted.halt)

-- how a step ended that didn't go on. After want of memory the disk is as it was, its room apart
abbrev pub Stops : NodeValue → Membership → ServerInput → Option Stop → Disk → ℕ → StepError → Disk → ℕ → Type 0
Stops n members input stop old faults OutOfMemory new faults' = new ≡ record old { room = new.room }
Stops n members input stop old faults (Halted halted) new faults' = (server : ServerState) → StandsFor n input server old → Halts n members input stop server old faults halted new faults'
