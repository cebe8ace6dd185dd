-- A server of one view: what it is between two steps, and what it has at its first.
use Rattle.std.specs.Prelude.{◌≡◌, ◌+◌, ◌*◌, ◌^◌, ◌<◌, ◌≤◌, [], ℕ, Bool, Result, Ok, Err, length}
use Rattle.cal_base.specs.Limits.{clients}
use Rattle.cal_base.specs.declared.identity.ClientId.{ClientId}
use Rattle.cal_base.specs.declared.identity.ServerId.{ServerId}
use Rattle.cal_base.specs.declared.identity.View.{View}
use Rattle.client_sessions.specs.Mail.{AreBetween, Mail, session_at}
use Rattle.cluster_law.specs.declared.node.ServerOutput.{ServerOutput}
use Rattle.fence.specs.Port.{PortState}
use Rattle.server_desk.specs.Desk.{DeskValue}
use Rattle.server_mail.specs.Step.{takes}
use Rattle.server_start.specs.declared.started.Started.{Started}
use Rattle.server_start.specs.declared.stops.FormatError.{FormatError}
use Rattle.server_start.specs.declared.stops.StepError.{StepError}
use Rattle.session.specs.declared.packet.Packet.{Packet}
use Rattle.volume.specs.Volume.{Volume}

-- a server, its port, what it knows of holds and requests, its volume and its sessions; and how many steps it has made
pub record NodeValue : Type 0 where
  pub id : ServerId
  pub port : PortState
  pub desk : DeskValue
  pub image : Volume
  pub mail : Mail
  pub steps : ℕ

-- the view that it serves
abbrev pub view_of : NodeValue → View
view_of n = record { 0 = n.port.view }

-- for each step that was made, and once more, a client's session makes at most so much: a step for the packet that comes
-- in, and one for each message that goes out. An answer for each request that waits is counted in
abbrev pub HasRoomFor : NodeValue → ClientId → Type 0
HasRoomFor n client = (session_at n.mail client).steps + length n.desk.requests ≤ (n.steps + 1) * (2 ^ 11 + 1)

-- its sessions are those of the server with the clients, in its view, nothing is sent, and what they make is counted
pub record IsNode (n : NodeValue) : Type 0 where
  pub between : AreBetween n.id (view_of n) n.mail
  pub unsent : n.mail.sent ≡ []
  pub counts : (client : ClientId) → client.0 < clients → HasRoomFor n client

-- a packet brings the next message of a client whose purge isn't marked
abbrev pub takes_packet : NodeValue → Packet → Bool
takes_packet n p = takes n.mail n.image p

-- what a node has as it begins
abbrev pub started_of : NodeValue → Started
started_of n = record { port = n.port; desk = n.desk; image = n.image; mail = n.mail }

-- a node of this server has made no step yet
pub record IsNew (id : ServerId) (n : NodeValue) : Type 0 where
  pub id_is : n.id ≡ id
  pub steps : n.steps ≡ 0

-- how a format and a boot ended, of what the node has then
abbrev pub formatted : Result NodeValue FormatError → Result Started FormatError
formatted (Ok n) = Ok (started_of n)
formatted (Err error) = Err error

abbrev pub served : Result (NodeValue × ServerOutput) StepError → Result (Started × ServerOutput) StepError
served (Ok made) = Ok (started_of made.0, made.1)
served (Err error) = Err error

-- the parts from which a node begins: its sessions are its own, nothing is sent, no request waits, and no session has
-- made more than one step
pub record Begins (id : ServerId) (started : Started) : Type 0 where
  pub between : AreBetween id (record { 0 = started.port.view }) started.mail
  pub unsent : started.mail.sent ≡ []
  pub unwanted : started.desk.requests ≡ []
  pub steps : (client : ClientId) → client.0 < clients → (session_at started.mail client).steps ≤ 1
