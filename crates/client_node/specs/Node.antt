-- A client with its session: what a packet brings it, and what stands of it at all times.
use Rattle.std.specs.Prelude.{◌≡◌, ◌+◌, ◌*◌, ◌≤◌, ◌^◌, ◌&&◌, ℕ, Bool, true, false, if◌then◌else◌, nat_eq, nat_lt, is_some, Option, Some, None, Result, Ok, Err, length}
use Rattle.cal_base.specs.declared.identity.ClientId.{ClientId}
use Rattle.cal_base.specs.declared.identity.NodeId.{NodeId}
use Rattle.cal_base.specs.declared.identity.NodeId.TheVariants.{Client, Server}
use Rattle.message.specs.Bodies.{message_of}
use Rattle.message.specs.declared.message.Message.{Message}
use Rattle.message.specs.declared.message.Message.TheVariants.{Acquire, Grant, Refuse, Change, Done, Flush, Flushed, Revoke, Release, Ask, Piece, Wait, Admit}
use Rattle.session.specs.Session.{SessionState, body_of, heard, new_session, same_node}
use Rattle.session.specs.declared.packet.Packet.{Packet}
use Rattle.cluster_law.specs.ClientState.{Turn, Idles, Starts, WritesBack, Takes}
use Rattle.cluster_law.specs.declared.node.ClientInput.{ClientInput}
use Rattle.cluster_law.specs.declared.node.ClientInput.TheVariants.{Start, Packet as Comes, Tick, WriteBack}
use Rattle.client_book.specs.Client.{ClientValue}
use Rattle.client_book.specs.Sound.{IsCall, IsClient}

-- a client, by its number; its session; what it is beside that; and how many steps it has made
pub record NodeValue : Type 0 where
  pub id : ClientId
  pub session : SessionState
  pub client : ClientValue
  pub steps : ℕ

abbrev pub is_server : NodeId → Bool
is_server (Client c) = false
is_server (Server s) = true

-- the message that bytes spell, if they spell one
abbrev pub message_if : Result Message ℕ → Option Message
message_if (Ok message) = Some message
message_if (Err at) = None

abbrev pub message_in : Packet → Option Message
message_in p = message_if (message_of p.body)

abbrev pub is_ask : Option Message → Bool
is_ask None = false
is_ask (Some (Acquire number want)) = false
is_ask (Some (Grant number items)) = false
is_ask (Some (Refuse number free needed)) = false
is_ask (Some (Change number call)) = false
is_ask (Some (Done number reply)) = false
is_ask (Some (Flush flush)) = false
is_ask (Some (Flushed number)) = false
is_ask (Some (Revoke revoke)) = false
is_ask (Some (Release release)) = false
is_ask (Some Ask) = true
is_ask (Some (Piece piece)) = false
is_ask (Some (Wait number client)) = false
is_ask (Some Admit) = false

-- a packet moves a client to a higher view where it carries the first message of that view's session, the
-- Ask of its server
abbrev pub moves : NodeValue → Packet → Bool
moves n p = is_server p.from && same_node p.to n.session.me && nat_lt n.session.view.0 p.view.0 && nat_eq p.seq 1 && is_ask (message_in p)

-- the session in which a packet is heard: that of its view as it begins, where the packet moves the client there
abbrev pub session_for : NodeValue → Packet → SessionState
session_for n p = if moves n p then new_session n.session.me p.from p.view else n.session

-- a packet brings the client's next message, also where its bytes spell none
abbrev pub takes_packet : NodeValue → Packet → Bool
takes_packet n p = is_some (body_of (session_for n p) p)

-- what a packet brings: its message, if that is the next one. Bytes that are no message are taken, and come to
-- nothing
abbrev pub takes : Option Message → Turn
takes None = Idles
takes (Some message) = Takes message

abbrev pub takes_next : Bool → Option Message → Turn
takes_next false message = Idles
takes_next true message = takes message

-- what a packet with this message brings to a client of this session
abbrev pub brought : SessionState → Packet → Option Message → Turn
brought s p message = takes_next (is_some (body_of s p)) message

-- what comes to the client with an input
unfoldable pub turn_in : NodeValue → ClientInput → Turn
turn_in n (Start call) = Starts call
turn_in n (Comes p) = brought (session_for n p) p (message_in p)
turn_in n Tick = Idles
turn_in n (WriteBack fd) = WritesBack fd

-- its session once it has heard it
unfoldable pub hearing_at : NodeValue → ClientInput → SessionState
hearing_at n (Start call) = n.session
hearing_at n (Comes p) = heard (session_for n p) p
hearing_at n Tick = n.session
hearing_at n (WriteBack fd) = n.session

-- what stands of a client at all times: its session is its own, and its counts are no more than its steps allow
pub record IsNode (n : NodeValue) : Type 0 where
  pub me : n.session.me ≡ Client n.id
  pub client : IsClient n.client
  pub calls : n.client.calls ≤ n.steps
  pub flushes : n.client.memory.known.last_flush ≤ 2 * n.steps
  pub messages : n.session.steps + length n.client.memory.remembered ≤ 1024 * n.steps
  pub steps : n.steps ≤ 2 ^ 48

-- a call starts where none is outstanding, and is one that its grammar spells
abbrev pub MayStart : NodeValue → ClientInput → Type 0
MayStart n (Start call) = IsCall call × (n.client.call ≡ None)
MayStart n (Comes p) = Unit {0}
MayStart n Tick = Unit {0}
MayStart n (WriteBack fd) = Unit {0}
