-- Packets are neither forged nor skipped, and only a tick sends again.
use Rattle.std.specs.Prelude.{◌≡◌, ◌⊎◌, ℕ, ◌+◌, ◌-◌, Bool, true, false, ◌&&◌, nat_eq, nat_lt, nat_le, if◌then◌else◌, Option, Some, None, IsTrue, IfSome, List, [], ◌∷◌, ◌++◌, take, drop}
use Rattle.std.specs.List.{filter}
use Rattle.cal_base.specs.declared.identity.NodeId.{NodeId}
use Rattle.cal_base.specs.declared.identity.NodeId.TheVariants.{Client, Server}
use Rattle.cal_base.specs.declared.identity.ServerId.{ServerId}
use Rattle.message.specs.Range.{IsMessage}
use Rattle.message.specs.Spelling.{message_bytes}
use Rattle.message.specs.declared.message.Message.{Message}
use Rattle.session.specs.declared.packet.Packet.{Packet}
use Rattle.cluster_law.specs.declared.step.Event.{Event}
use Rattle.cluster_law.specs.declared.step.Event.TheVariants.{Start, Deliver, Tick, Crash, NewView, Gone, WriteBack}
use Rattle.cluster_law.specs.Lists.{Each, is_empty, numbered}
use Rattle.cluster_law.specs.Lanes.{Way, Up, Down, Lane, back, Act, Mounts, Tells, Commits, Drops}
use Rattle.cluster_law.specs.Noted.{Setting, Noted, halts}
use Rattle.cluster_law.specs.Trace.{given, seat, server_of, own_sectors, is_marked, is_server, is_client}
use Rattle.cluster_law.specs.Sessions.{is_kind_of, goes_on, made_in, client_view, heard_in, taken_in, acked_in, sent_in}

abbrev pub is_seat : Option ℕ → ℕ → Bool
is_seat None view = false
is_seat (Some v) view = nat_eq v view

-- the node of a step speaks on a lane: it is the lane's sender, and in its view after the step
abbrev pub speaks_way : Way → List Noted → Noted → Lane → Bool
speaks_way Up earlier s lane = is_client s.step.node lane.client && nat_eq lane.view (client_view lane.client (s ∷ earlier))
speaks_way Down earlier s lane = is_server s.step.node (server_of lane.view (s ∷ earlier)) && is_seat (seat (server_of lane.view (s ∷ earlier)) (s ∷ earlier)) lane.view

abbrev pub speaks : List Noted → Noted → Lane → Bool
speaks earlier s lane = speaks_way lane.way earlier s lane

-- a packet of a lane, between its client and the server of its view
abbrev pub packet_on : Way → ServerId → Lane → ℕ → ℕ → List ℕ → Packet
packet_on Up server lane seq ack body = record { from = Client (record { 0 = lane.client }); to = Server server; view = record { 0 = lane.view }; seq = seq; ack = ack; body = body }
packet_on Down server lane seq ack body = record { from = Server server; to = Client (record { 0 = lane.client }); view = record { 0 = lane.view }; seq = seq; ack = ack; body = body }

-- messages numbered on from a number
abbrev pub packed : (ℕ → List ℕ → Packet) → ℕ → List Message → List Packet
packed as_packet number [] = []
packed as_packet number (m ∷ ms) = as_packet (number + 1) (message_bytes m) ∷ packed as_packet (number + 1) ms

-- the packets of a step that go on a lane
abbrev pub sent_on : Lane → Noted → List Packet
sent_on lane s = filter (goes_on lane) s.step.sent

-- a packet has the number of a message that was sent before
abbrev pub is_repeat : ℕ → Packet → Bool
is_repeat sent p = nat_lt 0 p.seq && nat_le p.seq sent

abbrev pub again : Setting → Lane → Noted → List Noted → List Packet
again w lane s earlier = filter (is_repeat (sent_in w lane earlier)) (sent_on lane s)

-- how a step makes a packet of a lane: with the count of what its node has taken there
abbrev pub as_packet : Setting → Lane → Noted → List Noted → ℕ → List ℕ → Packet
as_packet w lane s earlier seq body = packet_on lane.way (server_of lane.view (s ∷ earlier)) lane seq (taken_in w (back lane) (s ∷ earlier)) body

-- the messages that a step lets out for the first time
abbrev pub let_out : Setting → Lane → Noted → List Noted → List Message
let_out w lane s earlier = take (sent_in w lane (s ∷ earlier) - sent_in w lane earlier) (drop (sent_in w lane earlier) (made_in lane (s ∷ earlier)))

abbrev pub fresh : Setting → Lane → Noted → List Noted → List Packet
fresh w lane s earlier = packed (as_packet w lane s earlier) (sent_in w lane earlier) (let_out w lane s earlier)

abbrev pub has_number : Option Packet → Bool
has_number None = false
has_number (Some p) = nat_lt 0 p.seq

-- a bare acknowledgement, where the step heard a packet with a number and sends that peer no message
abbrev pub bare : Setting → Lane → Noted → List Noted → List Packet
bare w lane s earlier = if has_number (heard_in w (back lane) earlier s) && is_empty (again w lane s earlier ++ fresh w lane s earlier) then as_packet w lane s earlier 0 [] ∷ [] else []

-- a Deliver names a packet that was sent, and is a step of its receiver
abbrev pub Delivers : List Noted → Noted → Event → Type 0
Delivers earlier s (Start client call) = Unit {0}
Delivers earlier s (Deliver packet stop) = IfSome (given earlier s) (λ p. s.step.node ≡ Some p.to)
Delivers earlier s (Tick node stop) = Unit {0}
Delivers earlier s (Crash node) = Unit {0}
Delivers earlier s (NewView server stop) = Unit {0}
Delivers earlier s (Gone client) = Unit {0}
Delivers earlier s (WriteBack client fd) = Unit {0}

-- a message is made in a session that the node then has, of a kind that it may make, and has a spelling
abbrev pub IsTold : List Noted → Noted → Act → Type 0
IsTold earlier s (Tells lane message) = IsTrue (speaks earlier s lane) × IsTrue (is_kind_of lane.way message) × IsMessage message
IsTold earlier s (Mounts volume) = Unit {0}
IsTold earlier s (Commits commit) = Unit {0}
IsTold earlier s Drops = Unit {0}

abbrev pub is_tick : Event → Bool
is_tick (Tick node stop) = true
is_tick _ = false

-- a packet goes on a lane on which the step's node speaks
pub record IsSpoken (earlier : List Noted) (s : Noted) (p : Packet) : Type 0 where
  pub lane : Lane
  pub goes : IsTrue (goes_on lane p)
  pub speaks_there : IsTrue (speaks earlier s lane)

-- packets are neither forged nor skipped
pub record KeepsDelivery (w : Setting) (s : Noted) (earlier : List Noted) : Type 0 where
  -- a delivered packet was sent earlier, and the step is its receiver's
  pub delivered : Delivers earlier s s.step.event
  -- each message is made in a session that the node then has
  pub told : IsTrue (halts s) ⊎ Each (IsTold earlier s) s.acts
  -- on a lane in which the node speaks go repeated packets, then the next numbers, then a bare acknowledgement if it is owed
  pub sent : (lane : Lane) → IsTrue (speaks earlier s lane) → halts s ≡ false → sent_on lane s ≡ again w lane s earlier ++ fresh w lane s earlier ++ bare w lane s earlier
  -- nothing goes on another lane
  pub no_other : Each (IsSpoken earlier s) s.step.sent
  -- a step that halts sends nothing
  pub halted : IsTrue (halts s) → s.step.sent ≡ []
  -- only a tick sends again
  pub no_repeat : (lane : Lane) → is_tick s.step.event ≡ false → again w lane s earlier ≡ []

abbrev pub oldest_of : (ℕ → List ℕ → Packet) → ℕ → Option Message → List Packet
oldest_of as_packet number None = []
oldest_of as_packet number (Some m) = as_packet number (message_bytes m) ∷ []

-- the oldest message of a lane that isn't acknowledged, as it is sent again; none where all are
abbrev pub oldest : Setting → Lane → Noted → List Noted → List Packet
oldest w lane s earlier = if nat_lt (acked_in w lane earlier) (sent_in w lane earlier) then oldest_of (as_packet w lane s earlier) (acked_in w lane earlier + 1) (numbered (made_in lane earlier) (acked_in w lane earlier + 1)) else []

-- a server leaves out the lanes of clients whose purge is marked
abbrev pub is_left_out : Way → Setting → Lane → List Noted → Bool
is_left_out Up w lane earlier = false
is_left_out Down w lane earlier = is_marked (own_sectors w lane.view earlier) lane.client

abbrev pub IsClients : Option NodeId → Type 0
IsClients None = ⊥
IsClients (Some (Client c)) = Unit {0}
IsClients (Some (Server s)) = ⊥

-- a tick sends again the oldest message of each session that isn't acknowledged
pub record KeepsResend (w : Setting) (s : Noted) (earlier : List Noted) : Type 0 where
  pub resent : (lane : Lane) → IsTrue (is_tick s.step.event) → IsTrue (speaks earlier s lane) → halts s ≡ false → again w lane s earlier ≡ (if is_left_out lane.way w lane earlier then [] else oldest w lane s earlier)
  -- a client's tick makes nothing
  pub quiet : IsTrue (is_tick s.step.event) → IsClients s.step.node → s.acts ≡ []

-- each step of a trace delivers and resends as it should
abbrev pub Communicates : Setting → List Noted → Type 0
Communicates w [] = Unit {0}
Communicates w (s ∷ earlier) = Communicates w earlier × KeepsDelivery w s earlier × KeepsResend w s earlier
