use Rattle.std.specs.Prelude.{◌≡◌, ◌==◌, ◌||◌, ◌&&◌, nat_eq, ◌≤◌, ◌+◌, ◌-◌, ◌^◌, ◌++◌, ◌∷◌, [], ℕ, Bool, List, Option, Some, None, nat_lt, if◌then◌else◌, length, min, take, drop}
use Rattle.cal_base.specs.Limits.{unacknowledged as max_unacknowledged}
use Rattle.cal_base.specs.declared.identity.NodeId.{NodeId}
use Rattle.cal_base.specs.declared.identity.View.{View}
use Rattle.cal_base.specs.contracts.identity.NodeIdPartialEq.TheImpl as node_eq
use Rattle.session.specs.declared.packet.Packet.{Packet}

-- One end of a session: the messages of its own that the peer has acknowledged, the messages of the
-- peer that it has taken, and the bodies that are not acknowledged, the oldest first.
pub record SessionState : Type 0 where
  pub me : NodeId
  pub peer : NodeId
  pub view : View
  pub acknowledged : ℕ
  pub taken : ℕ
  pub bodies : List (List ℕ)
  pub steps : ℕ

-- a session as it begins
abbrev pub new_session : NodeId → NodeId → View → SessionState
new_session me peer view = record { me = me; peer = peer; view = view; acknowledged = 0; taken = 0; bodies = []; steps = 0 }

-- the bodies that were sent and are not acknowledged: the first eight that are not acknowledged
abbrev pub unacknowledged : SessionState → List (List ℕ)
unacknowledged s = take max_unacknowledged s.bodies

-- the bodies that wait until one of those is acknowledged
abbrev pub queued : SessionState → List (List ℕ)
queued s = drop max_unacknowledged s.bodies

-- how many messages have a number
abbrev pub numbered : SessionState → ℕ
numbered s = s.acknowledged + length (unacknowledged s)

-- a packet to the peer that says how many of its messages were taken
abbrev pub packet_of : SessionState → ℕ → ℕ → List ℕ → Packet
packet_of s taken number body = record { from = s.me; to = s.peer; view = s.view; seq = number; ack = taken; body = body }

-- packets with numbers one above the other
abbrev pub packets_from : SessionState → ℕ → ℕ → List (List ℕ) → List Packet
packets_from s taken number [] = []
packets_from s taken number (body ∷ bodies) = packet_of s taken number body ∷ packets_from s taken (number + 1) bodies

-- a packet that acknowledges, and carries no message
abbrev pub bare_ack_of : SessionState → Packet
bare_ack_of s = packet_of s s.taken 0 []

-- what goes out as a message is sent: nothing where eight are unacknowledged
abbrev pub sent_packet : SessionState → List ℕ → Option Packet
sent_packet s body = if nat_lt (length s.bodies) max_unacknowledged then Some (packet_of s s.taken (s.acknowledged + length s.bodies + 1) body) else None

abbrev pub after_send : SessionState → List ℕ → SessionState
after_send s body = record s { bodies = s.bodies ++ body ∷ []; steps = s.steps + 1 }

-- the oldest message that is not acknowledged, sent again
abbrev pub oldest_packet : SessionState → List (List ℕ) → Option Packet
oldest_packet s [] = None
oldest_packet s (body ∷ bodies) = Some (packet_of s s.taken (s.acknowledged + 1) body)

abbrev pub tick_packet : SessionState → Option Packet
tick_packet s = oldest_packet s s.bodies

-- two nodes are one
abbrev pub same_node : NodeId → NodeId → Bool
same_node = (node_eq.ghosts).eq

-- a packet belongs to this session: it is from the peer, for this end, and of the view
pub record IsOfSession (s : SessionState) (p : Packet) : Type 0 where
  pub from : p.from ≡ s.peer
  pub to : p.to ≡ s.me
  pub view : p.view ≡ s.view

-- the same as a test
abbrev pub is_of_session : SessionState → Packet → Bool
is_of_session s p = same_node p.from s.peer && same_node p.to s.me && nat_eq p.view.0 s.view.0

-- its message is the next one
abbrev pub is_next : SessionState → Packet → Bool
is_next s p = p.seq == s.taken + 1

abbrev pub taken_after : SessionState → Packet → ℕ
taken_after s p = if is_next s p then s.taken + 1 else s.taken

abbrev pub taken_body : SessionState → Packet → Option (List ℕ)
taken_body s p = if is_next s p then Some p.body else None

-- how many more messages it acknowledges, of those that were sent
abbrev pub newly_acknowledged : SessionState → Packet → ℕ
newly_acknowledged s p = min (p.ack - s.acknowledged) (length (unacknowledged s))

-- as many messages leave the queue as are acknowledged
abbrev pub opened_packets : SessionState → Packet → List Packet
opened_packets s p = packets_from s (taken_after s p) (numbered s + 1) (take (newly_acknowledged s p) (queued s))

abbrev pub after_packet : SessionState → Packet → SessionState
after_packet s p = record s {
  acknowledged = s.acknowledged + newly_acknowledged s p;
  taken = taken_after s p;
  bodies = drop (newly_acknowledged s p) s.bodies;
  steps = if is_next s p || nat_lt 0 (newly_acknowledged s p) then s.steps + 1 else s.steps;
}

-- the body that a packet brings: none where it is of another session or not the next one
abbrev pub body_of : SessionState → Packet → Option (List ℕ)
body_of s p = if is_of_session s p then taken_body s p else None

-- the packets that a packet lets out of the queue: none where it is of another session
abbrev pub let_out : SessionState → Packet → List Packet
let_out s p = if is_of_session s p then opened_packets s p else []

-- a session once a packet has come: one of another session changes nothing
abbrev pub heard : SessionState → Packet → SessionState
heard s p = if is_of_session s p then after_packet s p else s

-- the counts of a session are no more than the calls that changed it, and these are few
pub record IsCounted (s : SessionState) : Type 0 where
  pub sent : s.acknowledged + length s.bodies ≤ s.steps
  pub taken : s.taken ≤ s.steps
  pub few : s.steps ≤ 2 ^ 60
