use Rattle.std.specs.Prelude.{◌≡◌, ◌⊎◌, ◌≤◌, ◌+◌, ◌++◌, ◌∷◌, [], ℕ, List, Option, Some, None, slice_get, option_to_list}
use Rattle.cal_base.specs.Limits.{unacknowledged as max_unacknowledged}
use Rattle.cal_base.specs.declared.identity.NodeId.{NodeId}
use Rattle.cal_base.specs.declared.identity.View.{View}
use Rattle.session.specs.declared.packet.Packet.{Packet}
use Rattle.session.specs.Session.{SessionState, IsOfSession, new_session, sent_packet, after_send, taken_body, opened_packets, after_packet, tick_packet, bare_ack_of}

-- One end with what has gone through it: the bodies that were handed to it to be sent, those that it
-- has taken, and every packet that it ever sent.
pub record End : Type 0 where
  pub session : SessionState
  pub sent : List (List ℕ)
  pub taken : List (List ℕ)
  pub packets : List Packet

-- both ends of one session
pub record Link : Type 0 where
  pub left : End
  pub right : End

pub data Side : Type 0 where
  Left : Side
  Right : Side

-- What may happen at one end. A packet that comes is one that the other end ever sent: so packets
-- are lost, come again, and come in any order.
pub data Event : Type 0 where
  Send : (body : List ℕ) → Event
  Comes : (which : ℕ) → Event
  Tick : Event
  Acknowledge : Event

abbrev pub new_end : NodeId → NodeId → View → End
new_end me peer view = record { session = new_session me peer view; sent = []; taken = []; packets = [] }

abbrev pub new_link : NodeId → NodeId → View → Link
new_link me peer view = record { left = new_end me peer view; right = new_end peer me view }

abbrev pub comes : End → Option Packet → End
comes e None = e
comes e (Some p) = record {
  session = after_packet e.session p;
  sent = e.sent;
  taken = e.taken ++ option_to_list (taken_body e.session p);
  packets = e.packets ++ opened_packets e.session p;
}

-- an end after an event, where the other end has sent these packets
abbrev pub happens : End → List Packet → Event → End
happens e packets (Send body) = record {
  session = after_send e.session body;
  sent = e.sent ++ body ∷ [];
  taken = e.taken;
  packets = e.packets ++ option_to_list (sent_packet e.session body);
}
happens e packets (Comes which) = comes e (slice_get packets which)
happens e packets Tick = record e { packets = e.packets ++ option_to_list (tick_packet e.session) }
happens e packets Acknowledge = record e { packets = e.packets ++ bare_ack_of e.session ∷ [] }

abbrev pub happens_at : Link → Side → Event → Link
happens_at l Left event = record { left = happens l.left l.right.packets event; right = l.right }
happens_at l Right event = record { left = l.left; right = happens l.right l.left.packets event }

abbrev pub run : List (Side × Event) → Link → Link
run [] l = l
run (e ∷ es) l = run es (happens_at l e.0 e.1)

abbrev pub WasSent : Packet → List Packet → Type 0
WasSent p [] = ⊥
WasSent p (q ∷ packets) = (p ≡ q) ⊎ WasSent p packets

abbrev pub IsPrefix : List (List ℕ) → List (List ℕ) → Type 0
IsPrefix front bodies = (rest : List (List ℕ)) × (bodies ≡ front ++ rest)

-- What one end sent and the other took: what was taken is the front of what was sent, each packet
-- is of the session, and none runs further than eight messages ahead of those acknowledged.
pub record Delivers (from to : End) : Type 0 where
  pub prefix : IsPrefix to.taken from.sent
  pub session : (p : Packet) → WasSent p from.packets → IsOfSession to.session p
  pub window : (p : Packet) → WasSent p from.packets → p.seq ≤ from.session.acknowledged + max_unacknowledged
