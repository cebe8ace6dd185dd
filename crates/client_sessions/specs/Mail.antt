-- A server's ends of the sessions with its clients, and the packets that a step sends.
use Rattle.std.specs.Prelude.{◌≡◌, ◌&&◌, ◌<◌, ◌++◌, ◌∷◌, [], ℕ, zero, suc, Bool, List, Option, Some, None, nat_lt, not, length, filter, if◌then◌else◌, option_to_list, slice_index_or, slice_set}
use Rattle.std.specs.List.{list_any}
use Rattle.cal_base.specs.Limits.{clients}
use Rattle.cal_base.specs.declared.identity.ClientId.{ClientId}
use Rattle.cal_base.specs.declared.identity.NodeId.{NodeId}
use Rattle.cal_base.specs.declared.identity.NodeId.TheVariants.{Client, Server}
use Rattle.cal_base.specs.declared.identity.ServerId.{ServerId}
use Rattle.cal_base.specs.declared.identity.ServerId.TheVariants.{A}
use Rattle.cal_base.specs.declared.identity.View.{View}
use Rattle.session.specs.declared.packet.Packet.{Packet}
use Rattle.session.specs.Session.{SessionState, after_send, bare_ack_of, heard, is_of_session, let_out, new_session, same_node, sent_packet, tick_packet}

-- the server's end of the session with each client, by the client's number, and the packets of the step, in the
-- order in which they are sent
pub record Mail : Type 0 where
  pub sessions : List SessionState
  pub sent : List Packet

-- a session that nobody has, read past the last client
abbrev pub no_session : SessionState
no_session = new_session (Server A) (Client (record { 0 = 0 })) (record { 0 = 0 })

-- the server's end of the session with a client
abbrev pub session_at : Mail → ClientId → SessionState
session_at m client = slice_index_or m.sessions client.0 no_session

-- the new sessions of a server with the first clients
unfoldable pub new_sessions : ServerId → View → ℕ → List SessionState
new_sessions server view zero = []
new_sessions server view (suc n) = new_sessions server view n ++ new_session (Server server) (Client (record { 0 = n })) view ∷ []

-- as a view begins: all sessions are new, and nothing is sent
abbrev pub first_mail : ServerId → View → Mail
first_mail server view = record { sessions = new_sessions server view clients; sent = [] }

-- a client's session hears a packet, and what that lets out is sent
abbrev pub after_hearing : Mail → ClientId → Packet → Mail
after_hearing m client p = record {
  sessions = slice_set m.sessions client.0 (heard (session_at m client) p);
  sent = m.sent ++ let_out (session_at m client) p;
}

-- a client's session takes a body to be sent, and its packet is sent where it goes out
abbrev pub after_sending : Mail → ClientId → List ℕ → Mail
after_sending m client body = record {
  sessions = slice_set m.sessions client.0 (after_send (session_at m client) body);
  sent = m.sent ++ option_to_list (sent_packet (session_at m client) body);
}

-- the oldest message to a client that is not acknowledged is sent again, if there is one
abbrev pub after_resending : Mail → ClientId → Mail
after_resending m client = record { sessions = m.sessions; sent = m.sent ++ option_to_list (tick_packet (session_at m client)) }

-- what was taken of a client is acknowledged by a packet that carries no message
abbrev pub after_acknowledging : Mail → ClientId → Mail
after_acknowledging m client = record { sessions = m.sessions; sent = m.sent ++ bare_ack_of (session_at m client) ∷ [] }

-- the packets of the step are taken away
abbrev pub after_taking : Mail → Mail
after_taking m = record { sessions = m.sessions; sent = [] }

-- a packet is for a client
abbrev pub is_to : ClientId → Packet → Bool
is_to client p = same_node p.to (Client client)

-- the packets that aren't for a client
abbrev pub not_to : ClientId → List Packet → List Packet
not_to client packets = filter (λ p. not (is_to client p)) packets

-- a client's session is another one
abbrev pub with_session : Mail → ClientId → SessionState → Mail
with_session m client s = record { sessions = slice_set m.sessions client.0 s; sent = m.sent }

-- a client's session is replaced by another, and what the step sends to the client is taken back
abbrev pub after_replacing : Mail → ClientId → SessionState → Mail
after_replacing m client s = record { sessions = slice_set m.sessions client.0 s; sent = not_to client m.sent }

-- a packet for the client is among those of the step
abbrev pub has_sent_in : Mail → ClientId → Bool
has_sent_in m client = list_any (is_to client) m.sent

-- a packet is from a client of the cluster, and of the session with it
abbrev pub is_heard_from : Mail → ClientId → Packet → Bool
is_heard_from m client p = nat_lt client.0 clients && is_of_session (session_at m client) p

abbrev pub heard_as : Mail → Packet → NodeId → Option ClientId
heard_as m p (Server server) = None
heard_as m p (Client client) = if is_heard_from m client p then Some client else None

-- the client in whose session a packet is heard: its sender, and none where it is of no session
abbrev pub heard_in : Mail → Packet → Option ClientId
heard_in m p = heard_as m p p.from

-- a session is of this server and client, in this view
pub record IsBetween (server : ServerId) (client : ClientId) (view : View) (s : SessionState) : Type 0 where
  pub me : s.me ≡ Server server
  pub peer : s.peer ≡ Client client
  pub of_view : s.view ≡ view

-- there is a session with each client, of this server and in this view
pub record AreBetween (server : ServerId) (view : View) (m : Mail) : Type 0 where
  pub count : length m.sessions ≡ clients
  pub each : (client : ClientId) → client.0 < clients → IsBetween server client view (session_at m client)

-- a packet is from this client, for this server and in this view
pub record IsFrom (client : ClientId) (server : ServerId) (view : View) (p : Packet) : Type 0 where
  pub from : p.from ≡ Client client
  pub to : p.to ≡ Server server
  pub of_view : p.view ≡ view
