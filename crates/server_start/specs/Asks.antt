-- The sessions of a view as it begins, and the packets in which clients are asked for their reports.
use Rattle.std.specs.Prelude.{Bool, if◌then◌else◌, filter, map}
use Rattle.cal_base.specs.Limits.{clients}
use Rattle.cal_base.specs.declared.identity.ClientId.{ClientId}
use Rattle.cal_base.specs.declared.identity.NodeId.TheVariants.{Client, Server}
use Rattle.cal_base.specs.declared.identity.ServerId.{ServerId}
use Rattle.cal_base.specs.declared.identity.View.{View}
use Rattle.client_sessions.specs.Mail.{Mail}
use Rattle.message.specs.Spelling.{message_bytes}
use Rattle.message.specs.declared.message.Message.TheVariants.{Ask}
use Rattle.session.specs.Session.{SessionState, after_send, new_session, packet_of}
use Rattle.session.specs.declared.packet.Packet.{Packet}
use Rattle.token_table.specs.Blockers.{clients_below}

-- a new session with a client; and its first packet, an Ask
abbrev pub session_with : ServerId → View → ClientId → SessionState
session_with id view client = new_session (Server id) (Client client) view

abbrev pub ask_packet : ServerId → View → ClientId → Packet
ask_packet id view client = packet_of (session_with id view client) 0 1 (message_bytes Ask)

-- the session with a client that is asked, if it is, and else a new one
abbrev pub asked_if : ServerId → View → Bool → ClientId → SessionState
asked_if id view asked client = if asked then after_send (session_with id view client) (message_bytes Ask) else session_with id view client

-- those of the 16 clients that pass a test are asked, and the sessions with the others are new
abbrev pub mail_asking : ServerId → View → (ClientId → Bool) → Mail
mail_asking id view test = record {
  sessions = map (λ client. asked_if id view (test client) client) (clients_below clients);
  sent = map (ask_packet id view) (filter test (clients_below clients));
}
