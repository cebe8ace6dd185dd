-- What a server hears of its clients in a step, and what the step sends to each.
use Rattle.std.specs.Prelude.{◌≡◌, ◌<◌, ◌+◌, ◌^◌, ◌&&◌, ◌∷◌, [], ℕ, Bool, false, is_some, not, nat_eq, nat_lt, if◌then◌else◌, List, Option, Some, None, Result, Ok, Err, option_to_list, map, filter}
use Rattle.cal_base.specs.Limits.{clients}
use Rattle.cal_base.specs.declared.identity.ClientId.{ClientId}
use Rattle.cal_base.specs.declared.identity.NodeId.TheVariants.{Client, Server}
use Rattle.cal_base.specs.declared.identity.ServerId.{ServerId}
use Rattle.cal_base.specs.declared.identity.View.{View}
use Rattle.message.specs.Bodies.{message_of}
use Rattle.message.specs.Spelling.{message_bytes}
use Rattle.message.specs.declared.message.Message.{Message}
use Rattle.session.specs.Session.{bare_ack_of, body_of, tick_packet}
use Rattle.session.specs.declared.packet.Packet.{Packet}
use Rattle.client_sessions.specs.Mail.{Mail, after_acknowledging, after_hearing, after_resending, after_sending, has_sent_in, heard_in, is_to, session_at}
use Rattle.volume.specs.Volume.{Volume}
use Rattle.volume_edit.specs.Edit.{slot_at}
use Rattle.cluster_law.specs.Lanes.{Down}
use Rattle.cluster_law.specs.Lists.{Each, is_empty, only_if}
use Rattle.cluster_law.specs.Sessions.{told_in}
use Rattle.server_draft.specs.Acts.{acts_of, told_to}
use Rattle.server_draft.specs.declared.act.Act.{Act}
use Rattle.server_draft.specs.declared.act.Act.TheVariants.{Tells, Commits, Drops}
use Rattle.server_mail.specs.declared.hearing.FromClient.{FromClient}

-- the packets that the step sends to a client, in order
abbrev pub packets_to : ClientId → Mail → List Packet
packets_to client m = filter (is_to client) m.sent

-- a packet goes from the server of a view to a client of the cluster
pub record GoesOut (server : ServerId) (view : View) (p : Packet) : Type 0 where
  pub client : ClientId
  pub from : p.from ≡ Server server
  pub to : p.to ≡ Client client
  pub of_view : p.view ≡ view
  pub within : client.0 < clients

-- all packets of the step do
abbrev pub AllGoOut : ServerId → View → Mail → Type 0
AllGoOut server view m = Each (GoesOut server view) m.sent

-- a client's purge is marked in the volume
abbrev pub is_purged : Volume → ClientId → Bool
is_purged volume client = (slot_at volume.slots client.0).purged

-- the client in whose session a packet is heard: none where its purge is marked
abbrev pub heard_from : Mail → Volume → Packet → Option ClientId
heard_from m volume p = only_if (λ client. not (is_purged volume client)) (heard_in m p)

-- all sessions once a packet has come, which is heard in the session with this client
abbrev pub after_coming : Mail → Packet → Option ClientId → Mail
after_coming m p None = m
after_coming m p (Some client) = after_hearing m client p

-- what the session with a client hears of that packet: all of it, or nothing where it is heard in another one
abbrev pub part_of : ClientId → Packet → Option ClientId → Option Packet
part_of client p None = None
part_of client p (Some from) = if nat_eq from.0 client.0 then Some p else None

-- the message that bytes spell, if they spell one
abbrev pub message_if : Result Message ℕ → Option Message
message_if (Ok message) = Some message
message_if (Err at) = None

-- the message of a body. Bytes that are no message come to nothing
abbrev pub spelled : Option (List ℕ) → Option Message
spelled None = None
spelled (Some body) = message_if (message_of body)

abbrev pub from_client : ClientId → Option Message → Option FromClient
from_client client None = None
from_client client (Some message) = Some (record { client = client; message = message })

-- the message that a packet brings, which is heard in the session with this client: that of its body, if it is the
-- next one
abbrev pub brought : Mail → Packet → Option ClientId → Option FromClient
brought m p None = None
brought m p (Some client) = from_client client (spelled (body_of (session_at m client) p))

-- a packet that is heard in the session with this client brings the next message there
abbrev pub brings_next : Mail → Packet → Option ClientId → Bool
brings_next m p None = false
brings_next m p (Some client) = is_some (body_of (session_at m client) p)

-- a packet brings the next message of a client whose purge isn't marked, also where its bytes spell none
abbrev pub takes : Mail → Volume → Packet → Bool
takes m volume p = brings_next m p (heard_from m volume p)

-- the client that is owed an acknowledgement for a packet: the one that is heard, where the packet has a number
abbrev pub owed : Packet → Option ClientId → Option ClientId
owed p from = if nat_lt 0 p.seq then from else None

-- a client is sent the oldest message again that it has not acknowledged, unless its purge is marked
abbrev pub after_tick_to : Volume → Mail → ClientId → Mail
after_tick_to volume m client = if is_purged volume client then m else after_resending m client

abbrev pub resent : Volume → Mail → ClientId → List Packet
resent volume m client = if is_purged volume client then [] else option_to_list (tick_packet (session_at m client))

-- the message of an act is sent
abbrev pub after_act : Mail → Act → Mail
after_act m (Tells client message) = after_sending m client (message_bytes message)
after_act m (Commits commit) = m
after_act m Drops = m

-- the bodies of the messages that some acts make for a client, in order
abbrev pub bodies_to : ℕ → ClientId → List Act → List (List ℕ)
bodies_to view client acts = map message_bytes (told_in (record { client = client.0; view = view; way = Down }) (acts_of view acts))

-- each session takes the messages of these acts
abbrev pub HasRoom : Mail → List Act → Type 0
HasRoom m acts = (client : ClientId) → client.0 < clients → (session_at m client).steps + told_to client.0 acts < 2 ^ 60

-- a client is owed an acknowledgement
abbrev pub is_owed : ClientId → Option ClientId → Bool
is_owed client None = false
is_owed client (Some to) = nat_eq to.0 client.0

-- a client that is owed an acknowledgement is sent one by itself, where no packet goes to it
abbrev pub after_answering : Mail → Option ClientId → Mail
after_answering m None = m
after_answering m (Some client) = if has_sent_in m client then m else after_acknowledging m client

abbrev pub bare_to : ClientId → Mail → Option ClientId → List Packet
bare_to client m answers = if is_owed client answers && is_empty (packets_to client m) then bare_ack_of (session_at m client) ∷ [] else []
