-- What was made, sent, taken and acknowledged of each direction of a session.
use Rattle.std.specs.Prelude.{ℕ, ◌+◌, Bool, true, false, not, ◌&&◌, ◌||◌, nat_eq, nat_lt, if◌then◌else◌, Option, Some, None, List, [], ◌∷◌, ◌++◌, length, max, min}
use Rattle.cal_base.specs.declared.identity.NodeId.{NodeId}
use Rattle.cal_base.specs.declared.identity.NodeId.TheVariants.{Client, Server}
use Rattle.message.specs.declared.message.Message.{Message}
use Rattle.message.specs.declared.message.Message.TheVariants.{Acquire, Grant, Refuse, Change, Done, Flush, Flushed, Revoke, Release, Ask, Piece, Wait, Admit}
use Rattle.session.specs.declared.packet.Packet.{Packet}
use Rattle.cluster_law.specs.Lists.{numbered, only_if}
use Rattle.cluster_law.specs.Lanes.{Way, Up, Down, Lane, same_lane, back, Act, Mounts, Tells, Commits, Drops}
use Rattle.cluster_law.specs.Noted.{Setting, Noted, halts}
use Rattle.cluster_law.specs.Trace.{given, seat, server_of, own_sectors, is_marked, is_client, is_server}

-- the direction of a session in which a packet goes, by its two ends
abbrev pub lane_between : NodeId → NodeId → ℕ → Option Lane
lane_between (Client c) (Server s) view = Some (record { client = c.0; view = view; way = Up })
lane_between (Server s) (Client c) view = Some (record { client = c.0; view = view; way = Down })
lane_between (Client c) (Client d) view = None
lane_between (Server s) (Server r) view = None

abbrev pub lane_of : Packet → Option Lane
lane_of p = lane_between p.from p.to p.view.0

abbrev pub is_lane : Option Lane → Lane → Bool
is_lane None lane = false
is_lane (Some l) lane = same_lane l lane

abbrev pub goes_on : Lane → Packet → Bool
goes_on lane p = is_lane (lane_of p) lane

-- the messages that these acts make for a lane, in order
unfoldable pub told_in : Lane → List Act → List Message
told_in lane [] = []
told_in lane (Mounts volume ∷ before) = told_in lane before
told_in lane (Tells l m ∷ before) = told_in lane before ++ (if same_lane l lane then m ∷ [] else [])
told_in lane (Commits commit ∷ before) = told_in lane before
told_in lane (Drops ∷ before) = told_in lane before

-- a step that halts makes no message
abbrev pub made_now : Lane → Noted → List Message
made_now lane s = if halts s then [] else told_in lane s.acts

-- the messages made for a lane: number n stands at place n - 1
unfoldable pub made_in : Lane → List Noted → List Message
made_in lane [] = []
made_in lane (s ∷ earlier) = made_in lane earlier ++ made_now lane s

-- a packet is from the server of its view
abbrev pub is_from_server : List Noted → Packet → Bool
is_from_server earlier p = is_server (Some p.from) (server_of p.view.0 earlier)

-- message 1 of a higher view moves a client there
abbrev pub is_move : List Noted → ℕ → ℕ → Packet → Bool
is_move earlier client view p = is_from_server earlier p && is_client (Some p.to) client && nat_lt view p.view.0 && nat_eq p.seq 1

abbrev pub moved : List Noted → ℕ → ℕ → Option Packet → ℕ
moved earlier client view None = view
moved earlier client view (Some p) = if is_move earlier client view p then p.view.0 else view

-- the view in which a client is
unfoldable pub client_view : ℕ → List Noted → ℕ
client_view client [] = 1
client_view client (s ∷ earlier) = moved earlier client (client_view client earlier) (given earlier s)

-- a running server has a session with each client that isn't marked as purged, in the view that it serves
abbrev pub serves : Setting → List Noted → Option ℕ → NodeId → ℕ → Bool
serves w earlier None from view = false
serves w earlier (Some v) (Server s) view = false
serves w earlier (Some v) (Client c) view = nat_eq v view && not (is_marked (own_sectors w v earlier) c.0)

-- the receiver of a packet has its session, or it is a client's first of a higher view; a client hears the
-- server of a view alone
abbrev pub hears_at : Setting → List Noted → NodeId → Packet → Bool
hears_at w earlier (Client c) p = is_from_server earlier p && nat_eq p.view.0 (client_view c.0 earlier) || is_move earlier c.0 (client_view c.0 earlier) p
hears_at w earlier (Server s) p = serves w earlier (seat s earlier) p.from p.view.0

-- the packet that a step hears
unfoldable pub heard : Setting → List Noted → Noted → Option Packet
heard w earlier s = only_if (λ p. hears_at w earlier p.to p) (given earlier s)

unfoldable pub heard_in : Setting → Lane → List Noted → Noted → Option Packet
heard_in w lane earlier s = only_if (goes_on lane) (heard w earlier s)

-- the next number is taken, and no other
abbrev pub counted : ℕ → Option Packet → ℕ
counted n None = n
counted n (Some p) = if nat_eq p.seq (n + 1) then n + 1 else n

-- how many messages of a lane were taken
unfoldable pub taken_in : Setting → Lane → List Noted → ℕ
taken_in w lane [] = 0
taken_in w lane (s ∷ earlier) = counted (taken_in w lane earlier) (heard_in w lane earlier s)

-- of these messages, at most eight are sent beyond those acknowledged; the others queue
abbrev pub sent_with : ℕ → ℕ → ℕ
sent_with made acked = min made (acked + 8)

-- a packet acknowledges what was sent, and no more
abbrev pub acknowledged : ℕ → ℕ → Option Packet → ℕ
acknowledged n sent None = n
acknowledged n sent (Some p) = max n (min p.ack sent)

-- up to which number the sender of a lane knows its messages taken
unfoldable pub acked_in : Setting → Lane → List Noted → ℕ
acked_in w lane [] = 0
acked_in w lane (s ∷ earlier) = acknowledged (acked_in w lane earlier) (sent_with (length (made_in lane earlier)) (acked_in w lane earlier)) (heard_in w (back lane) earlier s)

-- up to which number the messages of a lane were sent
unfoldable pub sent_in : Setting → Lane → List Noted → ℕ
sent_in w lane trace = sent_with (length (made_in lane trace)) (acked_in w lane trace)

-- the message that a step takes, and the lane on which it came
pub record Taken : Type 0 where
  pub lane : Lane
  pub message : Message

abbrev pub as_taken : Lane → Option Message → Option Taken
as_taken lane None = None
as_taken lane (Some message) = Some (record { lane = lane; message = message })

abbrev pub next_on : Setting → List Noted → ℕ → Option Lane → Option Taken
next_on w earlier seq None = None
next_on w earlier seq (Some lane) = if nat_eq seq (taken_in w lane earlier + 1) then as_taken lane (numbered (made_in lane earlier) seq) else None

abbrev pub taken_of : Setting → List Noted → Option Packet → Option Taken
taken_of w earlier None = None
taken_of w earlier (Some p) = next_on w earlier p.seq (lane_of p)

unfoldable pub taken : Setting → List Noted → Noted → Option Taken
taken w earlier s = taken_of w earlier (heard w earlier s)

-- clients make these kinds of messages, and servers the others
abbrev pub is_up : Message → Bool
is_up (Acquire number want) = true
is_up (Grant number items) = false
is_up (Refuse number free needed) = false
is_up (Change number call) = true
is_up (Done number reply) = false
is_up (Flush flush) = true
is_up (Flushed number) = false
is_up (Revoke revoke) = false
is_up (Release release) = true
is_up Ask = false
is_up (Piece piece) = true
is_up (Wait number client) = false
is_up Admit = false

abbrev pub is_kind_of : Way → Message → Bool
is_kind_of Up m = is_up m
is_kind_of Down m = not (is_up m)
