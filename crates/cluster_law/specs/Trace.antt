-- What a trace has come to: packets, views, servers, clients, and what a server sees of the disk.
use Rattle.std.specs.Prelude.{ℕ, ◌+◌, Bool, true, false, ◌&&◌, ◌||◌, nat_eq, nat_le, if◌then◌else◌, Option, Some, None, List, [], ◌∷◌, ◌++◌, slice_get, slice_index, slice_index_or}
use Rattle.cal_base.specs.declared.identity.NodeId.{NodeId}
use Rattle.cal_base.specs.declared.identity.NodeId.TheVariants.{Client, Server}
use Rattle.cal_base.specs.declared.identity.ServerId.{ServerId}
use Rattle.cal_base.specs.declared.identity.ServerId.TheVariants.{A, B}
use Rattle.journal.specs.Commit.{replayed}
use Rattle.shared_disk.specs.Map.{at_slot}
use Rattle.session.specs.declared.packet.Packet.{Packet}
use Rattle.cluster_law.specs.declared.step.Event.{Event}
use Rattle.cluster_law.specs.declared.step.Event.TheVariants.{Start, Deliver, Tick, Crash, NewView, Gone, WriteBack}
use Rattle.cluster_law.specs.Noted.{Setting, Noted, halts}

abbrev pub same_server : ServerId → ServerId → Bool
same_server A A = true
same_server A B = false
same_server B A = false
same_server B B = true

abbrev pub is_server : Option NodeId → ServerId → Bool
is_server None server = false
is_server (Some (Client c)) server = false
is_server (Some (Server s)) server = same_server s server

abbrev pub is_client : Option NodeId → ℕ → Bool
is_client None client = false
is_client (Some (Client c)) client = nat_eq c.0 client
is_client (Some (Server s)) client = false

-- all packets that were sent, by their numbers from 0
unfoldable pub packets : List Noted → List Packet
packets [] = []
packets (s ∷ earlier) = packets earlier ++ s.step.sent

-- the packet that an event delivers
abbrev pub delivered_by : List Packet → Event → Option Packet
delivered_by sent (Start client call) = None
delivered_by sent (Deliver packet stop) = slice_get sent packet
delivered_by sent (Tick node stop) = None
delivered_by sent (Crash node) = None
delivered_by sent (NewView server stop) = None
delivered_by sent (Gone client) = None
delivered_by sent (WriteBack client fd) = None

abbrev pub given : List Noted → Noted → Option Packet
given earlier s = delivered_by (packets earlier) s.step.event

-- how many views an event opens
abbrev pub opens : Event → ℕ
opens (NewView server stop) = 1
opens _ = 0

-- how many views were opened; the format opened the first
unfoldable pub views : List Noted → ℕ
views [] = 1
views (s ∷ earlier) = views earlier + opens s.step.event

-- the view that a server's node serves after an event, if it runs: a boot ends the node that ran there
abbrev pub seat_after : ServerId → Option ℕ → ℕ → Event → Option ℕ
seat_after server old view (NewView other stop) = if same_server server other then Some view else old
seat_after server old view (Crash (Server other)) = if same_server server other then None else old
seat_after server old view _ = old

abbrev pub first_seat : ServerId → Option ℕ
first_seat A = Some 1
first_seat B = None

-- the view that a server's node serves, if it runs; a step that halts ends it
unfoldable pub seat : ServerId → List Noted → Option ℕ
seat server [] = first_seat server
seat server (s ∷ earlier) = if halts s && is_server s.step.node server then None else seat_after server (seat server earlier) (views earlier + 1) s.step.event

abbrev pub opened : ℕ → ℕ → ServerId → Event → ServerId
opened view next old (NewView server stop) = if nat_eq view next then server else old
opened view next old _ = old

-- the server of a view
unfoldable pub server_of : ℕ → List Noted → ServerId
server_of view [] = A
server_of view (s ∷ earlier) = opened view (views earlier + 1) (server_of view earlier) s.step.event

abbrev pub crashes : Event → ℕ → Bool
crashes (Crash (Client c)) client = nat_eq c.0 client
crashes _ client = false

unfoldable pub has_crashed : ℕ → List Noted → Bool
has_crashed client [] = false
has_crashed client (s ∷ earlier) = crashes s.step.event client || has_crashed client earlier

abbrev pub declares : Event → ℕ → Bool
declares (Gone c) client = nat_eq c.0 client
declares _ client = false

unfoldable pub is_gone : ℕ → List Noted → Bool
is_gone client [] = false
is_gone client (s ∷ earlier) = declares s.step.event client || is_gone client earlier

-- the sectors as they are while no higher view than this has fenced the disk, else as they stood when one did
unfoldable pub sectors_at : Setting → ℕ → List Noted → List (List ℕ)
sectors_at w view [] = w.first.sectors
sectors_at w view (s ∷ earlier) = if nat_le s.disk.key view then s.disk.sectors else sectors_at w view earlier

abbrev pub or_none : Option (List (List ℕ)) → List (List ℕ)
or_none None = []
or_none (Some sectors) = sectors

-- what the server of a view sees of the disk: its sectors, replayed
unfoldable pub own_sectors : Setting → ℕ → List Noted → List (List ℕ)
own_sectors w view trace = or_none (replayed (sectors_at w view trace))

-- a client's slot has the mark of its purge in the first byte
abbrev pub is_marked : List (List ℕ) → ℕ → Bool
is_marked sectors client = nat_eq (slice_index (slice_index_or sectors (at_slot client) []) 0) 1
