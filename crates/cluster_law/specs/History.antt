-- The history of a trace, the calls that were started and answered in it, and the states of its nodes.
use Rattle.std.specs.Prelude.{◌+◌, ◌∷◌, ◌++◌, [], ◌&&◌, ℕ, Bool, true, false, nat_eq, if◌then◌else◌, List, Option, Some, None, length}
use Rattle.cal_base.specs.declared.identity.NodeId.{NodeId}
use Rattle.cal_base.specs.declared.identity.NodeId.TheVariants.{Client, Server}
use Rattle.journal.specs.Commit.{commit_writes}
use Rattle.journal.specs.Opened.{opened_at, opening_place}
use Rattle.tree_law.specs.Legal.{tree_of}
use Rattle.tree_law.specs.Tree.{Tree}
use Rattle.tree_law.specs.declared.call.Call.{Call}
use Rattle.tree_law.specs.declared.entry.Entry.{Entry}
use Rattle.cluster_law.specs.declared.step.Event.{Event}
use Rattle.cluster_law.specs.declared.step.Event.TheVariants.{Start, Deliver, Tick, Crash, NewView, Gone, WriteBack}
use Rattle.cluster_law.specs.ClientState.{ClientState, Turn, Idles, Starts, WritesBack, Takes, client_after, first_client}
use Rattle.cluster_law.specs.Delivery.{is_seat}
use Rattle.cluster_law.specs.Lanes.{Act, Mounts, Tells, Commits, Drops, Commit}
use Rattle.cluster_law.specs.Lists.{onto}
use Rattle.cluster_law.specs.Noted.{Setting, Noted, halts}
use Rattle.cluster_law.specs.ServerState.{ServerState, after_acts, hearing, serving}
use Rattle.cluster_law.specs.Sessions.{Taken, taken}
use Rattle.cluster_law.specs.Sight.{Sight, seen}
use Rattle.cluster_law.specs.Trace.{is_client, own_sectors, seat, views}

-- the entries of the printed steps, newest first, and their tree
unfoldable pub history : List Noted → List Entry
history [] = []
history (s ∷ earlier) = onto s.step.entries (history earlier)

abbrev pub tree_at : List Noted → Tree
tree_at trace = tree_of (history trace)

-- what comes to a client in a step
abbrev pub takes : Option Taken → Turn
takes None = Idles
takes (Some t) = Takes t.message

abbrev pub turn_by : Event → Option Taken → Turn
turn_by (Start client call) t = Starts call
turn_by (Deliver packet stop) t = takes t
turn_by (Tick node stop) t = Idles
turn_by (Crash node) t = Idles
turn_by (NewView server stop) t = Idles
turn_by (Gone client) t = Idles
turn_by (WriteBack client fd) t = WritesBack fd

abbrev pub turn : Setting → Noted → List Noted → Turn
turn w s earlier = turn_by s.step.event (taken w earlier s)

abbrev pub sight_at : ℕ → List Noted → Sight
sight_at client trace = seen (tree_at trace) (record { 0 = client })

-- what a client knows of itself, from its own steps
unfoldable pub client_at : Setting → ℕ → List Noted → ClientState
client_at w client [] = first_client
client_at w client (s ∷ earlier) = if is_client s.step.node client then client_after (sight_at client earlier) (sight_at client earlier) (client_at w client earlier) (turn w s earlier) else client_at w client earlier

-- the view whose server makes a step: a boot is a step of the next view, and a crash is no step
abbrev pub view_by : Event → ℕ → Option ℕ → Option ℕ
view_by (NewView server stop) next old = Some next
view_by (Crash node) next old = None
view_by event next old = old

abbrev pub view_of_node : Option NodeId → List Noted → Event → Option ℕ
view_of_node None earlier event = None
view_of_node (Some (Client c)) earlier event = None
view_of_node (Some (Server s)) earlier event = view_by event (views earlier + 1) (seat s earlier)

abbrev pub view_of_step : Noted → List Noted → Option ℕ
view_of_step s earlier = view_of_node s.step.node earlier s.step.event

abbrev pub is_boot : Event → Bool
is_boot (NewView server stop) = true
is_boot event = false

-- the writes of a commit, and of all that some acts have planned, in order
abbrev pub writes_of : Commit → List (ℕ × List ℕ)
writes_of commit = commit.lays ++ commit_writes commit.homes

unfoldable pub writes_of_acts : List Act → List (ℕ × List ℕ)
writes_of_acts [] = []
writes_of_acts (Mounts volume ∷ before) = writes_of_acts before
writes_of_acts (Tells lane message ∷ before) = writes_of_acts before
writes_of_acts (Commits commit ∷ before) = writes_of_acts before ++ writes_of commit
writes_of_acts (Drops ∷ before) = writes_of_acts before

-- the place of the write that makes a commit final, behind the acts before it
abbrev pub final_place : List Act → Commit → ℕ
final_place before commit = length (writes_of_acts before) + length commit.lays + opening_place (length commit.homes)

-- of the acts that a step had planned which made these writes, those commits count that became final
unfoldable pub final_acts : List (ℕ × List ℕ) → List Act → List Act
final_acts writes [] = []
final_acts writes (Mounts volume ∷ before) = final_acts writes before
final_acts writes (Tells lane message ∷ before) = final_acts writes before
final_acts writes (Commits commit ∷ before) = if opened_at writes (final_place before commit) then Commits commit ∷ final_acts writes before else final_acts writes before
final_acts writes (Drops ∷ before) = final_acts writes before

abbrev pub acts_done : Noted → List Act
acts_done s = if halts s then final_acts s.step.writes s.acts else s.acts

-- the sectors as the server of a view sees them when its step begins; a boot's, when it has fenced the disk
abbrev pub sectors_before : Setting → ℕ → Noted → List Noted → List (List ℕ)
sectors_before w view s earlier = if is_boot s.step.event then own_sectors w view (s ∷ earlier) else own_sectors w view earlier

abbrev pub hearing_taken : ServerState → Option Taken → ServerState
hearing_taken server None = server
hearing_taken server (Some t) = hearing server (record { 0 = t.lane.client }) t.message

-- a server's state before the first act of its step: it has heard what the step takes
abbrev pub begins : Setting → ℕ → Noted → List Noted → ServerState → ServerState
begins w view s earlier server = hearing_taken (record server { sectors = sectors_before w view s earlier }) (taken w earlier s)

abbrev pub goes_on_in : Setting → ℕ → Noted → List Noted → ServerState → ServerState
goes_on_in w view s earlier server = after_acts (begins w view s earlier server) (acts_done s)

-- what the server of a view knows, from its own steps; that of view 1 serves from the format on
unfoldable pub server_at : Setting → ℕ → List Noted → ServerState
server_at w view [] = serving w.window w.volume w.first.sectors
server_at w view (s ∷ earlier) = if is_seat (view_of_step s earlier) view then goes_on_in w view s earlier (server_at w view earlier) else server_at w view earlier

-- and after some acts of a step of it
abbrev pub before_acts : Setting → ℕ → Noted → List Noted → ServerState
before_acts w view s earlier = begins w view s earlier (server_at w view earlier)

abbrev pub within : Setting → ℕ → Noted → List Noted → List Act → ServerState
within w view s earlier before = after_acts (before_acts w view s earlier) before

-- how many calls a client has started, and which one has a number
abbrev pub starts : ℕ → Event → ℕ
starts client (Start c call) = if nat_eq c.0 client then 1 else 0
starts client event = 0

unfoldable pub calls_started : ℕ → List Noted → ℕ
calls_started client [] = 0
calls_started client (s ∷ earlier) = calls_started client earlier + starts client s.step.event

abbrev pub started_by : ℕ → ℕ → Option Call → ℕ → Event → Option Call
started_by client number old next (Start c call) = if nat_eq c.0 client && nat_eq next number then Some call else old
started_by client number old next event = old

unfoldable pub call_started : ℕ → ℕ → List Noted → Option Call
call_started client number [] = None
call_started client number (s ∷ earlier) = started_by client number (call_started client number earlier) (calls_started client earlier + 1) s.step.event
