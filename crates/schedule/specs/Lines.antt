-- What comes by a line of a script.
use Rattle.std.specs.Prelude.{ℕ, Bool, true, false, ◌&&◌, if◌then◌else◌, nat_lt, Option, Some, None, slice_get}
use Rattle.cal_base.specs.declared.identity.NodeId.{NodeId}
use Rattle.cal_base.specs.declared.identity.NodeId.TheVariants.{Client, Server}
use Rattle.cluster_law.specs.declared.step.Event.{Event}
use Rattle.cluster_law.specs.declared.step.Event.TheVariants as events
use Rattle.packet_links.specs.Links.{after_cut, after_mend, after_remove, waiting}
use Rattle.script.specs.declared.script.Line.{Line}
use Rattle.script.specs.declared.script.Line.TheVariants.{Call, Deliver, Drop, Pass, Cut, Mend, Tick, Crash, Gone, View, WriteBack, Stop, Settle as Settles}
use Rattle.session.specs.declared.packet.Packet.{Packet}
use Rattle.shared_disk.specs.declared.stop.Stop.{Stop as StopRecord}
use Rattle.world.specs.World.{WorldValue}
use Rattle.world.specs.declared.refusals.Refused.{Refused}
use Rattle.world.specs.declared.refusals.Refused.TheVariants.{NoSuch, NoPacket}
use Rattle.schedule.specs.Budget.{budget}
use Rattle.schedule.specs.Nodes.{outstanding}
use Rattle.schedule.specs.Schedule.{ScheduleValue}
use Rattle.schedule.specs.Stops.{stop_of_node, stop_on, torn_by, with_stop}
use Rattle.schedule.specs.declared.choice.Choice.{Choice}
use Rattle.schedule.specs.declared.choice.Choice.TheVariants.{Nothing, Event as Happens, Refused as IsRefused}
use Rattle.schedule.specs.declared.choice.Phase.TheVariants.{Delivers}
use Rattle.schedule.specs.declared.choice.Settle.{Settle}

-- what comes next, and what is still to come then
pub record Chosen : Type 0 where
  pub choice : Choice
  pub after : ScheduleValue

-- an event of the cluster
abbrev pub happens : ScheduleValue → ℕ → Event → Chosen
happens s line event = record { choice = Happens line event; after = s }

-- the line can't be carried out
abbrev pub refuses : ScheduleValue → ℕ → Refused → Chosen
refuses s line why = record { choice = IsRefused line why; after = s }

-- the line makes no event
abbrev pub becomes : ScheduleValue → Chosen
becomes s = record { choice = Nothing; after = s }

-- the delivery of a packet, with the stop that is armed on its receiver
abbrev pub stop_for : ScheduleValue → Option Packet → Option StopRecord
stop_for s None = None
stop_for s (Some packet) = stop_of_node s.stops packet.to

abbrev pub delivery : WorldValue → ScheduleValue → ℕ → Event
delivery w s packet = events.Deliver packet (stop_for s (slice_get w.packets packet))

-- the tick of a node, with the stop that is armed on it
abbrev pub tick : ScheduleValue → NodeId → Event
tick s node = events.Tick node (stop_of_node s.stops node)

-- a packet that was sent counts as lost
abbrev pub loses : ScheduleValue → ℕ → ℕ → Option Packet → Chosen
loses s line number None = refuses s line NoPacket
loses s line number (Some packet) = becomes (record s { links = after_remove number packet.from packet.to s.links })

-- there is such a node
abbrev pub is_there : WorldValue → NodeId → Bool
is_there w (Client client) = nat_lt client.0 w.members.clients
is_there w (Server server) = true

-- there are both nodes of a link
abbrev pub are_there : WorldValue → NodeId → NodeId → Bool
are_there w from to = is_there w from && is_there w to

-- the lowest packet that waits on a link is delivered
abbrev pub passes_first : WorldValue → ScheduleValue → ℕ → Option ℕ → Chosen
passes_first w s line None = refuses s line NoPacket
passes_first w s line (Some packet) = happens s line (delivery w s packet)

abbrev pub passes : WorldValue → ScheduleValue → ℕ → NodeId → NodeId → Chosen
passes w s line from to = if are_there w from to then passes_first w s line (slice_get (waiting s.links from to) 0) else refuses s line NoSuch

-- a `settle` as it begins
abbrev pub begun_settle : WorldValue → ℕ → Settle
begun_settle w line = record { line = line; left = budget (outstanding w 16) w.members.clients; cycles = 0; quiet = 0; moved = false; phase = Delivers }

-- what comes by a line of this number
abbrev pub chosen_by : WorldValue → ScheduleValue → ℕ → Line → Chosen
chosen_by w s line (Call client call) = happens s line (events.Start client call)
chosen_by w s line (Deliver packet) = happens s line (delivery w s packet)
chosen_by w s line (Drop packet) = loses s line packet (slice_get w.packets packet)
chosen_by w s line (Pass from to) = passes w s line from to
chosen_by w s line (Cut from to) = becomes (record s { links = after_cut from to s.links })
chosen_by w s line (Mend from to) = becomes (record s { links = after_mend from to s.links })
chosen_by w s line (Tick node) = happens s line (tick s node)
chosen_by w s line (Crash node) = happens s line (events.Crash node)
chosen_by w s line (Gone client) = happens s line (events.Gone client)
chosen_by w s line (View server) = happens s line (events.NewView server (stop_on s.stops server))
chosen_by w s line (WriteBack client fd) = happens s line (events.WriteBack client fd)
chosen_by w s line (Stop server after how) = becomes (record s { stops = with_stop s.stops server (Some (record { after = after; torn = torn_by how })) })
chosen_by w s line Settles = becomes (record s { settle = Some (begun_settle w line) })
