-- The stops that are armed on servers.
use Rattle.std.specs.Prelude.{◌-◌, ◌++◌, ℕ, Bool, true, false, if◌then◌else◌, List, Option, Some, None, option_map, length, replicate, take}
use Rattle.cal_base.specs.declared.identity.NodeId.{NodeId}
use Rattle.cal_base.specs.declared.identity.NodeId.TheVariants.{Client, Server}
use Rattle.cal_base.specs.declared.identity.ServerId.{ServerId}
use Rattle.cal_base.specs.declared.identity.ServerId.TheVariants.{A, B}
use Rattle.cluster_law.specs.declared.step.Halt.{Halt}
use Rattle.cluster_law.specs.declared.step.Halt.TheVariants.{Fenced, Failed, Stopped, Damaged}
use Rattle.cluster_law.specs.declared.step.TraceStep.{TraceStep}
use Rattle.script.specs.declared.script.How.{How}
use Rattle.script.specs.declared.script.How.TheVariants.{Clean, Fill, Hex}
use Rattle.shared_disk.specs.declared.stop.Stop.{Stop}
use Rattle.schedule.specs.declared.stops.ArmedStops.{ArmedStops}

-- the stop that is armed on a server
abbrev pub stop_on : ArmedStops → ServerId → Option Stop
stop_on stops A = stops.a
stop_on stops B = stops.b

abbrev pub with_stop : ArmedStops → ServerId → Option Stop → ArmedStops
with_stop stops A stop = record { a = stop; b = stops.b }
with_stop stops B stop = record { a = stops.a; b = stop }

-- the stop that is handed to a step of a node; a client has none
abbrev pub stop_of_node : ArmedStops → NodeId → Option Stop
stop_of_node stops (Client client) = None
stop_of_node stops (Server server) = stop_on stops server

-- bytes and then zeros, so many in all
abbrev pub padded : List ℕ → List ℕ
padded bytes = take 4096 bytes ++ replicate (4096 - length bytes) 0

-- what a stop leaves in the sector that was about to be written: nothing, one byte throughout, or bytes and then zeros
abbrev pub torn_by : How → Option (List ℕ)
torn_by Clean = None
torn_by (Fill byte) = Some (replicate 4096 byte)
torn_by (Hex bytes) = Some (padded bytes)

-- a stop once so many more writes were accepted
abbrev pub less : Stop → ℕ → Stop
less stop writes = record stop { after = stop.after - writes }

abbrev pub is_stopped : Option Halt → Bool
is_stopped None = false
is_stopped (Some (Fenced mine current)) = false
is_stopped (Some (Failed faults)) = false
is_stopped (Some Stopped) = true
is_stopped (Some (Damaged sector)) = false

-- what is left of a server's stop after a step of it: nothing where the step halted by it
abbrev pub left_of : Option Stop → TraceStep → Option Stop
left_of stop step = if is_stopped step.halt then None else option_map (λ armed. less armed (length step.writes)) stop

abbrev pub after_step_of : ArmedStops → Option NodeId → TraceStep → ArmedStops
after_step_of stops None step = stops
after_step_of stops (Some (Client client)) step = stops
after_step_of stops (Some (Server server)) step = with_stop stops server (left_of (stop_on stops server) step)

-- the stops that are armed after a step
abbrev pub after_step : ArmedStops → TraceStep → ArmedStops
after_step stops step = after_step_of stops step.node step
