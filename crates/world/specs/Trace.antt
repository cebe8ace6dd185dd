-- Steps as they are printed: what a node gave, and nothing else.
use Rattle.std.specs.Prelude.{[], Option, Some, None}
use Rattle.std.specs.Option.{option_to_list}
use Rattle.cal_base.specs.declared.identity.ClientId.{ClientId}
use Rattle.cal_base.specs.declared.identity.NodeId.{NodeId}
use Rattle.cal_base.specs.declared.identity.NodeId.TheVariants.{Client, Server}
use Rattle.cal_base.specs.declared.identity.ServerId.{ServerId}
use Rattle.cluster_law.specs.declared.node.ClientOutput.{ClientOutput}
use Rattle.cluster_law.specs.declared.node.ServerHalted.{ServerHalted}
use Rattle.cluster_law.specs.declared.node.ServerOutput.{ServerOutput}
use Rattle.cluster_law.specs.declared.step.Event.{Event}
use Rattle.cluster_law.specs.declared.step.TraceStep.{TraceStep}

-- a step that gives nothing
abbrev pub bare_step : Option NodeId → Event → TraceStep
bare_step node event = record { node = node; event = event; writes = []; entries = []; sent = []; answer = None; head = None; halt = None }

abbrev pub client_step : ClientId → Event → ClientOutput → TraceStep
client_step client event output = record { node = Some (Client client); event = event; writes = []; entries = option_to_list output.entry; sent = output.sent; answer = output.answer; head = None; halt = None }

abbrev pub server_step : ServerId → Event → ServerOutput → TraceStep
server_step server event output = record { node = Some (Server server); event = event; writes = output.writes; entries = output.entries; sent = output.sent; answer = None; head = output.head; halt = None }

-- a server that halts sends nothing
abbrev pub halted_step : ServerId → Event → ServerHalted → TraceStep
halted_step server event halted = record { node = Some (Server server); event = event; writes = halted.writes; entries = halted.entries; sent = []; answer = None; head = None; halt = Some halted.halt }
