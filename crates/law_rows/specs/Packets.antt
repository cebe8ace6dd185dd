-- Packets between client 0 and server A in view 1, and steps that print little.
use Rattle.std.specs.Prelude.{ℕ, List, [], Option, Some, None}
use Rattle.cal_base.specs.declared.identity.NodeId.{NodeId}
use Rattle.cal_base.specs.declared.identity.NodeId.TheVariants.{Client}
use Rattle.cal_base.specs.declared.identity.ServerId.TheVariants.{A}
use Rattle.message.specs.Spelling.{message_bytes}
use Rattle.message.specs.declared.message.Message.{Message}
use Rattle.session.specs.declared.packet.Packet.{Packet}
use Rattle.tree_law.specs.declared.entry.Entry.{Entry}
use Rattle.cluster_law.specs.declared.step.Answer.{Answer}
use Rattle.cluster_law.specs.declared.step.Event.{Event}
use Rattle.cluster_law.specs.declared.step.Event.TheVariants.{Deliver}
use Rattle.cluster_law.specs.declared.step.TraceStep.{TraceStep}
use Rattle.cluster_law.specs.Delivery.{packet_on}
use Rattle.cluster_law.specs.Lanes.{Act, Lane, Up, Down}
use Rattle.cluster_law.specs.Noted.{DiskAt, Noted}

abbrev pub up : Lane
up = record { client = 0; view = 1; way = Up }

abbrev pub down : Lane
down = record { client = 0; view = 1; way = Down }

-- a packet with a message, and one that only acknowledges
abbrev pub carrying : Lane → ℕ → ℕ → Message → Packet
carrying lane seq ack message = packet_on lane.way A lane seq ack (message_bytes message)

abbrev pub acknowledging : Lane → ℕ → Packet
acknowledging lane ack = packet_on lane.way A lane 0 ack []

abbrev pub client : NodeId
client = Client (record { 0 = 0 })

-- a step without a halt, in which nothing is written
abbrev pub quiet_step : NodeId → Event → List Packet → Option Answer → List Entry → TraceStep
quiet_step node event sent answer entries = record {
  node = Some node;
  event = event;
  writes = [];
  entries = entries;
  sent = sent;
  answer = answer;
  head = None;
  halt = None;
}

abbrev pub noted : TraceStep → List Act → DiskAt → Noted
noted step acts disk = record { step = step; acts = acts; disk = disk; held = None }

abbrev pub delivers : ℕ → Event
delivers packet = Deliver packet None
