-- How many calls a client has started, and whether a packet brings its receiver the next message.
use Rattle.std.specs.Prelude.{ℕ, Bool, false, Option, Some, None, slice_get}
use Rattle.cal_base.specs.declared.identity.ClientId.{ClientId}
use Rattle.cal_base.specs.declared.identity.NodeId.{NodeId}
use Rattle.cal_base.specs.declared.identity.NodeId.TheVariants.{Client, Server}
use Rattle.client_node.specs.Node.{NodeValue as ClientNode, takes_packet as client_takes_packet}
use Rattle.server_node.specs.Node.{NodeValue as ServerNode, takes_packet as server_takes_packet}
use Rattle.session.specs.declared.packet.Packet.{Packet}
use Rattle.world.specs.World.{WorldValue, client_at, server_at}

-- the calls that a client has started: none where it doesn't run
abbrev pub calls_in : Option ClientNode → ℕ
calls_in None = 0
calls_in (Some node) = node.client.calls

abbrev pub calls_of : WorldValue → ClientId → ℕ
calls_of w client = calls_in (client_at w client)

-- a packet brings a client, or a server, the next message: not where it doesn't run
abbrev pub client_takes : Option ClientNode → Packet → Bool
client_takes None p = false
client_takes (Some node) p = client_takes_packet node p

abbrev pub server_takes : Option ServerNode → Packet → Bool
server_takes None p = false
server_takes (Some node) p = server_takes_packet node p

abbrev pub node_takes : WorldValue → NodeId → Packet → Bool
node_takes w (Client c) p = client_takes (client_at w c) p
node_takes w (Server s) p = server_takes (server_at w s) p

-- a packet that was sent does so to its receiver
abbrev pub receiver_takes : WorldValue → Option Packet → Bool
receiver_takes w None = false
receiver_takes w (Some p) = node_takes w p.to p

-- the packet of a number would bring its receiver the next message: not where it isn't sent yet
abbrev pub takes : WorldValue → ℕ → Bool
takes w packet = receiver_takes w (slice_get w.packets packet)
