-- The whole cluster between two steps: its clients, its two servers, and the packets that were sent.
use Rattle.std.specs.Prelude.{◌≡◌, ◌+◌, ◌≤◌, ℕ, Bool, true, false, List, Option, Some, None, length, is_some, slice_get, slice_set}
use Rattle.cal_base.specs.declared.identity.ClientId.{ClientId}
use Rattle.cal_base.specs.declared.identity.NodeId.{NodeId}
use Rattle.cal_base.specs.declared.identity.NodeId.TheVariants.{Client, Server}
use Rattle.cal_base.specs.declared.identity.ServerId.{ServerId}
use Rattle.cal_base.specs.declared.identity.ServerId.TheVariants.{A, B}
use Rattle.client_node.specs.Node.{NodeValue as ClientNode}
use Rattle.membership.specs.Membership.{Membership, standing_of}
use Rattle.membership.specs.declared.standing.Standing.{Standing}
use Rattle.membership.specs.declared.standing.Standing.TheVariants.{Runs, Crashed, Gone}
use Rattle.server_node.specs.Node.{NodeValue as ServerNode}
use Rattle.session.specs.declared.packet.Packet.{Packet}

-- how many clients a server asks for reports at a time; who is in the cluster; the clients by number and the two
-- servers, each while it runs; the packets that were sent, by number, and which of them were delivered; and how many
-- steps were made
pub record WorldValue : Type 0 where
  pub window : ℕ
  pub members : Membership
  pub clients : List (Option ClientNode)
  pub a : Option ServerNode
  pub b : Option ServerNode
  pub packets : List Packet
  pub delivered : List Bool
  pub steps : ℕ

-- the client of this number, if it runs
abbrev pub if_running : Option (Option ClientNode) → Option ClientNode
if_running None = None
if_running (Some node) = node

abbrev pub client_at : WorldValue → ClientId → Option ClientNode
client_at w c = if_running (slice_get w.clients c.0)

-- a packet was delivered
abbrev pub flag_of : Option Bool → Bool
flag_of None = false
flag_of (Some delivered) = delivered

-- the server of this name, if it runs
abbrev pub server_at : WorldValue → ServerId → Option ServerNode
server_at w A = w.a
server_at w B = w.b

-- a node runs
abbrev pub runs : WorldValue → NodeId → Bool
runs w (Client c) = is_some (client_at w c)
runs w (Server s) = is_some (server_at w s)

-- a call of a client is outstanding
abbrev pub is_calling : Option ClientNode → Bool
is_calling None = false
is_calling (Some node) = is_some node.client.call

abbrev pub is_busy : WorldValue → ClientId → Bool
is_busy w c = is_calling (client_at w c)

-- the world with another node, or none, in the place of a client or a server
abbrev pub with_client : WorldValue → ClientId → Option ClientNode → WorldValue
with_client w c node = record w { clients = slice_set w.clients c.0 node }

abbrev pub with_server : WorldValue → ServerId → Option ServerNode → WorldValue
with_server w A node = record w { a = node }
with_server w B node = record w { b = node }

-- where a client stands that runs
abbrev pub stands_running : Option Standing → Bool
stands_running None = false
stands_running (Some Runs) = true
stands_running (Some Crashed) = false
stands_running (Some Gone) = false

-- a running client has its number, a server its name, and neither has made more steps than the world
pub record IsClientOf (steps : ℕ) (c : ClientId) (node : ClientNode) : Type 0 where
  pub id : node.id ≡ c
  pub made : node.steps ≤ steps

pub record IsServerOf (steps : ℕ) (s : ServerId) (node : ServerNode) : Type 0 where
  pub id : node.id ≡ s
  pub made : node.steps ≤ steps

-- what stands of a world at all times: it has as many clients as there are members, each runs exactly where its
-- standing says so, each packet has its flag, and no step opens more than one view
pub record IsWorld (w : WorldValue) : Type 0 where
  pub count : length w.clients ≡ w.members.clients
  pub client : (c : ClientId) (node : ClientNode) → client_at w c ≡ Some node → IsClientOf w.steps c node
  pub server : (s : ServerId) (node : ServerNode) → server_at w s ≡ Some node → IsServerOf w.steps s node
  pub running : (c : ClientId) → is_some (client_at w c) ≡ stands_running (standing_of w.members c)
  pub flags : length w.delivered ≡ length w.packets
  pub view : w.members.view.0 ≤ w.steps + 1

-- a world in which one more step was made
abbrev pub counted : WorldValue → WorldValue
counted w = record w { steps = w.steps + 1 }
