-- What it means that a node is idle.
use Rattle.std.specs.Prelude.{◌≡◌, ◌↔◌, [], Bool, Option, Some, None, IsTrue}
use Rattle.cal_base.specs.declared.identity.NodeId.{NodeId}
use Rattle.cal_base.specs.declared.identity.NodeId.TheVariants.{Client, Server}
use Rattle.client_node.specs.Node.{NodeValue as ClientNode}
use Rattle.cluster_law.specs.ServerState.{ServerState}
use Rattle.membership.specs.Membership.{Membership}
use Rattle.server_desk.specs.Desk.{IsLike}
use Rattle.server_node.specs.Node.{NodeValue as ServerNode}
use Rattle.server_node.specs.Quiet.{IsIdle}
use Rattle.session.specs.Session.{unacknowledged}
use Rattle.world.specs.World.{WorldValue, client_at, server_at}

-- a client is idle where all its messages are acknowledged, and where it doesn't run
abbrev pub TellsIdleClient : Option ClientNode → Bool → Type 0
TellsIdleClient None idle = IsTrue idle
TellsIdleClient (Some node) idle = IsTrue idle ↔ (unacknowledged node.session ≡ [])

-- a server is idle where its tick would neither send nor write, and where it doesn't run
abbrev pub TellsIdleServer : Membership → Option ServerNode → Bool → Type 0
TellsIdleServer members None idle = IsTrue idle
TellsIdleServer members (Some node) idle = (server : ServerState) → IsLike node.desk server → server.volume ≡ node.image → IsTrue idle ↔ IsIdle node members server

abbrev pub TellsIdle : WorldValue → NodeId → Bool → Type 0
TellsIdle w (Client c) idle = TellsIdleClient (client_at w c) idle
TellsIdle w (Server s) idle = TellsIdleServer w.members (server_at w s) idle
