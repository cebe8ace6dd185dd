-- A step of the world: the node of the event makes its step, and what it sends is kept.
use Rattle.std.specs.Prelude.{◌≡◌, ◌⊎◌, ◌+◌, ◌++◌, ◌≤◌, ℕ, true, false, List, Option, Some, None, Result, Ok, Err, length, replicate, slice_get, slice_set}
use Rattle.std.specs.Option.{option_to_list}
use Rattle.cal_base.specs.Limits as limits
use Rattle.cal_base.specs.declared.identity.ClientId.{ClientId}
use Rattle.cal_base.specs.declared.identity.NodeId.{NodeId}
use Rattle.cal_base.specs.declared.identity.NodeId.TheVariants.{Client, Server}
use Rattle.cal_base.specs.declared.identity.ServerId.{ServerId}
use Rattle.cal_base.specs.declared.identity.View.{View}
use Rattle.client_book.specs.Made.{messages_in}
use Rattle.client_book.specs.Sound.{IsCall, KeepsLaw, MayCome}
use Rattle.client_node.specs.Node.{NodeValue as ClientNode, turn_in}
use Rattle.client_node.specs.Step.{AnswersCovered, Gives, node_after}
use Rattle.cluster_law.specs.Noted.{DiskAt}
use Rattle.cluster_law.specs.declared.node.ClientInput.{ClientInput}
use Rattle.cluster_law.specs.declared.node.ClientInput.TheVariants.{Start as Starts, Packet as ComesToClient, Tick as ClientTick, WriteBack as WritesBack}
use Rattle.cluster_law.specs.declared.node.ClientOutput.{ClientOutput}
use Rattle.cluster_law.specs.declared.node.ServerHalted.{ServerHalted}
use Rattle.cluster_law.specs.declared.node.ServerInput.{ServerInput}
use Rattle.cluster_law.specs.declared.node.ServerInput.TheVariants.{Packet as ComesToServer, Tick as ServerTick}
use Rattle.cluster_law.specs.declared.node.ServerOutput.{ServerOutput}
use Rattle.cluster_law.specs.declared.step.Event.{Event}
use Rattle.cluster_law.specs.declared.step.Event.TheVariants.{Start, Deliver, Tick, Crash, NewView, Gone, WriteBack}
use Rattle.cluster_law.specs.declared.step.TraceStep.{TraceStep}
use Rattle.membership.specs.Membership.{Membership, with_standing}
use Rattle.membership.specs.declared.standing.Standing.TheVariants.{Crashed as HasCrashed, Gone as IsGone}
use Rattle.server_node.specs.Node.{IsNew, NodeValue as ServerNode, served}
use Rattle.server_node.specs.Step.{Steps, Stops}
use Rattle.server_start.specs.Boots.{BootEnds}
use Rattle.server_start.specs.Disks.{IsAt, StandsSo}
use Rattle.server_start.specs.declared.stops.StepError.{StepError}
use Rattle.server_start.specs.declared.stops.StepError.TheVariants.{Halted}
use Rattle.session.specs.declared.packet.Packet.{Packet}
use Rattle.shared_disk.specs.Disk.{Disk}
use Rattle.shared_disk.specs.declared.stop.Stop.{Stop}
use Rattle.world.specs.Trace.{bare_step, client_step, halted_step, server_step}
use Rattle.world.specs.World.{WorldValue, client_at, server_at, with_client, with_server}

-- a call that starts is one that its grammar spells
abbrev pub IsSpelled : Event → Type 0
IsSpelled (Start client call) = IsCall call
IsSpelled (Deliver packet stop) = Unit {0}
IsSpelled (Tick node stop) = Unit {0}
IsSpelled (Crash node) = Unit {0}
IsSpelled (NewView server stop) = Unit {0}
IsSpelled (Gone client) = Unit {0}
IsSpelled (WriteBack client fd) = Unit {0}

-- the disk isn't touched
pub record IsUntouched (old : Disk) (faults : ℕ) (new : Disk) (faults' : ℕ) : Type 0 where
  pub same : new ≡ old
  pub unfailed : faults' ≡ faults

-- a client that runs makes one step of its machine with this input: it is the client that the contract of the machine
-- says, and the printed step is what it gave
pub record ClientMakes (old : WorldValue) (c : ClientId) (input : ClientInput) (event : Event) (step : TraceStep) (moved : WorldValue) : Type 0 where
  pub node : ClientNode
  pub running : client_at old c ≡ Some node
  pub next : ClientNode
  pub output : ClientOutput
  pub state : next ≡ node_after node input
  pub gives : Gives node input output
  pub covered : AnswersCovered node input output
  pub law : MayCome node.client (turn_in node input) → KeepsLaw node.id.0 node.client next.client (turn_in node input) (messages_in node.client (turn_in node input)) output.answer (option_to_list output.entry)
  pub step_is : step ≡ client_step c event output
  pub moved_is : moved ≡ with_client old c (Some next)

-- a server that runs makes one step of its machine, and goes on
pub record ServerGoesOn (old : WorldValue) (disk : Disk) (faults : ℕ) (s : ServerId) (input : ServerInput) (stop : Option Stop) (event : Event) (step : TraceStep) (moved : WorldValue) (disk' : Disk) (faults' : ℕ) : Type 0 where
  pub node : ServerNode
  pub running : server_at old s ≡ Some node
  pub next : ServerNode
  pub output : ServerOutput
  pub steps : Steps node old.members input stop disk faults next output disk' faults'
  pub later : faults ≤ faults'
  pub step_is : step ≡ server_step s event output
  pub moved_is : moved ≡ with_server old s (Some next)

-- or it halts, and is gone
pub record ServerHalts (old : WorldValue) (disk : Disk) (faults : ℕ) (s : ServerId) (input : ServerInput) (stop : Option Stop) (event : Event) (step : TraceStep) (moved : WorldValue) (disk' : Disk) (faults' : ℕ) : Type 0 where
  pub node : ServerNode
  pub running : server_at old s ≡ Some node
  pub halted : ServerHalted
  pub stops : Stops node old.members input stop disk faults (Halted halted) disk' faults'
  pub later : faults ≤ faults'
  pub step_is : step ≡ halted_step s event halted
  pub moved_is : moved ≡ with_server old s None

abbrev pub ServerMakes : WorldValue → Disk → ℕ → ServerId → ServerInput → Option Stop → Event → TraceStep → WorldValue → Disk → ℕ → Type 0
ServerMakes old disk faults s input stop event step moved disk' faults' = ServerGoesOn old disk faults s input stop event step moved disk' faults' ⊎ ServerHalts old disk faults s input stop event step moved disk' faults'

-- the world with a packet marked as delivered
abbrev pub delivering : WorldValue → ℕ → WorldValue
delivering w packet = record w { delivered = slice_set w.delivered packet true }

-- a packet comes to its receiver
abbrev pub Receives : WorldValue → Disk → ℕ → NodeId → Packet → Option Stop → Event → TraceStep → WorldValue → Disk → ℕ → Type 0
Receives old disk faults (Client c) packet stop event step moved disk' faults' = ClientMakes old c (ComesToClient packet) event step moved × IsUntouched disk faults disk' faults'
Receives old disk faults (Server s) packet stop event step moved disk' faults' = ServerMakes old disk faults s (ComesToServer packet) stop event step moved disk' faults'

-- a packet that was sent before is delivered
pub record Delivers (old : WorldValue) (disk : Disk) (faults : ℕ) (number : ℕ) (stop : Option Stop) (step : TraceStep) (moved : WorldValue) (disk' : Disk) (faults' : ℕ) : Type 0 where
  pub packet : Packet
  pub was_sent : slice_get old.packets number ≡ Some packet
  pub received : Receives (delivering old number) disk faults packet.to packet stop (Deliver number stop) step moved disk' faults'

-- a node's time for resending is over
abbrev pub Ticks : WorldValue → Disk → ℕ → NodeId → Option Stop → TraceStep → WorldValue → Disk → ℕ → Type 0
Ticks old disk faults (Client c) stop step moved disk' faults' = ClientMakes old c ClientTick (Tick (Client c) stop) step moved × IsUntouched disk faults disk' faults'
Ticks old disk faults (Server s) stop step moved disk' faults' = ServerMakes old disk faults s ServerTick stop (Tick (Server s) stop) step moved disk' faults'

-- a node ends
abbrev pub crashed : WorldValue → NodeId → WorldValue
crashed w (Client c) = record w { clients = slice_set w.clients c.0 None; members = with_standing w.members c HasCrashed }
crashed w (Server s) = with_server w s None

-- a crashed client is declared gone
abbrev pub declared : WorldValue → ClientId → WorldValue
declared w c = record w { members = with_standing w.members c IsGone }

-- a step in which no machine moves
pub record IsNoted (node : Option NodeId) (event : Event) (step : TraceStep) (after moved : WorldValue) : Type 0 where
  pub step_is : step ≡ bare_step node event
  pub moved_is : moved ≡ after

-- the next view is opened with a server, whose node ends if it runs
abbrev pub next_view : Membership → View
next_view m = record { 0 = m.view.0 + 1 }

abbrev pub opening : WorldValue → ServerId → WorldValue
opening w s = with_server (record w { members = record w.members { view = next_view w.members; server = s } }) s None

-- how the boot of a server for the next view ended, on a disk that tells its sectors
abbrev pub BootsSo : WorldValue → Disk → ℕ → ServerId → Option Stop → Result (ServerNode × ServerOutput) StepError → Disk → ℕ → Type 0
BootsSo old disk faults s stop booted disk' faults' = (before : DiskAt) → IsAt disk faults before → length before.sectors ≡ limits.sectors → StandsSo disk' faults' (BootEnds s (next_view old.members) old.window stop before (served booted))

-- a server boots for the next view, and serves it
pub record ServerBoots (old : WorldValue) (disk : Disk) (faults : ℕ) (s : ServerId) (stop : Option Stop) (step : TraceStep) (moved : WorldValue) (disk' : Disk) (faults' : ℕ) : Type 0 where
  pub node : ServerNode
  pub output : ServerOutput
  pub is_new : IsNew s node
  pub booted : BootsSo old disk faults s stop (Ok (node, output)) disk' faults'
  pub step_is : step ≡ server_step s (NewView s stop) output
  pub moved_is : moved ≡ with_server (opening old s) s (Some node)

-- or it halts, and doesn't run
pub record BootHalts (old : WorldValue) (disk : Disk) (faults : ℕ) (s : ServerId) (stop : Option Stop) (step : TraceStep) (moved : WorldValue) (disk' : Disk) (faults' : ℕ) : Type 0 where
  pub halted : ServerHalted
  pub booted : BootsSo old disk faults s stop (Err (Halted halted)) disk' faults'
  pub step_is : step ≡ halted_step s (NewView s stop) halted
  pub moved_is : moved ≡ opening old s

abbrev pub Opens : WorldValue → Disk → ℕ → ServerId → Option Stop → TraceStep → WorldValue → Disk → ℕ → Type 0
Opens old disk faults s stop step moved disk' faults' = ServerBoots old disk faults s stop step moved disk' faults' ⊎ BootHalts old disk faults s stop step moved disk' faults'

-- what the node of an event does, by the event
abbrev pub Makes : WorldValue → Disk → ℕ → Event → TraceStep → WorldValue → Disk → ℕ → Type 0
Makes old disk faults (Start client call) step moved disk' faults' = ClientMakes old client (Starts call) (Start client call) step moved × IsUntouched disk faults disk' faults'
Makes old disk faults (Deliver packet stop) step moved disk' faults' = Delivers old disk faults packet stop step moved disk' faults'
Makes old disk faults (Tick node stop) step moved disk' faults' = Ticks old disk faults node stop step moved disk' faults'
Makes old disk faults (Crash node) step moved disk' faults' = IsNoted (Some node) (Crash node) step (crashed old node) moved × IsUntouched disk faults disk' faults'
Makes old disk faults (NewView server stop) step moved disk' faults' = Opens old disk faults server stop step moved disk' faults'
Makes old disk faults (Gone client) step moved disk' faults' = IsNoted None (Gone client) step (declared old client) moved × IsUntouched disk faults disk' faults'
Makes old disk faults (WriteBack client fd) step moved disk' faults' = ClientMakes old client (WritesBack fd) (WriteBack client fd) step moved × IsUntouched disk faults disk' faults'

-- the world once these packets were sent, and one more step was made
abbrev pub keeping : WorldValue → List Packet → WorldValue
keeping w sent = record w { packets = w.packets ++ sent; delivered = w.delivered ++ replicate (length sent) false; steps = w.steps + 1 }

-- a step of the world
pub record StepsSo (old : WorldValue) (disk : Disk) (faults : ℕ) (event : Event) (step : TraceStep) (new : WorldValue) (disk' : Disk) (faults' : ℕ) : Type 0 where
  pub moved : WorldValue
  pub makes : Makes old disk faults event step moved disk' faults'
  pub keeps : new ≡ keeping moved step.sent
