-- Which events can't happen, and why not.
use Rattle.std.specs.Prelude.{◌≡◌, Bool, true, false, not, Option, Some, None, is_some, slice_get, if◌then◌else◌}
use Rattle.cal_base.specs.declared.identity.ClientId.{ClientId}
use Rattle.cal_base.specs.declared.identity.NodeId.{NodeId}
use Rattle.cal_base.specs.declared.identity.NodeId.TheVariants.{Client, Server}
use Rattle.cluster_law.specs.declared.step.Event.{Event}
use Rattle.cluster_law.specs.declared.step.Event.TheVariants.{Start, Deliver, Tick, Crash, NewView, Gone, WriteBack}
use Rattle.membership.specs.Membership.{standing_of}
use Rattle.membership.specs.declared.standing.Standing.{Standing}
use Rattle.membership.specs.declared.standing.Standing.TheVariants.{Runs as IsUp, Crashed as HasCrashed, Gone as IsGone}
use Rattle.session.specs.declared.packet.Packet.{Packet}
use Rattle.world.specs.World.{WorldValue, is_busy, runs, stands_running}
use Rattle.world.specs.declared.refusals.Refused.{Refused}
use Rattle.world.specs.declared.refusals.Refused.TheVariants.{NoSuch, NoPacket, Dead, Busy, Alive}

-- there is no such client
abbrev pub is_unknown : WorldValue → ClientId → Bool
is_unknown w c = not (is_some (standing_of w.members c))

abbrev pub is_unknown_node : WorldValue → NodeId → Bool
is_unknown_node w (Client c) = is_unknown w c
is_unknown_node w (Server s) = false

-- the event names a client that there isn't
abbrev pub names_nobody : WorldValue → Event → Bool
names_nobody w (Start client call) = is_unknown w client
names_nobody w (Deliver packet stop) = false
names_nobody w (Tick node stop) = is_unknown_node w node
names_nobody w (Crash node) = is_unknown_node w node
names_nobody w (NewView server stop) = false
names_nobody w (Gone client) = is_unknown w client
names_nobody w (WriteBack client fd) = is_unknown w client

-- the packet of a Deliver isn't sent yet
abbrev pub lacks_packet : WorldValue → Event → Bool
lacks_packet w (Start client call) = false
lacks_packet w (Deliver packet stop) = not (is_some (slice_get w.packets packet))
lacks_packet w (Tick node stop) = false
lacks_packet w (Crash node) = false
lacks_packet w (NewView server stop) = false
lacks_packet w (Gone client) = false
lacks_packet w (WriteBack client fd) = false

-- a client is declared gone
abbrev pub stands_gone : Option Standing → Bool
stands_gone None = false
stands_gone (Some IsUp) = false
stands_gone (Some HasCrashed) = false
stands_gone (Some IsGone) = true

-- the receiver of a packet doesn't run
abbrev pub receiver_is_down : WorldValue → Option Packet → Bool
receiver_is_down w None = false
receiver_is_down w (Some packet) = not (runs w packet.to)

-- the client of a Gone is declared already; the node of another event doesn't run
abbrev pub is_dead : WorldValue → Event → Bool
is_dead w (Start client call) = not (runs w (Client client))
is_dead w (Deliver packet stop) = receiver_is_down w (slice_get w.packets packet)
is_dead w (Tick node stop) = not (runs w node)
is_dead w (Crash node) = not (runs w node)
is_dead w (NewView server stop) = false
is_dead w (Gone client) = stands_gone (standing_of w.members client)
is_dead w (WriteBack client fd) = not (runs w (Client client))

-- a call is outstanding where one is to start
abbrev pub starts_while_busy : WorldValue → Event → Bool
starts_while_busy w (Start client call) = is_busy w client
starts_while_busy w (Deliver packet stop) = false
starts_while_busy w (Tick node stop) = false
starts_while_busy w (Crash node) = false
starts_while_busy w (NewView server stop) = false
starts_while_busy w (Gone client) = false
starts_while_busy w (WriteBack client fd) = false

-- the client of a Gone hasn't crashed
abbrev pub declares_the_living : WorldValue → Event → Bool
declares_the_living w (Start client call) = false
declares_the_living w (Deliver packet stop) = false
declares_the_living w (Tick node stop) = false
declares_the_living w (Crash node) = false
declares_the_living w (NewView server stop) = false
declares_the_living w (Gone client) = stands_running (standing_of w.members client)
declares_the_living w (WriteBack client fd) = false

-- why an event can't happen, by the first reason that there is
abbrev pub refusal_of : WorldValue → Event → Option Refused
refusal_of w event = if names_nobody w event then Some NoSuch else if lacks_packet w event then Some NoPacket else if is_dead w event then Some Dead else if starts_while_busy w event then Some Busy else if declares_the_living w event then Some Alive else None

-- an event can happen: no reason is against it
pub record CanHappen (w : WorldValue) (event : Event) : Type 0 where
  pub known : names_nobody w event ≡ false
  pub sent : lacks_packet w event ≡ false
  pub up : is_dead w event ≡ false
  pub free : starts_while_busy w event ≡ false
  pub ended : declares_the_living w event ≡ false
