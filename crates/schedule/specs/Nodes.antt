-- The nodes in their order, and what is asked of all of them.
use Rattle.std.specs.Prelude.{◌≡◌, ◌+◌, ◌++◌, ◌∷◌, [], ℕ, zero, suc, Bool, true, false, if◌then◌else◌, nat_lt, List, Option, None}
use Rattle.cal_base.specs.declared.identity.NodeId.{NodeId}
use Rattle.cal_base.specs.declared.identity.NodeId.TheVariants.{Client, Server}
use Rattle.cal_base.specs.declared.identity.ServerId.TheVariants.{A, B}
use Rattle.packet_links.specs.Links.{IsLeast, LinksValue, WaitsFor}
use Rattle.world.specs.Quiet.{TellsIdle}
use Rattle.world.specs.World.{WorldValue, is_busy, runs}

-- the nodes that there can be: 16 clients, A and B
abbrev pub count : ℕ
count = 18

abbrev pub node_of : ℕ → NodeId
node_of number = if nat_lt number 16 then Client (record { 0 = number }) else if nat_lt number 17 then Server A else Server B

-- nodes, and this one where it isn't idle
abbrev pub with_due : List NodeId → NodeId → Bool → List NodeId
with_due due node true = due
with_due due node false = due ++ node ∷ []

-- of the first so many nodes, those that aren't idle
pub data AreDue (w : WorldValue) : ℕ → List NodeId → Type 0 where
  none : AreDue w 0 []
  more : (number : ℕ) (due : List NodeId) (idle : Bool) → AreDue w number due → TellsIdle w (node_of number) idle → AreDue w (number + 1) (with_due due (node_of number) idle)

-- a packet waits for a running node
pub record WaitsToRun (w : WorldValue) (links : LinksValue) (packet : ℕ) : Type 0 where
  pub to : NodeId
  pub running : runs w to ≡ true
  pub waits : WaitsFor links to packet

-- the lowest packet that waits for a node, of which this tells whether it runs
abbrev pub IsFirstIf : Bool → LinksValue → NodeId → Option ℕ → Type 0
IsFirstIf false links to first = first ≡ None
IsFirstIf true links to first = IsLeast (WaitsFor links to) first

-- the lowest packet that waits for a running node; none where no packet does
abbrev pub IsFirstToRunning : WorldValue → LinksValue → Option ℕ → Type 0
IsFirstToRunning w links first = IsLeast (WaitsToRun w links) first

-- one, where it holds
abbrev pub one_if : Bool → ℕ
one_if false = 0
one_if true = 1

-- how many of the first so many clients have a call outstanding
abbrev pub outstanding : WorldValue → ℕ → ℕ
outstanding w zero = 0
outstanding w (suc number) = outstanding w number + one_if (is_busy w (record { 0 = number }))
