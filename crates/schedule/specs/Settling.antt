-- What comes next in a `settle`: packets to running nodes are delivered, the lowest first, until none waits; then the
-- nodes that aren't idle tick, each once; and so on until no node is due, until eight rounds in a row have come to
-- nothing, or until a further step is due and none is left.
use Rattle.std.specs.Prelude.{◌≡◌, ◌+◌, ◌-◌, ◌||◌, [], ◌∷◌, ℕ, false, nat_eq, if◌then◌else◌, List, Option, Some, None, slice_get}
use Rattle.cal_base.specs.declared.identity.NodeId.{NodeId}
use Rattle.cluster_law.specs.declared.step.Event.{Event}
use Rattle.trace_text.specs.declared.runs.Settled.{Settled}
use Rattle.trace_text.specs.declared.runs.Settled.TheVariants.{Idle, Stuck, Spent}
use Rattle.world.specs.Taking.{takes}
use Rattle.world.specs.World.{WorldValue}
use Rattle.schedule.specs.Lines.{Chosen, becomes, delivery, happens, tick}
use Rattle.schedule.specs.Nodes as nodes
use Rattle.schedule.specs.Nodes.{AreDue, IsFirstToRunning}
use Rattle.schedule.specs.Schedule.{ScheduleValue}
use Rattle.schedule.specs.declared.choice.Choice.TheVariants.{Settled as HasSettled}
use Rattle.schedule.specs.declared.choice.Phase.{Phase}
use Rattle.schedule.specs.declared.choice.Phase.TheVariants.{Delivers, Ticks}
use Rattle.schedule.specs.declared.choice.Settle.{Settle}

-- the `settle` ends
abbrev pub ends : ScheduleValue → Settle → Settled → Chosen
ends s settle how = record { choice = HasSettled settle.line settle.cycles how; after = record s { settle = None } }

-- a further step is due: it is made, or the `settle` ends where none is left
abbrev pub goes_on : ScheduleValue → Settle → Event → Chosen
goes_on s settle event = if nat_eq settle.left 0 then ends s settle Spent else happens (record s { settle = Some (record settle { left = settle.left - 1 }) }) settle.line event

-- a packet is delivered; a message that is taken is something
abbrev pub delivers : WorldValue → ScheduleValue → Settle → ℕ → Chosen
delivers w s settle packet = goes_on s (record settle { moved = settle.moved || takes w packet }) (delivery w s packet)

-- the rounds in a row that have come to nothing, where this one is over
abbrev pub quiet_after : Settle → ℕ
quiet_after settle = if settle.moved then 0 else settle.quiet + 1

-- a round of ticks is over: packets are delivered again, or the `settle` ends where eight rounds came to nothing
abbrev pub ends_round : ScheduleValue → Settle → Chosen
ends_round s settle = if nat_eq (quiet_after settle) 8 then ends s settle Stuck else becomes (record s { settle = Some (record settle { quiet = quiet_after settle; moved = false; phase = Delivers }) })

-- a node that is due ticks
abbrev pub ticks_node : ScheduleValue → Settle → NodeId → Chosen
ticks_node s settle node = goes_on s settle (tick s node)

-- of the nodes that are due, of which so many have ticked, the next one ticks, or the round is over
abbrev pub ticks_one : ScheduleValue → Settle → List NodeId → ℕ → Option NodeId → Chosen
ticks_one s settle due made None = ends_round s settle
ticks_one s settle due made (Some node) = ticks_node s (record settle { phase = Ticks due (made + 1) }) node

abbrev pub ticks_next : ScheduleValue → Settle → List NodeId → ℕ → Chosen
ticks_next s settle due made = ticks_one s settle due made (slice_get due made)

-- a round of ticks begins, or the `settle` ends where no node is due
abbrev pub begins_round : ScheduleValue → Settle → List NodeId → Chosen
begins_round s settle [] = ends s settle Idle
begins_round s settle (node ∷ due) = ticks_node s (record settle { cycles = settle.cycles + 1; phase = Ticks (node ∷ due) 1 }) node

-- no packet waits for a running node
pub record RoundBegins (w : WorldValue) (s : ScheduleValue) (settle : Settle) (chosen : Chosen) : Type 0 where
  pub due : List NodeId
  pub are_due : AreDue w nodes.count due
  pub chosen_is : chosen ≡ begins_round s settle due

abbrev pub DeliversNext : WorldValue → ScheduleValue → Settle → Option ℕ → Chosen → Type 0
DeliversNext w s settle None chosen = RoundBegins w s settle chosen
DeliversNext w s settle (Some packet) chosen = chosen ≡ delivers w s settle packet

-- the lowest packet that waits for a running node is delivered, or a round of ticks begins
pub record Goes (w : WorldValue) (s : ScheduleValue) (settle : Settle) (chosen : Chosen) : Type 0 where
  pub first : Option ℕ
  pub is_first : IsFirstToRunning w s.links first
  pub next : DeliversNext w s settle first chosen

-- what comes next in a `settle` that is at this
abbrev pub SettlesIn : WorldValue → ScheduleValue → Settle → Phase → Chosen → Type 0
SettlesIn w s settle Delivers chosen = Goes w s settle chosen
SettlesIn w s settle (Ticks due made) chosen = chosen ≡ ticks_next s settle due made

abbrev pub SettlesOn : WorldValue → ScheduleValue → Settle → Chosen → Type 0
SettlesOn w s settle chosen = SettlesIn w s settle settle.phase chosen
