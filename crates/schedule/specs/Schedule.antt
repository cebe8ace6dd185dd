-- What is still to come in a run.
use Rattle.std.specs.Prelude.{◌+◌, ◌≤◌, ◌<◌, ℕ, List, All, Option, None, IfSome, length}
use Rattle.packet_links.specs.Links.{LinksValue, idle_links}
use Rattle.script.specs.Spelling.{IsLine}
use Rattle.script.specs.declared.script.Line.{Line}
use Rattle.schedule.specs.declared.choice.Phase.{Phase}
use Rattle.schedule.specs.declared.choice.Phase.TheVariants.{Delivers, Ticks}
use Rattle.schedule.specs.declared.choice.Settle.{Settle}
use Rattle.schedule.specs.declared.stops.ArmedStops.{ArmedStops}

-- the lines that are not carried out yet, each with its number; the packets that wait, by link; the stops that are
-- armed; and the `settle` that is under way
pub record ScheduleValue : Type 0 where
  pub lines : List (ℕ × Line)
  pub links : LinksValue
  pub stops : ArmedStops
  pub settle : Option Settle

-- the most steps that a `settle` makes: its budget where each of 255 clients has a call outstanding
abbrev pub most_steps : ℕ
most_steps = 17825792

-- no more nodes have ticked than were due
abbrev pub IsPhase : Phase → Type 0
IsPhase Delivers = Unit {0}
IsPhase (Ticks due made) = made ≤ length due

-- a `settle` that is under way: each round of ticks that it began made a step
pub record IsSettle (settle : Settle) : Type 0 where
  pub rounds : settle.cycles + settle.left ≤ most_steps
  pub quiet : settle.quiet < 8
  pub phase : IsPhase settle.phase

-- a further step is due in it
pub record MayGoOn (settle : Settle) : Type 0 where
  pub rounds : settle.cycles + settle.left ≤ most_steps + 1
  pub quiet : settle.quiet < 8
  pub phase : IsPhase settle.phase

-- the lines are such as a script spells
pub record IsSchedule (s : ScheduleValue) : Type 0 where
  pub lines : All (λ line. IsLine line.1) s.lines
  pub settle : IfSome s.settle IsSettle

-- no line is carried out yet
abbrev pub begun : List (ℕ × Line) → ScheduleValue
begun lines = record { lines = lines; links = idle_links; stops = record { a = None; b = None }; settle = None }
