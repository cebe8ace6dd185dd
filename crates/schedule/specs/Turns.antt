-- That a run ends: how many turns are left at most.
use Rattle.std.specs.Prelude.{◌+◌, ◌*◌, ◌<◌, ℕ, length, Option, Some, None}
use Rattle.schedule.specs.Schedule.{ScheduleValue}
use Rattle.schedule.specs.declared.choice.Choice.{Choice}
use Rattle.schedule.specs.declared.choice.Choice.TheVariants.{End, Nothing, Event, Refused, Settled}
use Rattle.schedule.specs.declared.choice.Phase.{Phase}
use Rattle.schedule.specs.declared.choice.Phase.TheVariants.{Delivers, Ticks}
use Rattle.schedule.specs.declared.choice.Settle.{Settle}

-- two for each step of the longest `settle`, and two more
abbrev pub turns_of_a_line : ℕ
turns_of_a_line = 35651586

abbrev pub turns_of_phase : Phase → ℕ
turns_of_phase Delivers = 1
turns_of_phase (Ticks due made) = 2

abbrev pub turns_of_settle : Option Settle → ℕ
turns_of_settle None = 0
turns_of_settle (Some settle) = settle.left * 2 + turns_of_phase settle.phase

abbrev pub turns_left : ScheduleValue → ℕ
turns_left s = length s.lines * turns_of_a_line + turns_of_settle s.settle

-- each choice but the end leaves fewer turns
abbrev pub LeavesFewer : Choice → ScheduleValue → ScheduleValue → Type 0
LeavesFewer End old new = Unit {0}
LeavesFewer Nothing old new = turns_left new < turns_left old
LeavesFewer (Event line event) old new = turns_left new < turns_left old
LeavesFewer (Refused line why) old new = turns_left new < turns_left old
LeavesFewer (Settled line cycles how) old new = turns_left new < turns_left old
