-- What comes next in a run.
use Rattle.std.specs.Prelude.{◌≡◌, ℕ, List, [], ◌∷◌, Option, Some, None}
use Rattle.script.specs.declared.script.Line.{Line}
use Rattle.world.specs.Step.{IsSpelled}
use Rattle.world.specs.World.{WorldValue}
use Rattle.schedule.specs.Lines.{Chosen, chosen_by}
use Rattle.schedule.specs.Schedule.{ScheduleValue}
use Rattle.schedule.specs.Settling.{SettlesOn}
use Rattle.schedule.specs.declared.choice.Choice.{Choice}
use Rattle.schedule.specs.declared.choice.Choice.TheVariants.{End, Nothing, Event, Refused, Settled as HasSettled}
use Rattle.schedule.specs.declared.choice.Settle.{Settle}

-- by the next of the lines; the end where none is left
abbrev pub ChoosesLine : WorldValue → ScheduleValue → List (ℕ × Line) → Chosen → Type 0
ChoosesLine w s [] chosen = chosen ≡ record { choice = End; after = s }
ChoosesLine w s (line ∷ lines) chosen = chosen ≡ chosen_by w (record s { lines = lines }) line.0 line.1

abbrev pub ChoosesBy : WorldValue → ScheduleValue → Option Settle → Chosen → Type 0
ChoosesBy w s None chosen = ChoosesLine w s s.lines chosen
ChoosesBy w s (Some settle) chosen = SettlesOn w (record s { settle = None }) settle chosen

-- a turn of the `settle` that is under way, else the next line
abbrev pub Chooses : WorldValue → ScheduleValue → Choice → ScheduleValue → Type 0
Chooses w old choice new = ChoosesBy w old old.settle (record { choice = choice; after = new })

-- a call that starts is one that its grammar spells
abbrev pub HasSpelledEvent : Choice → Type 0
HasSpelledEvent End = Unit {0}
HasSpelledEvent Nothing = Unit {0}
HasSpelledEvent (Event line event) = IsSpelled event
HasSpelledEvent (Refused line why) = Unit {0}
HasSpelledEvent (HasSettled line cycles how) = Unit {0}
