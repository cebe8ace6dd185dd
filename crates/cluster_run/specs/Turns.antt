-- A run, turn by turn: what comes next is chosen, and what can happen of it happens.
use Rattle.std.specs.Prelude.{◌≡◌, ◌⊎◌, ◌+◌, ◌<◌, ◌^◌, ◌++◌, ◌∷◌, [], ℕ, List, Some, None, length}
use Rattle.cluster_law.specs.declared.step.Event.{Event}
use Rattle.cluster_law.specs.declared.step.Event.TheVariants as events
use Rattle.cluster_law.specs.declared.step.TraceStep.{TraceStep}
use Rattle.schedule.specs.Choosing.{Chooses}
use Rattle.schedule.specs.Noted.{after_step}
use Rattle.schedule.specs.Schedule.{ScheduleValue}
use Rattle.schedule.specs.Turns.{turns_left}
use Rattle.schedule.specs.declared.choice.Choice.{Choice}
use Rattle.schedule.specs.declared.choice.Choice.TheVariants.{End, Nothing, Event as Comes, Refused as IsRefused, Settled as HasSettled}
use Rattle.shared_disk.specs.Disk.{Disk}
use Rattle.trace_text.specs.declared.runs.Cause.{Cause}
use Rattle.trace_text.specs.declared.runs.Cause.TheVariants as causes
use Rattle.trace_text.specs.declared.steps.Place.{Place}
use Rattle.world.specs.Made.{HadMoved, IsAsBefore}
use Rattle.world.specs.Refusals.{refusal_of}
use Rattle.world.specs.Step.{StepsSo}
use Rattle.world.specs.Taking.{calls_of}
use Rattle.world.specs.World.{WorldValue}
use Rattle.world.specs.declared.refusals.Refused.{Refused}
use Rattle.world.specs.declared.refusals.Refused.TheVariants.{NoSuch, NoPacket, Dead, Busy, Alive}
use Rattle.cluster_run.specs.Items.{Item, step, refused, settled}

-- a run between two turns: the cluster, what is still to come, the disk, and how often that has failed
pub record Standing : Type 0 where
  pub world : WorldValue
  pub schedule : ScheduleValue
  pub disk : Disk
  pub faults : ℕ

abbrev pub with_schedule : Standing → ScheduleValue → Standing
with_schedule at schedule = record { world = at.world; schedule = schedule; disk = at.disk; faults = at.faults }

abbrev pub cause_of : Refused → Cause
cause_of NoSuch = causes.NoSuch
cause_of NoPacket = causes.NoPacket
cause_of Dead = causes.Dead
cause_of Busy = causes.Busy
cause_of Alive = causes.Alive

-- the number of the call that an event has started; 0 where it starts none
abbrev pub call_in : WorldValue → Event → ℕ
call_in w (events.Start client call) = calls_of w client
call_in w (events.Deliver packet stop) = 0
call_in w (events.Tick node stop) = 0
call_in w (events.Crash node) = 0
call_in w (events.NewView server stop) = 0
call_in w (events.Gone client) = 0
call_in w (events.WriteBack client fd) = 0

-- where a step stands: behind so many steps and packets, with the number of its call and the view that is open
abbrev pub place_of : WorldValue → WorldValue → TraceStep → Place
place_of old new made = record { step = old.steps; packet = length old.packets; call = call_in new made.event; view = new.members.view }

-- an event can't happen: its cause is told, and nothing changes
pub record CantHappen (at : Standing) (number : ℕ) (event : Event) (items : List Item) (new : Standing) : Type 0 where
  pub why : Refused
  pub is_refused : refusal_of at.world event ≡ Some why
  pub told : items ≡ refused number (cause_of why) ∷ []
  pub same : new ≡ at

-- an event happens: the world makes its step, which is told, and notice is taken of it
pub record Happens (at : Standing) (event : Event) (items : List Item) (new : Standing) : Type 0 where
  pub made : TraceStep
  pub allowed : refusal_of at.world event ≡ None
  pub steps : StepsSo at.world at.disk at.faults event made new.world new.disk new.faults
  pub told : items ≡ step (place_of at.world new.world made) made ∷ []
  pub noted : new.schedule ≡ after_step new.world at.schedule (length at.world.packets) made

-- what comes of a choice, once it was made
abbrev pub ComesSo : Standing → Choice → List Item → Standing → Type 0
ComesSo at End items new = ⊥
ComesSo at Nothing items new = (items ≡ []) × (new ≡ at)
ComesSo at (Comes number event) items new = CantHappen at number event items new ⊎ Happens at event items new
ComesSo at (IsRefused number why) items new = (items ≡ refused number (cause_of why) ∷ []) × (new ≡ at)
ComesSo at (HasSettled number cycles how) items new = (items ≡ settled number cycles how ∷ []) × (new ≡ at)

-- a turn, and what is told of it
pub record TakesTurn (old : Standing) (items : List Item) (new : Standing) : Type 0 where
  pub choice : Choice
  pub chosen : ScheduleValue
  pub chooses : Chooses old.world old.schedule choice chosen
  pub comes : ComesSo (with_schedule old chosen) choice items new

-- nothing is left to come
pub record IsOver (at : Standing) : Type 0 where
  pub chosen : ScheduleValue
  pub ends : Chooses at.world at.schedule End chosen

-- turn after turn, with the items that are told of them
pub data Runs (first : Standing) : List Item → Standing → Type 0 where
  begun : Runs first [] first
  turned : (items more : List Item) (at later : Standing) → Runs first items at → TakesTurn at more later → Runs first (more ++ items) later

-- memory ran out in a turn: the disk is as it was, but for its room, or as a step leaves it that isn't told
pub record MovedUntold (at : Standing) (disk : Disk) (faults : ℕ) : Type 0 where
  pub event : Event
  pub moved : HadMoved at.world at.disk at.faults event disk faults

abbrev pub IsLeft : Standing → Disk → ℕ → Type 0
IsLeft at disk faults = IsAsBefore at.disk disk ⊎ MovedUntold at disk faults

-- no more steps will be made than a world has room for
abbrev pub HasRoom : Standing → Type 0
HasRoom at = at.world.steps + turns_left at.schedule < 2 ^ 48
