-- What a run does in one turn, as it puts the lines of it.
use Rattle.std.specs.Prelude.{◌≡◌, ◌⊎◌, ◌+◌, ◌-◌, ◌≤◌, ◌<◌, ℕ, List, length, Result, Ok, Err}
use Rattle.cal_base.specs.declared.oom.Oom.{Oom}
use Rattle.cluster_law.specs.declared.step.Event.{Event}
use Rattle.cluster_law.specs.declared.step.TraceStep.{TraceStep}
use Rattle.run_status.specs.declared.printout.PrintError.{PrintError}
use Rattle.schedule.specs.Turns.{turns_left}
use Rattle.schedule.specs.declared.choice.Choice.{Choice}
use Rattle.schedule.specs.declared.choice.Choice.TheVariants.{End}
use Rattle.trace_text.specs.declared.steps.Place.{Place}
use Rattle.world.specs.World.{WorldValue}
use Rattle.cluster_run.specs.Items.{Item, items_text}
use Rattle.cluster_run.specs.Turns.{CantHappen, ComesSo, Happens, HasRoom, IsLeft, Standing, call_in}
use Rattle.cluster_run.specs.declared.run.Turn.{Turn}
use Rattle.cluster_run.specs.declared.run.Turn.TheVariants.{GoesOn, Ends}

-- a step was made, and its packets were sent
pub record IsCounted (w : WorldValue) (made : TraceStep) : Type 0 where
  pub steps : 1 ≤ w.steps
  pub packets : length made.sent ≤ length w.packets

-- where a step stands that was just made
abbrev pub place_after : WorldValue → TraceStep → Place
place_after w made = record { step = w.steps - 1; packet = length w.packets - length made.sent; call = call_in w made.event; view = w.members.view }

-- an event happened or couldn't, and its lines were put
pub record HappensSo (at : Standing) (number : ℕ) (event : Event) (text : List ℕ) (new : Standing) : Type 0 where
  pub items : List Item
  pub comes : CantHappen at number event items new ⊎ Happens at event items new
  pub told : text ≡ items_text items

-- a choice was carried out, and its lines were put
pub record CarriesOut (at : Standing) (choice : Choice) (text : List ℕ) (new : Standing) : Type 0 where
  pub items : List Item
  pub comes : ComesSo at choice items new
  pub told : text ≡ items_text items

-- nothing was left to come
pub record Stays (at : Standing) (choice : Choice) (new : Standing) : Type 0 where
  pub is_end : choice ≡ End
  pub same : new ≡ at

-- what a choice comes to
abbrev pub CarriesSo : Standing → Choice → Result Turn Oom → List ℕ → Standing → Type 0
CarriesSo at choice (Ok GoesOn) text new = CarriesOut at choice text new
CarriesSo at choice (Ok Ends) text new = Stays at choice new
CarriesSo at choice (Err oom) text new = IsLeft at new.disk new.faults

-- at most one step was made, and no more turns are left
pub record MakesOneStep (at new : Standing) : Type 0 where
  pub steps : new.world.steps ≤ at.world.steps + 1
  pub turns : turns_left new.schedule ≤ turns_left at.schedule

-- a run that goes on has fewer turns left, and room for their steps
pub record GoesFurther (at new : Standing) : Type 0 where
  pub room : HasRoom new
  pub sooner : turns_left new.schedule < turns_left at.schedule

abbrev pub KeepsRoom : Standing → Result Turn PrintError → Standing → Type 0
KeepsRoom at (Ok GoesOn) new = GoesFurther at new
KeepsRoom at (Ok Ends) new = Unit {0}
KeepsRoom at (Err error) new = Unit {0}
