-- How a call of the world ends: a new world, and a step that was made or wasn't.
use Rattle.std.specs.Prelude.{◌≡◌, ◌<◌, ◌⊎◌, [], ℕ, Some, None, Result, Ok, Err}
use Rattle.cal_base.specs.declared.identity.ClientId.{ClientId}
use Rattle.cal_base.specs.declared.identity.NodeId.TheVariants.{Client, Server}
use Rattle.cal_base.specs.declared.identity.ServerId.TheVariants.{A}
use Rattle.client_book.specs.Sound.{first_value}
use Rattle.client_node.specs.Node.{NodeValue as ClientNode}
use Rattle.cluster_law.specs.declared.step.Event.{Event}
use Rattle.cluster_law.specs.declared.step.TraceStep.{TraceStep}
use Rattle.membership.specs.Membership.{formed}
use Rattle.server_node.specs.Node.{IsNew, NodeValue as ServerNode, started_of}
use Rattle.server_start.specs.Formats.{Formats, ServesFresh}
use Rattle.server_start.specs.declared.stops.FormatError.{FormatError}
use Rattle.session.specs.Session.{new_session}
use Rattle.shared_disk.specs.Disk.{Disk}
use Rattle.world.specs.Refusals.{refusal_of}
use Rattle.world.specs.Step.{IsUntouched, Makes}
use Rattle.world.specs.World.{WorldValue, client_at}
use Rattle.world.specs.declared.refusals.Refused.{Refused}
use Rattle.world.specs.declared.refusals.StepRefused.{StepRefused}
use Rattle.world.specs.declared.refusals.StepRefused.TheVariants.{Refused as IsRefused, OutOfMemory}

-- a client that has done nothing yet, in view 1 of server A
abbrev pub new_client : ClientId → ClientNode
new_client c = record { id = c; session = new_session (Client c) (Server A) (record { 0 = 1 }); client = first_value; steps = 0 }

-- a world as it begins: all clients run and have done nothing, server A serves the volume that it formatted, and
-- nothing was sent
pub record Begins (clients window : ℕ) (w : WorldValue) : Type 0 where
  pub window_is : w.window ≡ window
  pub members_are : w.members ≡ formed clients
  pub clients_run : (c : ClientId) → c.0 < clients → client_at w c ≡ Some (new_client c)
  pub server : ServerNode
  pub server_runs : w.a ≡ Some server
  pub is_new : IsNew A server
  pub serves : ServesFresh A clients window (started_of server)
  pub alone : w.b ≡ None
  pub unsent : w.packets ≡ []
  pub undelivered : w.delivered ≡ []
  pub unmoved : w.steps ≡ 0

-- the disk of a world that was made, or wasn't: server A formatted it, or the format ended with this error
abbrev pub FormatsFor : ℕ → Disk → ℕ → Result WorldValue FormatError → Disk → ℕ → Type 0
FormatsFor clients disk faults (Ok w) disk' faults' = (server : ServerNode) → w.a ≡ Some server → Formats clients disk faults (Ok (started_of server)) disk' faults'
FormatsFor clients disk faults (Err error) disk' faults' = Formats clients disk faults (Err error) disk' faults'

-- the disk is as it was, its room apart
abbrev pub IsAsBefore : Disk → Disk → Type 0
IsAsBefore disk disk' = disk' ≡ record disk { room = disk'.room }

-- the node had made its step when memory ran out
pub record HadMoved (old : WorldValue) (disk : Disk) (faults : ℕ) (event : Event) (disk' : Disk) (faults' : ℕ) : Type 0 where
  pub step : TraceStep
  pub moved : WorldValue
  pub makes : Makes old disk faults event step moved disk' faults'

-- an event can't happen: nothing has changed
pub record CantHappen (old : WorldValue) (disk : Disk) (faults : ℕ) (event : Event) (why : Refused) (new : WorldValue) (disk' : Disk) (faults' : ℕ) : Type 0 where
  pub refused : refusal_of old event ≡ Some why
  pub same : new ≡ old
  pub untouched : IsUntouched disk faults disk' faults'

-- memory ran out in a step that could be made: the disk is as it was, or as that step leaves it
pub record RanOut (old : WorldValue) (disk : Disk) (faults : ℕ) (event : Event) (disk' : Disk) (faults' : ℕ) : Type 0 where
  pub allowed : refusal_of old event ≡ None
  pub left : IsAsBefore disk disk' ⊎ HadMoved old disk faults event disk' faults'

-- why no step was made, and what is left
abbrev pub NotMade : WorldValue → Disk → ℕ → Event → StepRefused → WorldValue → Disk → ℕ → Type 0
NotMade old disk faults event (IsRefused why) new disk' faults' = CantHappen old disk faults event why new disk' faults'
NotMade old disk faults event OutOfMemory new disk' faults' = RanOut old disk faults event disk' faults'
