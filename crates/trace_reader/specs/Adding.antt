-- What was read of a run so far, and what a line adds to it.
use Rattle.std.specs.Prelude.{ℕ, List, [], ◌∷◌, ◌++◌, Option, Some, None, get_or, slice_set, replicate}
use Rattle.cal_base.specs.Limits as limits
use Rattle.cal_base.specs.declared.identity.NodeId.{NodeId}
use Rattle.cal_base.specs.declared.identity.NodeId.TheVariants.{Client, Server}
use Rattle.tree_law.specs.declared.call.Call.{Call}
use Rattle.tree_law.specs.declared.entry.Entry.{Entry}
use Rattle.token_kind.specs.declared.block.Block.{Block}
use Rattle.session.specs.declared.packet.Packet.{Packet}
use Rattle.cluster_law.specs.declared.step.Answer.{Answer}
use Rattle.cluster_law.specs.declared.step.Event.{Event}
use Rattle.cluster_law.specs.declared.step.Event.TheVariants.{Start, Deliver, Tick, Crash, NewView, Gone, WriteBack}
use Rattle.cluster_law.specs.declared.step.Halt.{Halt}
use Rattle.cluster_law.specs.declared.step.TraceStep.{TraceStep}
use Rattle.trace_lines.specs.declared.line.StepEvent.{StepEvent}
use Rattle.trace_lines.specs.declared.line.StepEvent.TheVariants.{Start as Starts, Deliver as Delivers, Tick as Ticks, Crash as Crashes, NewView as Opens, Gone as Declares, WriteBack as WritesBack}
use Rattle.run_trace.specs.declared.trace.TraceItem.{TraceItem}
use Rattle.run_trace.specs.declared.trace.TraceItem.TheVariants.{Step}
use Rattle.trace_reader.specs.declared.reading.Reading.{Reading}

-- no call of any client
unfoldable pub no_calls : List (List Call)
no_calls = replicate limits.clients []

-- nothing yet
abbrev pub nothing : Reading
nothing = record { items = []; step = None; calls = no_calls }

-- items with the step under way, if there is one
abbrev pub items_with : List TraceItem → Option TraceStep → List TraceItem
items_with items None = items
items_with items (Some step) = items ++ Step step ∷ []

-- what was read, as items
abbrev pub closed : Reading → List TraceItem
closed reading = items_with reading.items reading.step

-- the event that a node's step line tells, if it can be that node's
abbrev pub event_of : Option NodeId → StepEvent → Option Event
event_of (Some (Client client)) (Starts number call) = Some (Start client call)
event_of (Some (Server server)) (Starts number call) = None
event_of None (Starts number call) = None
event_of (Some actor) (Delivers packet stop) = Some (Deliver packet stop)
event_of None (Delivers packet stop) = None
event_of (Some actor) (Ticks stop) = Some (Tick actor stop)
event_of None (Ticks stop) = None
event_of (Some actor) Crashes = Some (Crash actor)
event_of None Crashes = None
event_of (Some (Server server)) (Opens view stop) = Some (NewView server stop)
event_of (Some (Client client)) (Opens view stop) = None
event_of None (Opens view stop) = None
event_of (Some actor) (Declares client) = None
event_of None (Declares client) = Some (Gone client)
event_of (Some (Client client)) (WritesBack fd) = Some (WriteBack client fd)
event_of (Some (Server server)) (WritesBack fd) = None
event_of None (WritesBack fd) = None

-- the calls by client with that which an event starts
abbrev pub noted : List (List Call) → Event → List (List Call)
noted calls (Start client call) = slice_set calls client.0 (get_or calls client.0 [] ++ call ∷ [])
noted calls (Deliver packet stop) = calls
noted calls (Tick node stop) = calls
noted calls (Crash node) = calls
noted calls (NewView server stop) = calls
noted calls (Gone client) = calls
noted calls (WriteBack client fd) = calls

-- a step of which its first line alone is read
abbrev pub bare_step : Option NodeId → Event → TraceStep
bare_step actor event = record {
  node = actor;
  event = event;
  writes = [];
  entries = [];
  sent = [];
  answer = None;
  head = None;
  halt = None;
}

-- a step begins
abbrev pub begun : Reading → Option NodeId → Event → Reading
begun reading actor event = record {
  items = closed reading;
  step = Some (bare_step actor event);
  calls = noted reading.calls event;
}

-- an item that is no step
abbrev pub passed : Reading → TraceItem → Reading
passed reading item = record {
  items = closed reading ++ item ∷ [];
  step = None;
  calls = reading.calls;
}

-- the step under way is this one
abbrev pub in_step : Reading → TraceStep → Reading
in_step reading step = record { items = reading.items; step = Some step; calls = reading.calls }

abbrev pub with_write : TraceStep → ℕ × List ℕ → TraceStep
with_write step write = record step { writes = step.writes ++ write ∷ [] }

abbrev pub with_entry : TraceStep → Entry → TraceStep
with_entry step one = record step { entries = step.entries ++ one ∷ [] }

abbrev pub with_sent : TraceStep → Packet → TraceStep
with_sent step packet = record step { sent = step.sent ++ packet ∷ [] }

abbrev pub with_answer : TraceStep → Answer → TraceStep
with_answer step answer = record step { answer = Some answer }

abbrev pub with_head : TraceStep → Block → TraceStep
with_head step block = record step { head = Some block }

abbrev pub with_halt : TraceStep → Halt → TraceStep
with_halt step halt = record step { halt = Some halt }
