-- What stands before an item of a run.
use Rattle.std.specs.Prelude.{◌==◌, ℕ, ◌+◌, List, [], ◌∷◌, ◌++◌, length, if◌then◌else◌}
use Rattle.cal_base.specs.declared.identity.ClientId.{ClientId}
use Rattle.tree_law.specs.declared.call.Call.{Call}
use Rattle.cluster_law.specs.declared.step.Event.{Event}
use Rattle.cluster_law.specs.declared.step.Event.TheVariants.{Start, Deliver, Tick, Crash, NewView, Gone, WriteBack}
use Rattle.cluster_law.specs.declared.step.TraceStep.{TraceStep}
use Rattle.trace_text.specs.declared.steps.Place.{Place}
use Rattle.run_trace.specs.declared.trace.TraceItem.{TraceItem}
use Rattle.run_trace.specs.declared.trace.TraceItem.TheVariants.{Step, Refused, Settled}

-- what the items so far come to: how many steps there were, how many packets were sent, the view that is
-- open, and the calls that each client has started, in order
pub record Past : Type 0 where
  pub steps : ℕ
  pub packets : ℕ
  pub view : ℕ
  pub calls : ClientId → List Call

-- before the first item: view 1 is open
abbrev pub start : Past
start = record {
  steps = 0;
  packets = 0;
  view = 1;
  calls = λ client. [];
}

-- whether an event opens a view, as a number
abbrev pub views_by : Event → ℕ
views_by (Start client call) = 0
views_by (Deliver packet stop) = 0
views_by (Tick node stop) = 0
views_by (Crash node) = 0
views_by (NewView server stop) = 1
views_by (Gone client) = 0
views_by (WriteBack client fd) = 0

-- the call that a client starts by an event, if it starts one
abbrev pub calls_by : ClientId → Event → List Call
calls_by client (Start starter call) = if client.0 == starter.0 then call ∷ [] else []
calls_by client (Deliver packet stop) = []
calls_by client (Tick node stop) = []
calls_by client (Crash node) = []
calls_by client (NewView server stop) = []
calls_by client (Gone gone) = []
calls_by client (WriteBack writer fd) = []

-- the calls that a client has started before an event or by it
abbrev pub calls_with : Past → Event → ClientId → List Call
calls_with past event client = past.calls client ++ calls_by client event

-- behind a step
abbrev pub after_step : Past → TraceStep → Past
after_step past step = record {
  steps = past.steps + 1;
  packets = past.packets + length step.sent;
  view = past.view + views_by step.event;
  calls = calls_with past step.event;
}

-- behind an item
abbrev pub after : Past → TraceItem → Past
after past (Step step) = after_step past step
after past (Refused line cause) = past
after past (Settled line cycles how) = past

-- behind items
unfoldable pub after_all : Past → List TraceItem → Past
after_all past [] = past
after_all past (item ∷ items) = after_all (after past item) items

-- the number of the call that an event starts; 0 where it starts none
abbrev pub number_of : Past → Event → ℕ
number_of past (Start client call) = length (past.calls client) + 1
number_of past (Deliver packet stop) = 0
number_of past (Tick node stop) = 0
number_of past (Crash node) = 0
number_of past (NewView server stop) = 0
number_of past (Gone client) = 0
number_of past (WriteBack client fd) = 0

-- the place of a step: its index, the number of its first packet, that of the call that it starts, and the
-- view that it opens
abbrev pub place_of : Past → Event → Place
place_of past event = record {
  step = past.steps;
  packet = past.packets;
  call = number_of past event;
  view = record { 0 = past.view + 1 };
}
