-- All lines of a step.
use Rattle.std.specs.Prelude.{ℕ, List, [], ◌∷◌, ◌++◌, codes, Option, Some, None}
use Rattle.std.specs.Fmt.{decimal}
use Rattle.cal_base.specs.declared.identity.ClientId.{ClientId}
use Rattle.cal_base.specs.declared.identity.Ino.{Ino}
use Rattle.cal_base.specs.declared.identity.NodeId.TheVariants.{Client}
use Rattle.tree_law.specs.declared.call.Call.{Call}
use Rattle.tree_law.specs.declared.reply.Reply.{Reply}
use Rattle.tree_law.specs.declared.entry.Entry.TheVariants.{Call as Called}
use Rattle.cluster_law.specs.declared.step.Event.TheVariants.{Start}
use Rattle.cluster_law.specs.declared.step.TraceStep.{TraceStep}
use Rattle.trace_text.specs.declared.steps.Place.{Place}
use Rattle.trace_text.specs.Line.{line, actor_word}
use Rattle.trace_text.specs.Entries.{entries_text, answer_text}
use Rattle.trace_text.specs.Events.{event_text}
use Rattle.trace_text.specs.Packets.{packets_text}
use Rattle.trace_text.specs.Sectors.{writes_text}
use Rattle.trace_text.specs.Serving.{head_text, halt_text}

-- a step's index, whose it is, and its event
abbrev pub step_line : Place → TraceStep → List ℕ
step_line place step = codes "step " ++ decimal place.step ++ codes " " ++ actor_word step.node ++ codes " " ++ event_text place.call place.view.0 step.event

-- what the step did to the disk and the file tree
abbrev pub deeds_text : TraceStep → List ℕ
deeds_text step = writes_text step.writes ++ entries_text step.entries

-- what the node says: the answer to a client's call, what blocks the head of a server's line, or why it halts
abbrev pub words_text : TraceStep → List ℕ
words_text step = answer_text step.node step.answer ++ head_text step.head ++ halt_text step.node step.halt

-- the lines of a step that stands at this place of its run: the event, the writes, the entries, the packets,
-- the answer, the head and the halt
abbrev pub step_text : Place → TraceStep → List ℕ
step_text place step = line (step_line place step) ++ deeds_text step ++ packets_text place.packet step.sent ++ words_text step

-- a client starts a call and answers it in the same step, without a packet
abbrev pub covered_step : ClientId → ℕ → Call → Reply → Option Ino → TraceStep
covered_step client number call reply new = record {
  node = Some (Client client);
  event = Start client call;
  writes = [];
  entries = Called client number call reply new ∷ [];
  sent = [];
  answer = Some (record { number = number; reply = reply });
  head = None;
  halt = None;
}
