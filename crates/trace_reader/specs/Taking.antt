-- What is read behind a line.
use Rattle.std.specs.Prelude.{◌≡◌, ℕ, List, [], get_or, Option, Some}
use Rattle.cal_base.specs.declared.identity.ClientId.{ClientId}
use Rattle.cal_base.specs.declared.identity.Ino.{Ino}
use Rattle.cal_base.specs.declared.identity.NodeId.{NodeId}
use Rattle.cal_base.specs.declared.identity.ServerId.{ServerId}
use Rattle.cal_base.specs.declared.identity.NodeId.TheVariants.{Client, Server}
use Rattle.tree_law.specs.declared.call.Call.{Call}
use Rattle.tree_law.specs.declared.entry.Entry.TheVariants.{Call as Called, Flush, Purge}
use Rattle.tree_law.specs.declared.reply.Reply.{Reply}
use Rattle.reply_text.specs.Text.{reply_text}
use Rattle.session.specs.declared.packet.Packet.{Packet}
use Rattle.cluster_law.specs.Lists.{numbered}
use Rattle.cluster_law.specs.declared.step.Event.{Event}
use Rattle.cluster_law.specs.declared.step.Halt.{Halt}
use Rattle.cluster_law.specs.declared.step.TraceStep.{TraceStep}
use Rattle.reply_words.specs.Limits.{IsReplyOf}
use Rattle.trace_lines.specs.declared.line.StepEvent.{StepEvent}
use Rattle.trace_lines.specs.declared.line.TraceLine.{TraceLine}
use Rattle.trace_lines.specs.declared.line.TraceLine.TheVariants.{Step, Write, CallEntry, FlushEntry, PurgeEntry, Send, Answer, Head, Halt as Halted, Refused, Settled}
use Rattle.run_trace.specs.Traces.{IsBody}
use Rattle.run_trace.specs.declared.trace.TraceItem.TheVariants.{Refused as RefusedItem, Settled as SettledItem}
use Rattle.trace_reader.specs.Adding.{begun, event_of, in_step, passed, with_answer, with_entry, with_halt, with_head, with_sent, with_write}
use Rattle.trace_reader.specs.declared.reading.Reading.{Reading}

-- the first line of a step, of an event that can be its node's
pub record TakesStep (reading : Reading) (actor : Option NodeId) (event : StepEvent) (next : Reading) : Type 0 where
  pub told : Event
  pub is : event_of actor event ≡ Some told
  pub next_is : next ≡ begun reading actor told

-- a line of the step under way changes it so
pub record Changes (reading : Reading) (change : TraceStep → TraceStep) (next : Reading) : Type 0 where
  pub step : TraceStep
  pub is : reading.step ≡ Some step
  pub next_is : next ≡ in_step reading (change step)

-- a reply to the call that this client has started under this number
pub record TellsReply (calls : List (List Call)) (client : ClientId) (number : ℕ) (text : List ℕ) (call : Call) (reply : Reply) : Type 0 where
  pub started : numbered (get_or calls client.0 []) number ≡ Some call
  pub kind : IsReplyOf call reply
  pub spelled : reply_text reply ≡ text

-- the entry of a call
pub record TakesCall (reading : Reading) (client : ClientId) (number : ℕ) (new : Option Ino) (text : List ℕ) (next : Reading) : Type 0 where
  pub call : Call
  pub reply : Reply
  pub tells : TellsReply reading.calls client number text call reply
  pub changes : Changes reading (λ step. with_entry step (Called client number call reply new)) next

-- the step under way is this node's
pub record IsStepOf (reading : Reading) (node : NodeId) : Type 0 where
  pub step : TraceStep
  pub is : reading.step ≡ Some step
  pub node_is : step.node ≡ Some node

-- a packet that carries a message, or nothing in a bare acknowledgement
pub record TakesSend (reading : Reading) (packet : Packet) (next : Reading) : Type 0 where
  pub body : IsBody packet.seq packet.body
  pub changes : Changes reading (λ step. with_sent step packet) next

-- an answer of the client whose step it is
pub record TakesAnswer (reading : Reading) (client : ClientId) (number : ℕ) (text : List ℕ) (next : Reading) : Type 0 where
  pub call : Call
  pub reply : Reply
  pub tells : TellsReply reading.calls client number text call reply
  pub own : IsStepOf reading (Client client)
  pub changes : Changes reading (λ step. with_answer step (record { number = number; reply = reply })) next

-- a halt of the server whose step it is
pub record TakesHalt (reading : Reading) (halt : Halt) (next : Reading) : Type 0 where
  pub server : ServerId
  pub own : IsStepOf reading (Server server)
  pub changes : Changes reading (λ step. with_halt step halt) next

-- what is read behind a line
abbrev pub Takes : Reading → TraceLine → Reading → Type 0
Takes reading (Step index actor event) next = TakesStep reading actor event next
Takes reading (Write write) next = Changes reading (λ step. with_write step write) next
Takes reading (CallEntry client number new text) next = TakesCall reading client number new text next
Takes reading (FlushEntry client ino) next = Changes reading (λ step. with_entry step (Flush client ino)) next
Takes reading (PurgeEntry client) next = Changes reading (λ step. with_entry step (Purge client)) next
Takes reading (Send number packet) next = TakesSend reading packet next
Takes reading (Answer client number text) next = TakesAnswer reading client number text next
Takes reading (Head block) next = Changes reading (λ step. with_head step block) next
Takes reading (Halted actor halt) next = TakesHalt reading halt next
Takes reading (Refused line cause) next = next ≡ passed reading (RefusedItem line cause)
Takes reading (Settled line cycles how) next = next ≡ passed reading (SettledItem line cycles how)
