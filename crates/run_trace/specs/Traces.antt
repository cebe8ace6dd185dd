-- Which runs have a text.
use Rattle.std.specs.Prelude.{◌≡◌, ◌<◌, ◌≤◌, ◌^◌, ℕ, List, [], ◌∷◌, All, Option, Some, None, IsSome, ◌⊎◌, ⊤}
use Rattle.cal_base.specs.declared.identity.ClientId.{ClientId}
use Rattle.cal_base.specs.declared.identity.NodeId.{NodeId}
use Rattle.cal_base.specs.declared.identity.NodeId.TheVariants.{Client, Server}
use Rattle.tree_law.specs.declared.call.Call.{Call}
use Rattle.tree_law.specs.declared.entry.Entry.{Entry}
use Rattle.tree_law.specs.declared.entry.Entry.TheVariants.{Call as Called, Flush, Purge}
use Rattle.token_kind.specs.declared.block.Block.{Block}
use Rattle.session.specs.declared.packet.Packet.{Packet}
use Rattle.message.specs.Range.{IsMessage}
use Rattle.message.specs.Spelling.{message_bytes}
use Rattle.message.specs.declared.message.Message.{Message}
use Rattle.script.specs.Spelling.{IsCall, IsClient, IsWide}
use Rattle.cluster_law.specs.Lists.{numbered}
use Rattle.cluster_law.specs.declared.step.Answer.{Answer}
use Rattle.cluster_law.specs.declared.step.Event.{Event}
use Rattle.cluster_law.specs.declared.step.Event.TheVariants.{Start, Deliver, Tick, Crash, NewView, Gone, WriteBack}
use Rattle.cluster_law.specs.declared.step.Halt.{Halt}
use Rattle.cluster_law.specs.declared.step.TraceStep.{TraceStep}
use Rattle.reply_words.specs.Limits.{IsReplyOf}
use Rattle.trace_lines.specs.Limits.{IsActor, IsHead, IsMade, IsNumber32, IsPacket, IsReason, IsRun, IsStop, IsWrite}
use Rattle.run_trace.specs.Past.{Past, start, after, after_all, calls_with}
use Rattle.run_trace.specs.declared.trace.Trace.{Trace}
use Rattle.run_trace.specs.declared.trace.TraceItem.{TraceItem}
use Rattle.run_trace.specs.declared.trace.TraceItem.TheVariants.{Step, Refused, Settled}

-- an event within its limits: a call is one that a script can spell
abbrev pub IsEvent : Event → Type 0
IsEvent (Start client call) = IsCall call
IsEvent (Deliver packet stop) = IsWide packet × IsStop stop
IsEvent (Tick node stop) = IsStop stop
IsEvent (Crash node) = ⊤
IsEvent (NewView server stop) = IsStop stop
IsEvent (Gone client) = IsClient client
IsEvent (WriteBack client fd) = fd ≤ 255

-- an event that can be this node's, or that of the list of members
abbrev pub IsEventOf : Option NodeId → Event → Type 0
IsEventOf node (Start client call) = node ≡ Some (Client client)
IsEventOf node (Deliver packet stop) = IsSome node
IsEventOf node (Tick own stop) = node ≡ Some own
IsEventOf node (Crash own) = node ≡ Some own
IsEventOf node (NewView server stop) = node ≡ Some (Server server)
IsEventOf node (Gone client) = node ≡ None
IsEventOf node (WriteBack client fd) = node ≡ Some (Client client)

-- the entry of a call tells the call that its client has started under that number, and a reply of its kind
abbrev pub IsEntry : (ClientId → List Call) → Entry → Type 0
IsEntry calls (Called client number call reply new) = IsClient client × IsWide number × IsMade new × (numbered (calls client) number ≡ Some call) × IsReplyOf call reply
IsEntry calls (Flush client ino) = IsClient client × IsNumber32 ino.0
IsEntry calls (Purge client) = IsClient client

-- the spelling of a message
pub record IsSpelling (bytes : List ℕ) : Type 0 where
  pub message : Message
  pub is : IsMessage message
  pub spelled : bytes ≡ message_bytes message

-- a message, or nothing in a bare acknowledgement
abbrev pub IsBody : ℕ → List ℕ → Type 0
IsBody number body = IsSpelling body ⊎ ((number ≡ 0) × (body ≡ []))

abbrev pub IsSent : Packet → Type 0
IsSent packet = IsPacket packet × IsBody packet.seq packet.body

-- the answer to the call that the client has started under that number
pub record IsAnswerTo (calls : List Call) (answer : Answer) : Type 0 where
  pub call : Call
  pub is : numbered calls answer.number ≡ Some call
  pub reply : IsReplyOf call answer.reply

-- a client's answer
abbrev pub IsAnswer : (ClientId → List Call) → Option NodeId → Option Answer → Type 0
IsAnswer calls actor None = ⊤
IsAnswer calls (Some (Client client)) (Some answer) = IsWide answer.number × IsAnswerTo (calls client) answer
IsAnswer calls (Some (Server server)) (Some answer) = ⊥
IsAnswer calls None (Some answer) = ⊥

abbrev pub IsBlocked : Option Block → Type 0
IsBlocked None = ⊤
IsBlocked (Some block) = IsHead block

-- a server's halt
abbrev pub IsHalt : Option NodeId → Option Halt → Type 0
IsHalt actor None = ⊤
IsHalt (Some (Server server)) (Some halt) = IsReason halt
IsHalt (Some (Client client)) (Some halt) = ⊥
IsHalt None (Some halt) = ⊥

-- a step that a text can tell: its event, its answer and its halt can be its node's, each body that is sent is a
-- message, and each entry and answer of a call has its start in or before the step
pub record IsStep (past : Past) (step : TraceStep) : Type 0 where
  pub actor : IsActor step.node
  pub event : IsEvent step.event
  pub own : IsEventOf step.node step.event
  pub writes : All IsWrite step.writes
  pub entries : All (IsEntry (calls_with past step.event)) step.entries
  pub sent : All IsSent step.sent
  pub answer : IsAnswer (calls_with past step.event) step.node step.answer
  pub head : IsBlocked step.head
  pub halt : IsHalt step.node step.halt

abbrev pub IsItem : Past → TraceItem → Type 0
IsItem past (Step step) = IsStep past step
IsItem past (Refused line cause) = IsNumber32 line
IsItem past (Settled line cycles how) = IsNumber32 line × IsWide cycles

-- items, each such that a text can tell it
unfoldable pub AreItems : Past → List TraceItem → Type 0
AreItems past [] = ⊤
AreItems past (item ∷ items) = IsItem past item × AreItems (after past item) items

-- a run that has a text: 1 to 16 clients, a window of 1 to 8, items that a text can tell, and no more steps,
-- packets and views than numbers of 64 bits count
pub record IsTrace (trace : Trace) : Type 0 where
  pub first : IsRun (trace.clients, trace.window)
  pub items : AreItems start trace.items
  pub steps : (after_all start trace.items).steps < 2 ^ 64
  pub packets : (after_all start trace.items).packets < 2 ^ 64
  pub view : (after_all start trace.items).view < 2 ^ 64
