-- A step of a client: the packets that it sends, and what else it gives.
use Rattle.std.specs.Prelude.{◌≡◌, ◌+◌, ◌++◌, ◌∷◌, [], ◌&&◌, ℕ, Bool, false, true, if◌then◌else◌, nat_lt, List, Option, Some, None, map}
use Rattle.message.specs.declared.message.Message.{Message}
use Rattle.std.specs.Option.{option_to_list}
use Rattle.cal_base.specs.declared.identity.ClientId.{ClientId}
use Rattle.message.specs.Spelling.{message_bytes}
use Rattle.session.specs.Session.{bare_ack_of, heard, is_of_session, let_out, tick_packet}
use Rattle.session.specs.declared.packet.Packet.{Packet}
use Rattle.cluster_law.specs.ClientRules.{answer_with, own_entry}
use Rattle.cluster_law.specs.Ends.{making}
use Rattle.cluster_law.specs.Lists.{is_empty}
unfoldable pub use Rattle.lane_facts.specs.Speaking.{packets_with}
use Rattle.client_cache.specs.Covered.{covered}
use Rattle.tree_law.specs.declared.call.Call.{Call}
use Rattle.tree_law.specs.declared.entry.Entry.{Entry}
use Rattle.client_book.specs.Booked.{sight_of}
use Rattle.client_state.specs.declared.made.Finished.{Finished}
use Rattle.cluster_law.specs.declared.step.Answer.{Answer}
use Rattle.cluster_law.specs.declared.node.ClientInput.{ClientInput}
use Rattle.cluster_law.specs.declared.node.ClientInput.TheVariants.{Start, Packet as Comes, Tick, WriteBack}
use Rattle.cluster_law.specs.declared.node.ClientOutput.{ClientOutput}
use Rattle.client_book.specs.Client.{ClientValue, hears_in, value_after}
use Rattle.client_book.specs.Made.{messages_in, reply_at}
use Rattle.client_node.specs.Node.{NodeValue, brought, hearing_at, session_for, turn_in}

-- the client beside its session after a step, and the bodies of the messages that the step makes
abbrev pub client_in : NodeValue → ClientInput → ClientValue
client_in n input = value_after n.client (turn_in n input)

abbrev pub bodies_in : NodeValue → ClientInput → List (List ℕ)
bodies_in n input = map message_bytes (messages_in n.client (turn_in n input))

-- a client after a step, and before that is counted
abbrev pub goes_on_at : NodeValue → ClientInput → NodeValue
goes_on_at n input = record { id = n.id; session = making (hearing_at n input) (bodies_in n input); client = client_in n input; steps = n.steps }

abbrev pub node_after : NodeValue → ClientInput → NodeValue
node_after n input = record (goes_on_at n input) { steps = n.steps + 1 }

-- only a tick sends again: the oldest message that isn't acknowledged
abbrev pub again : NodeValue → ClientInput → List Packet
again n (Start call) = []
again n (Comes p) = []
again n Tick = option_to_list (tick_packet n.session)
again n (WriteBack fd) = []

-- messages that an acknowledgement lets out of the queue go first, and then those that the step makes
abbrev pub opened : NodeValue → ClientInput → List Packet
opened n (Start call) = []
opened n (Comes p) = let_out (session_for n p) p
opened n Tick = []
opened n (WriteBack fd) = []

abbrev pub fresh : NodeValue → ClientInput → List Packet
fresh n input = opened n input ++ packets_with (hearing_at n input) (bodies_in n input)

-- a packet with a number is heard
abbrev pub has_heard : NodeValue → ClientInput → Bool
has_heard n (Start call) = false
has_heard n (Comes p) = is_of_session (session_for n p) p && nat_lt 0 p.seq
has_heard n Tick = false
has_heard n (WriteBack fd) = false

-- it is acknowledged by itself, where no message goes out
abbrev pub bare_if : Bool → List Packet → Packet → List Packet
bare_if owes sent packet = if owes && is_empty sent then packet ∷ [] else []

abbrev pub bare : NodeValue → ClientInput → List Packet
bare n input = bare_if (has_heard n input) (again n input ++ fresh n input) (bare_ack_of (hearing_at n input))

-- the packets of a step
unfoldable pub sent_in : NodeValue → ClientInput → List Packet
sent_in n input = again n input ++ fresh n input ++ bare n input

-- the answer to a call that is finished, and its entry if the client answered it by itself
abbrev pub answer_for : ℕ → Option Finished → Option Answer
answer_for number None = None
answer_for number (Some finished) = Some (record { number = number; reply = finished.reply })

abbrev pub entry_for : ClientId → ℕ → Option Finished → List Entry
entry_for client number None = []
entry_for client number (Some finished) = own_entry client.0 number (Some finished.call) (Some finished.reply)

-- what a step gives: its packets, the answer to the outstanding call, and the entry of one that the client answered
-- by itself
pub record Gives (n : NodeValue) (input : ClientInput) (output : ClientOutput) : Type 0 where
  pub sent : output.sent ≡ sent_in n input
  pub answer : output.answer ≡ answer_with (client_in n input).calls (reply_at n.client (turn_in n input))
  pub entry : option_to_list output.entry ≡ own_entry n.id.0 (client_in n input).calls (hears_in n.client (turn_in n input)).call (reply_at n.client (turn_in n input))

-- a call that is covered where it starts is answered in that step, by what is held and without a packet
pub record IsAnsweredAtOnce (n : NodeValue) (call : Call) (output : ClientOutput) : Type 0 where
  pub sent : output.sent ≡ []
  pub answer : output.answer ≡ Some (record { number = (client_in n (Start call)).calls; reply = (sight_of n.client.memory.known).reply call })

abbrev pub AnswersCovered : NodeValue → ClientInput → ClientOutput → Type 0
AnswersCovered n (Start call) output = covered n.client.memory.known call ≡ true → IsAnsweredAtOnce n call output
AnswersCovered n (Comes p) output = Unit {0}
AnswersCovered n Tick output = Unit {0}
AnswersCovered n (WriteBack fd) output = Unit {0}

-- a client of this session that hears a packet with this message
abbrev pub bodies_for : NodeValue → Packet → Option Message → List (List ℕ)
bodies_for n p message = map message_bytes (messages_in n.client (brought n.session p message))

abbrev pub hears_packet : NodeValue → Packet → Option Message → NodeValue
hears_packet n p message = record { id = n.id; session = making (heard n.session p) (bodies_for n p message); client = value_after n.client (brought n.session p message); steps = n.steps }

abbrev pub let_go : NodeValue → Packet → Option Message → List Packet
let_go n p message = let_out n.session p ++ packets_with (heard n.session p) (bodies_for n p message)

-- what that gives
pub record GivesBack (n : NodeValue) (p : Packet) (message : Option Message) (output : ClientOutput) : Type 0 where
  pub sent : output.sent ≡ let_go n p message ++ bare_if (is_of_session n.session p && nat_lt 0 p.seq) (let_go n p message) (bare_ack_of (heard n.session p))
  pub answer : output.answer ≡ answer_with (value_after n.client (brought n.session p message)).calls (reply_at n.client (brought n.session p message))
  pub entry : option_to_list output.entry ≡ own_entry n.id.0 (value_after n.client (brought n.session p message)).calls (hears_in n.client (brought n.session p message)).call (reply_at n.client (brought n.session p message))
