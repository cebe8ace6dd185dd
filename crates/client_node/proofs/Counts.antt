-- The counts of a client's session, and that what stands of a client stands after a step.
use Rattle.std.proofs.Common.{◌≡◌, ◌≤◌, ◌<◌, ◌+◌, ◌*◌, ◌^◌, ◌∷◌, ◌||◌, [], ℕ, Bool, true, false, if◌then◌else◌, List, Option, Some, None, ap, refl, subst, sym, ◌∙◌, arith, length}
use Rattle.std.specs.Prelude.{is_some, nat_lt}
use Rattle.std.specs.Option.{option_to_list}
use Rattle.std.proofs.lemmas.List.{length-map}
use Rattle.cal_base.specs.declared.identity.ClientId.{ClientId}
use Rattle.cal_base.specs.declared.identity.NodeId.TheVariants.{Client, Server}
use Rattle.cal_base.specs.declared.identity.ServerId.TheVariants.{A as ServerA}
use Rattle.client_cache.specs.IsKnown.{IsKnown}
use Rattle.client_cache.specs.Known.{first_known}
use Rattle.client_cache.proofs.KnownLemmas.{first_is}
use Rattle.message.specs.Spelling.{message_bytes}
use Rattle.message.specs.declared.message.Message.{Message}
use Rattle.session.specs.Session.{SessionState, after_packet, after_send, body_of, heard, is_next, is_of_session, new_session, newly_acknowledged}
use Rattle.session.specs.declared.packet.Packet.{Packet}
use Rattle.cluster_law.specs.ClientRules.{own_entry}
use Rattle.cluster_law.specs.ClientState.{Starts, WritesBack}
use Rattle.cluster_law.specs.Ends.{making}
use Rattle.cluster_law.specs.declared.step.Answer.{Answer}
use Rattle.tree_law.specs.declared.call.Call.{Call}
use Rattle.tree_law.specs.declared.entry.Entry.{Entry}
use Rattle.cluster_law.specs.declared.node.ClientInput.{ClientInput}
use Rattle.cluster_law.specs.declared.node.ClientInput.TheVariants.{Start, Packet as Comes, Tick, WriteBack}
use Rattle.cluster_law.specs.declared.node.ClientOutput.{ClientOutput}
use Rattle.client_book.specs.Client.{hears_in}
use Rattle.client_book.specs.Made.{messages_in, reply_at}
use Rattle.client_book.specs.Sound.{HasSpelling, IsFree, KeepsLaw, MayCome, first_value}
use Rattle.client_book.proofs.Amounts.{messages-amount}
use Rattle.client_book.proofs.Counting.{calls-stepped, last-stepped}
use Rattle.client_book.proofs.Saying.{keeps-law}
use Rattle.client_book.proofs.Sounding.{stays-sound}
use Rattle.client_book.proofs.Starting.{first-sound}
use Rattle.client_state.specs.Working.{made_at}
use Rattle.client_state.specs.declared.made.Made.{Made}
use Rattle.client_node.specs.Node.{IsNode, MayStart, NodeValue, hearing_at, message_in, moves, session_for, takes_next, turn_in}
use Rattle.client_node.specs.Step.{Gives, bodies_for, bodies_in, client_in, node_after}

-- a session that is handed bodies keeps its ends, and counts them
pub making-me : (s : SessionState) (bodies : List (List ℕ)) → (making s bodies).me ≡ s.me
making-me s [] = refl
making-me s (body ∷ bodies) = making-me (after_send s body) bodies

pub making-steps : (s : SessionState) (bodies : List (List ℕ)) → (making s bodies).steps ≡ s.steps + length bodies
making-steps s [] = omega arith
making-steps s (body ∷ bodies) = (let rest = making-steps (after_send s body) bodies in omega (arith, rest))

-- one that hears a packet keeps its ends, and counts at most one step more
heard-me : (s : SessionState) (p : Packet) → (heard s p).me ≡ s.me
heard-me s p = by (is_of_session s p)
  where
    by : (b : Bool) → (if b then after_packet s p else s).me ≡ s.me
    by true = refl
    by false = refl

heard-steps : (s : SessionState) (p : Packet) → (heard s p).steps ≤ s.steps + 1
heard-steps s p = by (is_of_session s p)
  where
    one : (b : Bool) → (if b then s.steps + 1 else s.steps) ≤ s.steps + 1
    one true = omega arith
    one false = omega arith

    by : (b : Bool) → (if b then after_packet s p else s).steps ≤ s.steps + 1
    by true = one (is_next s p || nat_lt 0 (newly_acknowledged s p))
    by false = omega arith

-- the session in which a packet is heard
moved-me : (n : NodeValue) (p : Packet) → (session_for n p).me ≡ n.session.me
moved-me n p = by (moves n p)
  where
    by : (b : Bool) → (if b then new_session n.session.me p.from p.view else n.session).me ≡ n.session.me
    by true = refl
    by false = refl

moved-steps : (n : NodeValue) (p : Packet) → (session_for n p).steps ≤ n.session.steps
moved-steps n p = by (moves n p)
  where
    by : (b : Bool) → (if b then new_session n.session.me p.from p.view else n.session).steps ≤ n.session.steps
    by true = omega arith
    by false = omega arith

-- and that in which any input is heard
hearing-me : (n : NodeValue) (input : ClientInput) → (hearing_at n input).me ≡ n.session.me
unfolding hearing_at
hearing-me n (Start call) = refl
hearing-me n (Comes p) = heard-me (session_for n p) p ∙ moved-me n p
hearing-me n Tick = refl
hearing-me n (WriteBack fd) = refl

hearing-steps : (n : NodeValue) (input : ClientInput) → (hearing_at n input).steps ≤ n.session.steps + 1
unfolding hearing_at
hearing-steps n (Start call) = omega arith
hearing-steps n (Comes p) = (let a = heard-steps (session_for n p) p in let b = moved-steps n p in omega (arith, a, b))
hearing-steps n Tick = omega arith
hearing-steps n (WriteBack fd) = omega arith

-- a call that may start finds none outstanding
free-of : (n : NodeValue) (input : ClientInput) → MayStart n input → IsFree n.client (turn_in n input)
unfolding turn_in
free-of n (Start call) may = may.1
free-of n (Comes p) may = by (is_some (body_of (session_for n p) p)) (message_in p)
  where
    by : (next : Bool) (message : Option Message) → IsFree n.client (takes_next next message)
    by false message = tt
    by true None = tt
    by true (Some message) = tt
free-of n Tick may = tt
free-of n (WriteBack fd) may = tt

-- what a session counts stays within what steps allow, but for the Revokes that wait
room : (n : NodeValue) (input : ClientInput) → IsNode n → (hearing_at n input).steps + length (bodies_in n input) + length (client_in n input).memory.remembered ≤ 1024 * n.steps + 514
room n input is =
    let a = hearing-steps n input in
    let b = messages-amount n.client (turn_in n input) is.client in
    let c = length-map (messages_in n.client (turn_in n input)) message_bytes in
    let d = is.messages in
    omega (arith, a, b, c, d)

-- so there is room for what a client is asked
pub calls_room : (n : NodeValue) → IsNode n → n.steps < 2 ^ 48 → n.client.calls < 2 ^ 63
calls_room n is few = (let a = is.calls in omega (arith, a, few))

pub flushes_room : (n : NodeValue) → IsNode n → n.steps < 2 ^ 48 → n.client.memory.known.last_flush + length n.client.memory.remembered < 2 ^ 63
flushes_room n is few = (let a = is.flushes in let b = is.messages in omega (arith, a, b, few))

pub hearing_room : (n : NodeValue) (p : Packet) → IsNode n → n.steps < 2 ^ 48 → (session_for n p).steps < 2 ^ 60
hearing_room n p is few = (let a = moved-steps n p in let b = is.messages in omega (arith, a, b, few))

pub bodies_room : (n : NodeValue) (input : ClientInput) → IsNode n → n.steps < 2 ^ 48 → (hearing_at n input).steps + length (bodies_in n input) < 2 ^ 60
bodies_room n input is few = (let a = room n input is in omega (arith, a, few))

pub start_room : (n : NodeValue) (made : Made) (call : Call) → IsNode n → n.steps < 2 ^ 48 → made ≡ made_at n.client (Starts call) → n.session.steps + length made.bodies < 2 ^ 60
unfolding hearing_at turn_in
start_room n made call is few e = (let same = ap (λ (m : Made). length m.bodies) e in let a = bodies_room n (Start call) is few in omega (arith, same, a))

pub write_back_room : (n : NodeValue) (made : Made) (fd : ℕ) → IsNode n → n.steps < 2 ^ 48 → made ≡ made_at n.client (WritesBack fd) → n.session.steps + length made.bodies < 2 ^ 60
unfolding hearing_at turn_in
write_back_room n made fd is few e = (let same = ap (λ (m : Made). length m.bodies) e in let a = bodies_room n (WriteBack fd) is few in omega (arith, same, a))

pub packet_room : (n moved : NodeValue) (p : Packet) → IsNode n → n.steps < 2 ^ 48 → moved ≡ record n { session = session_for n p } → (heard moved.session p).steps + length (bodies_for moved p (message_in p)) < 2 ^ 60
unfolding hearing_at turn_in
packet_room n moved p is few e = subst (λ (m : NodeValue). (heard m.session p).steps + length (bodies_for m p (message_in p)) < 2 ^ 60) (sym e) (bodies_room n (Comes p) is few)

-- what stands of a client stands after a step
pub node_stays : (n : NodeValue) (input : ClientInput) → IsNode n → n.steps < 2 ^ 48 → MayStart n input → HasSpelling (turn_in n input) → IsKnown (client_in n input).memory.known → IsNode (node_after n input)
node_stays n input is few may spelled known = record {
  me = making-me (hearing_at n input) (bodies_in n input) ∙ hearing-me n input ∙ is.me;
  client = stays-sound n.client (turn_in n input) is.client spelled (free-of n input may) (calls_room n is few) known;
  calls = (let a = calls-stepped n.client (turn_in n input) in let b = is.calls in omega (arith, a, b));
  flushes = (let a = last-stepped n.client (turn_in n input) is.client in let b = is.flushes in omega (arith, a, b));
  messages = (let a = room n input is in let b = making-steps (hearing_at n input) (bodies_in n input) in omega (arith, a, b));
  steps = omega (arith, few);
}

-- and it stands of one that has done nothing yet
pub first_node : (id : ClientId) → IsNode (record { id = id; session = new_session (Client id) (Server ServerA) (record { 0 = 1 }); client = first_value; steps = 0 })
unfolding first_known
first_node id = record {
  me = refl;
  client = first-sound first_is;
  calls = omega arith;
  flushes = omega arith;
  messages = omega arith;
  steps = omega arith;
}

-- a step keeps the law
pub step_keeps : (n : NodeValue) (input : ClientInput) (output : ClientOutput) → IsNode n → HasSpelling (turn_in n input) → Gives n input output → MayCome n.client (turn_in n input)
    → KeepsLaw n.id.0 n.client (client_in n input) (turn_in n input) (messages_in n.client (turn_in n input)) output.answer (option_to_list output.entry)
step_keeps n input output is spelled gives comes =
    subst (λ (entries : List Entry). KeepsLaw n.id.0 n.client (client_in n input) (turn_in n input) (messages_in n.client (turn_in n input)) output.answer entries) (sym gives.entry)
    (subst (λ (answer : Option Answer). KeepsLaw n.id.0 n.client (client_in n input) (turn_in n input) (messages_in n.client (turn_in n input)) answer (own_entry n.id.0 (client_in n input).calls (hears_in n.client (turn_in n input)).call (reply_at n.client (turn_in n input)))) (sym gives.answer)
    (keeps-law n.id.0 n.client (turn_in n input) is.client spelled comes))
