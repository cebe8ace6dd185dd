-- What the turns of a client that do nothing come to, and what a step gives.
use Rattle.std.proofs.Common.{◌≡◌, ◌++◌, [], ℕ, Bool, true, false, List, Option, Some, None, ap, refl, subst, sym, ◌∙◌, ◌&&◌, nat_lt, map}
use Rattle.std.specs.Prelude.{IfSome, is_some}
use Rattle.std.specs.Option.{option_to_list}
use Rattle.message.specs.Range.{IsMessage}
use Rattle.client_book.specs.Sound.{HasSpelling}
use Rattle.std.proofs.lemmas.List.{append-nil}
use Rattle.cal_base.specs.declared.identity.ClientId.{ClientId}
use Rattle.message.specs.Spelling.{message_bytes}
use Rattle.message.specs.declared.message.Message.{Message}
use Rattle.session.specs.Session.{SessionState, bare_ack_of, body_of, heard, is_of_session, let_out, tick_packet}
use Rattle.session.specs.declared.packet.Packet.{Packet}
use Rattle.tree_law.specs.declared.call.Call.{Call}
use Rattle.tree_law.specs.declared.reply.Reply.{Reply}
use Rattle.cluster_law.specs.ClientRules.{answer_with, own_entry}
use Rattle.cluster_law.specs.ClientState.{Turn, Idles, Starts, WritesBack, is_try, told}
use Rattle.cluster_law.specs.Ends.{making}
use Rattle.cluster_law.specs.declared.node.ClientInput.TheVariants.{Start, Packet as Comes, Tick, WriteBack}
use Rattle.cluster_law.specs.declared.node.ClientOutput.{ClientOutput}
use Rattle.client_book.specs.Client.{ClientValue, goes_on_in, hears_in, state_of, value_after}
use Rattle.client_book.specs.Made.{messages_in, reply_at, reply_to_in, sendable_in}
use Rattle.client_state.specs.Working.{finished_at, finished_with, made_at}
use Rattle.client_state.specs.declared.made.Made.{Made}
use Rattle.client_node.specs.Node.{NodeValue, brought, hearing_at, message_in, session_for, takes_next, turn_in}
use Rattle.client_node.specs.Step.{Gives, GivesBack, answer_for, bare_if, entry_for, goes_on_at, hears_packet, packets_with, sent_in}

-- a client to which nothing comes is as it was
pub idle_value : (v : ClientValue) → value_after v Idles ≡ v
unfolding value_after hears_in
idle_value v = by v.call
  where
    by : (o : Option Call) → goes_on_in false None v o ≡ v
    by None = refl
    by (Some call) = refl

-- it makes no message
pub idle_messages : (v : ClientValue) → messages_in v Idles ≡ []
unfolding messages_in hears_in
idle_messages v = by v.moving
  where
    by : (b : Bool) → sendable_in b [] ≡ []
    by false = refl
    by true = refl

-- and has no reply
pub idle_reply : (v : ClientValue) → reply_at v Idles ≡ None
unfolding reply_at hears_in
idle_reply v = by v.call
  where
    by : (o : Option Call) → reply_to_in false None v o ≡ None
    by None = refl
    by (Some call) = refl

no-reply : (o : Option Call) → finished_with o None ≡ None
no-reply None = refl
no-reply (Some call) = refl

-- what it makes is nothing
pub idle_made : (v : ClientValue) → made_at v Idles ≡ record { bodies = []; finished = None }
idle_made v = λ i. record {
  bodies = map message_bytes (idle_messages v i);
  finished = (ap (finished_with (hears_in v Idles).call) (idle_reply v) ∙ no-reply (hears_in v Idles).call) i;
}

-- a client that ticks is as it was
pub ticks_on : (n : NodeValue) → n ≡ goes_on_at n Tick
unfolding turn_in hearing_at
ticks_on n = sym (λ i. record { id = n.id; session = making n.session (map message_bytes (idle_messages n.client i)); client = idle_value n.client i; steps = n.steps })

-- the packets of a step that hears no packet
pub sent_start : (n : NodeValue) (call : Call) → packets_with n.session (map message_bytes (messages_in n.client (Starts call))) ≡ sent_in n (Start call)
unfolding sent_in turn_in hearing_at
sent_start n call = sym (append-nil _)

pub sent_write_back : (n : NodeValue) (fd : ℕ) → packets_with n.session (map message_bytes (messages_in n.client (WritesBack fd))) ≡ sent_in n (WriteBack fd)
unfolding sent_in turn_in hearing_at
sent_write_back n fd = sym (append-nil _)

pub sent_tick : (n : NodeValue) → option_to_list (tick_packet n.session) ≡ sent_in n Tick
unfolding sent_in turn_in hearing_at packets_with
sent_tick n = sym (append-nil _ ∙ ap (λ (messages : List Message). option_to_list (tick_packet n.session) ++ packets_with n.session (map message_bytes messages)) (idle_messages n.client) ∙ append-nil _)

-- where no call is outstanding there is no reply
no-call : (try : Bool) (reply : Option Reply) (v : ClientValue) (o : Option Call) → finished_with o (reply_to_in try reply v o) ≡ None → reply_to_in try reply v o ≡ None
no-call try reply v None e = refl
no-call try (Some reply) v (Some call) e = absurd (cc)
no-call true None v (Some call) e = by _ e
  where
    by : (reply : Option Reply) → finished_with (Some call) reply ≡ None → reply ≡ None
    by None e = refl
    by (Some reply) e = absurd (cc)
no-call false None v (Some call) e = refl

-- the answer to a call that is finished is that of the reply
answer-of : (number : ℕ) (call : Call) (reply : Option Reply) → answer_for number (finished_with (Some call) reply) ≡ answer_with number reply
answer-of number call None = refl
answer-of number call (Some reply) = refl

answer-by : (number : ℕ) (try : Bool) (reply : Option Reply) (v : ClientValue) (o : Option Call) → answer_for number (finished_with o (reply_to_in try reply v o)) ≡ answer_with number (reply_to_in try reply v o)
answer-by number try reply v None = refl
answer-by number try reply v (Some call) = answer-of number call (reply_to_in try reply v (Some call))

pub answered : (number : ℕ) (v : ClientValue) (turn : Turn) → answer_for number (finished_at v turn) ≡ answer_with number (reply_at v turn)
unfolding reply_at
answered number v turn = answer-by number (is_try turn) (told (state_of (hears_in v turn)) turn) (hears_in v turn) (hears_in v turn).call

-- and so is its entry
entry-of : (client : ClientId) (number : ℕ) (o : Option Call) (reply : Option Reply) → entry_for client number (finished_with o reply) ≡ own_entry client.0 number o reply
entry-of client number None reply = refl
entry-of client number (Some call) None = refl
entry-of client number (Some call) (Some reply) = refl

pub entered : (client : ClientId) (number : ℕ) (v : ClientValue) (turn : Turn) → entry_for client number (finished_at v turn) ≡ own_entry client.0 number (hears_in v turn).call (reply_at v turn)
entered client number v turn = entry-of client number (hears_in v turn).call (reply_at v turn)

-- the answer and the entry of a step, by the client after it and what it made
answer-made : (v after : ClientValue) (turn : Turn) (made : Made) → after ≡ value_after v turn → made ≡ made_at v turn → answer_for after.calls made.finished ≡ answer_with (value_after v turn).calls (reply_at v turn)
answer-made v after turn made e is =
    ap (λ (k : ClientValue). answer_for k.calls made.finished) e
    ∙ ap (λ (m : Made). answer_for (value_after v turn).calls m.finished) is
    ∙ answered (value_after v turn).calls v turn

entry-made : (client : ClientId) (v after : ClientValue) (turn : Turn) (made : Made) → after ≡ value_after v turn → made ≡ made_at v turn
    → entry_for client after.calls made.finished ≡ own_entry client.0 (value_after v turn).calls (hears_in v turn).call (reply_at v turn)
entry-made client v after turn made e is =
    ap (λ (k : ClientValue). entry_for client k.calls made.finished) e
    ∙ ap (λ (m : Made). entry_for client (value_after v turn).calls m.finished) is
    ∙ entered client (value_after v turn).calls v turn

-- what a step gives that starts a call, or writes a file back, by the client after it and what it made
pub gives_start : (n : NodeValue) (call : Call) (after : ClientValue) (made : Made) (first : List Packet) (output : ClientOutput) → after ≡ value_after n.client (Starts call) → made ≡ made_at n.client (Starts call)
    → first ≡ [] → output.sent ≡ first ++ packets_with n.session made.bodies → output.answer ≡ answer_for after.calls made.finished → option_to_list output.entry ≡ entry_for n.id after.calls made.finished → Gives n (Start call) output
unfolding turn_in
gives_start n call after made first output e is none sent answer entry = record {
  sent = sent ∙ ap (λ (list : List Packet). list ++ packets_with n.session made.bodies) none ∙ ap (λ (m : Made). packets_with n.session m.bodies) is ∙ sent_start n call;
  answer = answer ∙ answer-made n.client after (Starts call) made e is;
  entry = entry ∙ entry-made n.id n.client after (Starts call) made e is;
}

pub gives_write_back : (n : NodeValue) (fd : ℕ) (after : ClientValue) (made : Made) (first : List Packet) (output : ClientOutput) → after ≡ value_after n.client (WritesBack fd) → made ≡ made_at n.client (WritesBack fd)
    → first ≡ [] → output.sent ≡ first ++ packets_with n.session made.bodies → output.answer ≡ answer_for after.calls made.finished → option_to_list output.entry ≡ entry_for n.id after.calls made.finished → Gives n (WriteBack fd) output
unfolding turn_in
gives_write_back n fd after made first output e is none sent answer entry = record {
  sent = sent ∙ ap (λ (list : List Packet). list ++ packets_with n.session made.bodies) none ∙ ap (λ (m : Made). packets_with n.session m.bodies) is ∙ sent_write_back n fd;
  answer = answer ∙ answer-made n.client after (WritesBack fd) made e is;
  entry = entry ∙ entry-made n.id n.client after (WritesBack fd) made e is;
}

-- what a tick gives
pub gives_tick : (n : NodeValue) (output : ClientOutput) → output.sent ≡ option_to_list (tick_packet n.session) → output.answer ≡ None → option_to_list output.entry ≡ [] → Gives n Tick output
unfolding turn_in
gives_tick n output sent answer entry = record {
  sent = sent ∙ sent_tick n;
  answer = answer ∙ ap (answer_with (value_after n.client Idles).calls) (sym (idle_reply n.client));
  entry = entry ∙ sym (no-entry (hears_in n.client Idles).call) ∙ ap (own_entry n.id.0 (value_after n.client Idles).calls (hears_in n.client Idles).call) (sym (idle_reply n.client));
}
  where
    no-entry : (o : Option Call) → own_entry n.id.0 (value_after n.client Idles).calls o None ≡ []
    no-entry None = refl
    no-entry (Some call) = refl

-- what a client gives that hears a packet in its session, by the packets that went out before the bare acknowledgement
pub gives_back : (n : NodeValue) (p : Packet) (message : Option Message) (after : ClientValue) (made : Made) (first : List Packet) (output : ClientOutput)
    → after ≡ value_after n.client (brought n.session p message) → made ≡ made_at n.client (brought n.session p message)
    → first ≡ let_out n.session p ++ packets_with (heard n.session p) made.bodies
    → output.sent ≡ first ++ bare_if (is_of_session n.session p && nat_lt 0 p.seq) first (bare_ack_of (heard n.session p))
    → output.answer ≡ answer_for after.calls made.finished → option_to_list output.entry ≡ entry_for n.id after.calls made.finished → GivesBack n p message output
gives_back n p message after made first output e is before sent answer entry = record {
  sent = sent ∙ ap (λ (list : List Packet). list ++ bare_if (is_of_session n.session p && nat_lt 0 p.seq) list (bare_ack_of (heard n.session p)))
      (before ∙ ap (λ (m : Made). let_out n.session p ++ packets_with (heard n.session p) m.bodies) is);
  answer = answer ∙ answer-made n.client after (brought n.session p message) made e is;
  entry = entry ∙ entry-made n.id n.client after (brought n.session p message) made e is;
}

-- so it is by the parts of the step: what the session makes of the packet, and the client of its message
pub gives_by : (n between : NodeValue) (p : Packet) (message : Option Message) (s : SessionState) (body : Option (List ℕ)) (next owes : Bool) (bare : Packet) (opened first : List Packet) (made : Made) (output : ClientOutput)
    → owes ≡ (is_of_session n.session p && nat_lt 0 p.seq) → s ≡ heard n.session p → body ≡ body_of n.session p → opened ≡ let_out n.session p → bare ≡ bare_ack_of s → next ≡ is_some body
    → between ≡ record { id = n.id; session = s; client = value_after n.client (takes_next next message); steps = n.steps } → made ≡ made_at n.client (takes_next next message)
    → first ≡ opened ++ packets_with between.session made.bodies → output.sent ≡ first ++ bare_if owes first bare
    → output.answer ≡ answer_for between.client.calls made.finished → option_to_list output.entry ≡ entry_for between.id between.client.calls made.finished → GivesBack n p message output
gives_by n between p message s body next owes bare opened first made output owed heard_is body_is opened_is bare_is next_is here made_is before sent answer entry =
    let turn : takes_next next message ≡ brought n.session p message = ap (λ (b : Bool). takes_next b message) (next_is ∙ ap (λ (o : Option (List ℕ)). is_some o) body_is) in
    let session : between.session ≡ heard n.session p = ap (λ (k : NodeValue). k.session) here ∙ heard_is in
    let client : between.client ≡ value_after n.client (brought n.session p message) = ap (λ (k : NodeValue). k.client) here ∙ ap (value_after n.client) turn in
    let id : between.id ≡ n.id = ap (λ (k : NodeValue). k.id) here in
    let bare : bare ≡ bare_ack_of (heard n.session p) = bare_is ∙ ap (λ (k : SessionState). bare_ack_of k) heard_is in
    gives_back n p message between.client made first output client (made_is ∙ ap (made_at n.client) turn)
    (before ∙ (λ i. opened_is i ++ packets_with (session i) made.bodies))
    (sent ∙ (λ i. first ++ bare_if (owed i) first (bare i)))
    answer
    (entry ∙ ap (λ (k : ClientId). entry_for k between.client.calls made.finished) id)

-- where the packet first moves the client, this is the step
pub gives_heard : (n moved : NodeValue) (p : Packet) (output : ClientOutput) → moved ≡ record n { session = session_for n p } → GivesBack moved p (message_in p) output → Gives n (Comes p) output
unfolding turn_in hearing_at sent_in
gives_heard n moved p output is back = by (subst (λ (m : NodeValue). GivesBack m p (message_in p) output) is back)
  where
    by : GivesBack (record n { session = session_for n p }) p (message_in p) output → Gives n (Comes p) output
    by b = record { sent = b.sent; answer = b.answer; entry = b.entry }

pub heard_on : (n moved after : NodeValue) (p : Packet) → moved ≡ record n { session = session_for n p } → after ≡ hears_packet moved p (message_in p) → after ≡ goes_on_at n (Comes p)
unfolding turn_in hearing_at
heard_on n moved after p is e = e ∙ ap (λ (m : NodeValue). hears_packet m p (message_in p)) is

-- what a packet brings is spelled
pub spelled_turn : (n : NodeValue) (p : Packet) (message : Option Message) → message ≡ message_in p → IfSome message IsMessage → HasSpelling (turn_in n (Comes p))
unfolding turn_in
spelled_turn n p message e is = by (is_some (body_of (session_for n p) p)) (message_in p) (subst (λ (m : Option Message). IfSome m IsMessage) e is)
  where
    by : (next : Bool) (m : Option Message) → IfSome m IsMessage → HasSpelling (takes_next next m)
    by false m is = tt
    by true None is = tt
    by true (Some m) is = is
