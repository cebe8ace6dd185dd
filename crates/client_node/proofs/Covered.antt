-- A covered call is answered in the step that starts it.
use Rattle.std.proofs.Common.{◌≡◌, ◌++◌, [], Bool, true, false, if◌then◌else◌, Some, ap, refl, ◌∙◌, map}
use Rattle.client_cache.specs.Covered.{covered}
use Rattle.client_cache.specs.Known.{Known}
use Rattle.client_cache.specs.Next.{next_of as next_known, next_uncovered}
use Rattle.client_cache.specs.declared.next_step.Next.TheVariants.{Answer}
use Rattle.message.specs.Spelling.{message_bytes}
use Rattle.tree_law.specs.declared.call.Call.{Call}
use Rattle.cluster_law.specs.ClientRules.{answer_with}
use Rattle.cluster_law.specs.ClientState.{Starts, own_reply}
use Rattle.cluster_law.specs.declared.node.ClientInput.{ClientInput}
use Rattle.cluster_law.specs.declared.node.ClientInput.TheVariants.{Start, Packet as Comes, Tick, WriteBack}
use Rattle.cluster_law.specs.declared.node.ClientOutput.{ClientOutput}
use Rattle.client_book.specs.Booked.{sight_of}
use Rattle.client_book.specs.Client.{ClientValue, hears_in}
use Rattle.client_book.specs.Made.{messages_in, reply_at, sendable_in, trying_in}
use Rattle.client_node.specs.Node.{NodeValue, hearing_at, turn_in}
use Rattle.client_node.specs.Step.{AnswersCovered, Gives, client_in, packets_with, sent_in}

-- what is done with it is to answer it
answers : (known : Known) (call : Call) → covered known call ≡ true → next_known known call ≡ Answer
answers known call is = ap (λ b. if b then Answer else next_uncovered known call) is

-- without a message
nothing-kept : (moving : Bool) → sendable_in moving [] ≡ []
nothing-kept true = refl
nothing-kept false = refl

no-message : (v : ClientValue) (call : Call) → covered v.memory.known call ≡ true → messages_in v (Starts call) ≡ []
unfolding messages_in hears_in
no-message v call is = ap (λ next. sendable_in v.moving (trying_in (hears_in v (Starts call)) call next)) (answers v.memory.known call is) ∙ nothing-kept v.moving

-- by what is held
own-answer : (v : ClientValue) (call : Call) → covered v.memory.known call ≡ true → reply_at v (Starts call) ≡ Some ((sight_of v.memory.known).reply call)
unfolding reply_at hears_in
own-answer v call is = ap (own_reply (sight_of v.memory.known) call) (answers v.memory.known call is)

-- so a step that starts it sends nothing and answers it
pub at_once : (n : NodeValue) (input : ClientInput) (output : ClientOutput) → Gives n input output → AnswersCovered n input output
unfolding sent_in turn_in hearing_at packets_with
at_once n (Start call) output gives = λ is. record {
  sent = gives.sent ∙ ap (λ messages. packets_with n.session (map message_bytes messages) ++ []) (no-message n.client call is);
  answer = gives.answer ∙ ap (answer_with (client_in n (Start call)).calls) (own-answer n.client call is);
}
at_once n (Comes p) output gives = record {}
at_once n Tick output gives = record {}
at_once n (WriteBack fd) output gives = record {}
