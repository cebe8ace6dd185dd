-- What a client answers and sends in a step.
use Rattle.std.specs.Prelude.{◌≡◌, ◌∷◌, ◌++◌, [], ℕ, Bool, true, false, if◌then◌else◌, List, Option, Some, None, map}
use Rattle.cal_base.specs.declared.identity.NodeId.{NodeId}
use Rattle.cal_base.specs.declared.identity.NodeId.TheVariants.{Client, Server}
use Rattle.message.specs.declared.message.Message.{Message}
use Rattle.message.specs.declared.message.Message.TheVariants.{Grant}
use Rattle.token_kind.specs.declared.grant_item.GrantItem.{GrantItem}
use Rattle.tree_law.specs.declared.call.Call.{Call}
use Rattle.tree_law.specs.declared.entry.Entry.{Entry}
use Rattle.tree_law.specs.declared.entry.Entry.TheVariants.{Call as Called}
use Rattle.tree_law.specs.declared.reply.Reply.{Reply}
use Rattle.tree_law.specs.Change.{is_change}
use Rattle.cluster_law.specs.declared.step.Answer.{Answer}
use Rattle.cluster_law.specs.Book.{Book, is_passed_over, with_item}
use Rattle.cluster_law.specs.ClientState.{ClientState, Turn, Takes, client_after, hears, reply_in}
use Rattle.cluster_law.specs.History.{client_at, sight_at, turn}
use Rattle.cluster_law.specs.Lanes.{Act, Mounts, Tells, Commits, Drops}
use Rattle.cluster_law.specs.Noted.{Setting, Noted}
use Rattle.cluster_law.specs.Owed.{owed, tale_of}
use Rattle.cluster_law.specs.Sight.{Sight}

-- all messages of a step, in order
unfoldable pub messages_of : List Act → List Message
messages_of [] = []
messages_of (Mounts volume ∷ before) = messages_of before
messages_of (Tells lane message ∷ before) = messages_of before ++ message ∷ []
messages_of (Commits commit ∷ before) = messages_of before
messages_of (Drops ∷ before) = messages_of before

-- a fact of a client's step; a fact of every other step
abbrev pub OfClient : Option NodeId → (ℕ → Type 0) → Type 0
OfClient None P = Unit {0}
OfClient (Some (Client c)) P = P c.0
OfClient (Some (Server s)) P = Unit {0}

abbrev pub OfOthers : Option NodeId → Type 0 → Type 0
OfOthers None P = P
OfOthers (Some (Client c)) P = Unit {0}
OfOthers (Some (Server s)) P = P

abbrev pub answer_with : ℕ → Option Reply → Option Answer
answer_with number None = None
answer_with number (Some reply) = Some (record { number = number; reply = reply })

-- a call that the client answers by itself has its entry in the step; that of a change stands where it was committed
abbrev pub own_entry : ℕ → ℕ → Option Call → Option Reply → List Entry
own_entry client number None reply = []
own_entry client number (Some call) None = []
own_entry client number (Some call) (Some reply) = if is_change call then [] else Called (record { 0 = client }) number call reply None ∷ []

-- a client of this state, to which this comes, answers its call and tells the answer's entry
pub record Answers (before after : Sight) (client : ℕ) (old : ClientState) (turn : Turn) (answer : Option Answer) (entries : List Entry) : Type 0 where
  pub answer_is : answer ≡ answer_with (client_after before after old turn).calls (reply_in before after old turn)
  pub entry_is : entries ≡ own_entry client (client_after before after old turn).calls (hears before old turn).call (reply_in before after old turn)

-- a covered call is answered in the step that starts it, or in which it comes to be covered, and a last `close`
-- at once; a change by its Done, and where blocks are wanting by Refuse; no call else
pub record KeepsAnswer (w : Setting) (s : Noted) (earlier : List Noted) : Type 0 where
  pub client : OfClient s.step.node (λ client. Answers (sight_at client earlier) (sight_at client earlier) client (client_at w client earlier) (turn w s earlier) s.step.answer s.step.entries)
  pub others : OfOthers s.step.node (s.step.answer ≡ None)

-- what a client's book gives up is released, what it flushes is sent, or kept back until the client is
-- admitted; what it holds is reported where it is asked; and a call that is left asks for what it needs. It
-- makes these messages in this order, and no other
pub record KeepsRelease (w : Setting) (s : Noted) (earlier : List Noted) : Type 0 where
  pub client : OfClient s.step.node (λ client. map tale_of (messages_of s.acts) ≡ owed (sight_at client earlier) (sight_at client earlier) (client_at w client earlier) (turn w s earlier))

-- no item of a Grant is one that its client passes over
unfoldable pub uses_items : Book → List GrantItem → Bool
uses_items book [] = true
uses_items book (item ∷ items) = if is_passed_over book item then false else uses_items (with_item book item) items

abbrev pub uses_turn : Book → Turn → Bool
uses_turn book (Takes (Grant number items)) = uses_items book items
uses_turn book turn = true
