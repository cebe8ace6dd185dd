-- What a step makes, and the parts of one: what a client does with its outstanding call, if it has one.
use Rattle.std.specs.Prelude.{◌≡◌, ◌∷◌, ◌<◌, [], true, Option, Some, None, IfSome, map}
use Rattle.std.specs.Option.{option_map, option_or}
use Rattle.cal_base.specs.Limits.{inodes}
use Rattle.cal_base.specs.declared.identity.Ino.{Ino}
use Rattle.client_cache.specs.AfterAnswer.{after_answer}
use Rattle.client_cache.specs.Changes.{after_lower, after_start, new_flush}
use Rattle.client_cache.specs.Covered.{is_answerable}
use Rattle.client_cache.specs.Known.{Known, inode_at, is_settled}
use Rattle.client_cache.specs.Next.{next_of as next_known}
use Rattle.client_cache.specs.declared.next_step.Next.{Next}
use Rattle.message.specs.Spelling.{message_bytes}
use Rattle.message.specs.declared.message.Message.{Message}
use Rattle.message.specs.declared.message.Message.TheVariants.{Release}
use Rattle.token_kind.specs.declared.«class».Class.TheVariants.{Open}
use Rattle.token_kind.specs.declared.hold.Hold.TheVariants.{None as Nothing, Read}
use Rattle.tree_law.specs.declared.call.Call.{Call}
use Rattle.tree_law.specs.declared.reply.Reply.{Reply}
use Rattle.cluster_law.specs.ClientState.{Turn, request_of}
use Rattle.client_book.specs.Booked.{sight_of}
use Rattle.client_book.specs.Client.{ClientValue, finished_in, hears_in, with_known}
use Rattle.client_book.specs.Made.{messages_in, reply_at, reply_to_in, trying_if_in}
use Rattle.outbox.specs.Sending.{Sending, put_all}
use Rattle.client_state.specs.declared.made.Finished.{Finished}
use Rattle.client_state.specs.declared.made.Made.{Made}

-- a call that is answered, with its reply
abbrev pub finished_with : Option Call → Option Reply → Option Finished
finished_with None reply = None
finished_with (Some call) None = None
finished_with (Some call) (Some reply) = Some (record { call = call; reply = reply })

-- what a step makes: the bodies of its messages, and the call that it finishes
abbrev pub finished_at : ClientValue → Turn → Option Finished
finished_at v turn = finished_with (hears_in v turn).call (reply_at v turn)

abbrev pub made_at : ClientValue → Turn → Made
made_at v turn = record { bodies = map message_bytes (messages_in v turn); finished = finished_at v turn }

-- what to do with the outstanding call
abbrev pub next_in : ClientValue → Option Next
next_in v = option_map (next_known v.memory.known) v.call

-- the outstanding call can be answered by what is held
abbrev pub IsOwn : ClientValue → Type 0
IsOwn v = IfSome v.call (λ call. is_answerable v.memory.known call ≡ true)

-- a flush of a file is due: something of it is unflushed, and no flush of it is under way
pub record IsDue (known : Known) (ino : Ino) : Type 0 where
  pub inside : ino.0 < inodes
  pub settled : is_settled known ino ≡ true
  pub unflushed : (inode_at known ino).file.unflushed ≡ true

-- it is answered so
abbrev pub own_finish : ClientValue → Option Call → Option Finished
own_finish v None = None
own_finish v (Some call) = Some (record { call = call; reply = (sight_of v.memory.known).reply call })

abbrev pub answered_with : ClientValue → Option Call → ClientValue
answered_with v None = v
answered_with v (Some call) = with_known (finished_in v) (after_answer v.memory.known call)

-- Open of a file is given back
abbrev pub without_open : ClientValue → Ino → ClientValue
without_open v ino = with_known v (after_lower v.memory.known ino Open Nothing)

abbrev pub open_given_back : Ino → Message
open_given_back ino = Release (record { ino = ino; items = (Open, Nothing) ∷ [] })

-- a flush starts that leaves Read of the bytes and the size of a file
abbrev pub with_flush : ClientValue → Ino → ClientValue
with_flush v ino = with_known v (after_start v.memory.known (new_flush v.memory.known ino Read Read))

-- the request for the outstanding call, and the client once it has asked
abbrev pub request_for : ClientValue → Option Call → Option Message
request_for v None = None
request_for v (Some call) = request_of (sight_of v.memory.known) v.calls call

abbrev pub asked_with : ClientValue → Option Call → ClientValue
asked_with v call = record v { request = option_or v.request (request_for v call) }

-- what a step makes that goes on with the outstanding call, behind what it has made before
abbrev pub made_trying : ClientValue → Sending → Made
made_trying v out = record { bodies = (put_all out (trying_if_in true v v.call)).bodies; finished = finished_with v.call (reply_to_in true None v v.call) }
