-- What a client knows of itself, and how that goes on with what comes to it.
use Rattle.std.specs.Prelude.{◌+◌, ◌&&◌, ◌||◌, ℕ, Bool, true, false, not, nat_eq, if◌then◌else◌, Option, Some, None, is_some, option_map}
use Rattle.std.specs.Option.{option_or}
use Rattle.cal_base.specs.declared.identity.Ino.{Ino}
use Rattle.client_cache.specs.declared.next_step.Next.TheVariants.{Answer, LastClose, Waits, Flushes, Asks}
use Rattle.client_cache.specs.declared.next_step.Next.{Next}
use Rattle.message.specs.declared.message.Message.{Message}
use Rattle.message.specs.declared.message.Message.TheVariants.{Acquire, Grant, Refuse, Change, Done, Flush, Flushed, Revoke, Release, Ask, Piece, Wait, Admit}
use Rattle.token_kind.specs.declared.hold.Hold.TheVariants.{Read}
use Rattle.tree_law.specs.Descriptors.{opened}
use Rattle.tree_law.specs.Needs.{want_of}
use Rattle.tree_law.specs.declared.call.Call.{Call}
use Rattle.tree_law.specs.declared.reply.Reply.{Reply}
use Rattle.tree_law.specs.declared.reply.Reply.TheVariants.{Refused}
use Rattle.tree_law.specs.declared.reply.Why.TheVariants.{NoSpace}
use Rattle.tree_law.specs.declared.request.Want.{Want}
use Rattle.tree_law.specs.Change.{is_change}
use Rattle.cluster_law.specs.Book.{Book, empty_book, flushed, is_flushing, revoked, with_answer, with_flush, with_items}
use Rattle.cluster_law.specs.Coverage.{next_of}
use Rattle.cluster_law.specs.Sight.{Sight, file_if_any}

-- a client that was asked by a server and isn't admitted by it yet is moving; how many calls it has started;
-- the outstanding call; the request for it that isn't answered yet, and whether the server of this view has
-- answered it by Wait; and its book
pub record ClientState : Type 0 where
  pub moving : Bool
  pub calls : ℕ
  pub call : Option Call
  pub request : Option Message
  pub waits : Bool
  pub book : Book

abbrev pub first_client : ClientState
first_client = record { moving = false; calls = 0; call = None; request = None; waits = false; book = empty_book }

-- what comes to a client in a step
pub data Turn : Type 0 where
  Idles : Turn
  Starts : Call → Turn
  WritesBack : ℕ → Turn
  Takes : Message → Turn

-- the file behind a descriptor is flushed, if it is unflushed and no flush of it is under way
abbrev pub written_back : Sight → Book → Option Ino → Book
written_back sight book None = book
written_back sight book (Some ino) = if sight.unflushed ino && not (is_flushing book ino) then with_flush book ino Read Read else book

-- a message is about the outstanding call: a Done of a change, a Grant or a Refuse of another call
abbrev pub is_about : Bool → ℕ → ClientState → Option Call → Bool
is_about change number c None = false
is_about change number c (Some call) = nat_eq number c.calls && (if change then is_change call else not (is_change call))

abbrev pub without_request : Bool → ClientState → ClientState
without_request false c = c
without_request true c = record c { request = None; waits = false }

abbrev pub with_book : ClientState → Book → ClientState
with_book c book = record c { book = book }

-- the client as it has heard what comes, before it tries its call
unfoldable pub hears : Sight → ClientState → Turn → ClientState
hears sight c Idles = c
hears sight c (Starts call) = record c { calls = c.calls + 1; call = Some call }
hears sight c (WritesBack fd) = with_book c (written_back sight c.book (file_if_any (opened sight.table fd)))
hears sight c (Takes (Acquire number want)) = c
hears sight c (Takes (Grant number items)) = with_book (without_request (is_about false number c c.call) c) (with_items c.book items)
hears sight c (Takes (Refuse number free needed)) = c
hears sight c (Takes (Change number call)) = c
hears sight c (Takes (Done number reply)) = c
hears sight c (Takes (Flush flush)) = c
hears sight c (Takes (Flushed number)) = with_book c (flushed sight c.book number)
hears sight c (Takes (Revoke revoke)) = with_book c (revoked sight c.book revoke.ino revoke.items)
hears sight c (Takes (Release release)) = c
hears sight c (Takes Ask) = record c { moving = true; waits = false }
hears sight c (Takes (Piece piece)) = c
hears sight c (Takes (Wait number client)) = record c { waits = c.waits || nat_eq number c.calls && is_some c.request }
hears sight c (Takes Admit) = record c { moving = false; waits = false }

-- after these a client tries its call
abbrev pub is_try : Turn → Bool
is_try Idles = false
is_try (Starts call) = true
is_try (WritesBack fd) = false
is_try (Takes (Grant number items)) = true
is_try (Takes (Flushed number)) = true
is_try (Takes message) = false

-- the reply that the server gives to the outstanding call: that of a change, or that blocks are wanting
abbrev pub reply_if : Bool → Reply → Option Reply
reply_if false reply = None
reply_if true reply = Some reply

abbrev pub told : ClientState → Turn → Option Reply
told c (Takes (Done number reply)) = reply_if (is_about true number c c.call) reply
told c (Takes (Refuse number free needed)) = reply_if (is_about false number c c.call) (Refused (NoSpace free needed))
told c turn = None

-- the request for a call: a change is sent, and for another call what it needs is asked for
abbrev pub acquire_of : ℕ → Want → Message
acquire_of number want = Acquire number want

abbrev pub request_of : Sight → ℕ → Call → Option Message
request_of sight number call = if is_change call then Some (Change number call) else option_map (acquire_of number) (want_of sight.table call)

-- the client's own reply to a call that it tries
abbrev pub own_reply : Sight → Call → Next → Option Reply
own_reply sight call Answer = Some (sight.reply call)
own_reply sight call (LastClose ino) = Some (sight.reply call)
own_reply sight call Waits = None
own_reply sight call (Flushes ino) = None
own_reply sight call Asks = None

abbrev pub finished : ClientState → ClientState
finished c = record c { call = None; request = None; waits = false }

abbrev pub tried : Sight → ClientState → Call → Next → ClientState
tried sight c call Answer = with_book (finished c) (with_answer sight c.book call)
tried sight c call (LastClose ino) = with_book (finished c) (with_answer sight c.book call)
tried sight c call Waits = c
tried sight c call (Flushes ino) = with_book c (with_flush c.book ino Read Read)
tried sight c call Asks = record c { request = option_or c.request (request_of sight c.calls call) }

-- the outstanding call is answered by the server, or tried
abbrev pub reply_to : Bool → Option Reply → Sight → ClientState → Option Call → Option Reply
reply_to try reply sight c None = None
reply_to try (Some reply) sight c (Some call) = Some reply
reply_to true None sight c (Some call) = own_reply sight call (next_of sight c.book call)
reply_to false None sight c (Some call) = None

abbrev pub goes_on_with : Bool → Option Reply → Sight → ClientState → Option Call → ClientState
goes_on_with try reply sight c None = c
goes_on_with try (Some reply) sight c (Some call) = finished c
goes_on_with true None sight c (Some call) = tried sight c call (next_of sight c.book call)
goes_on_with false None sight c (Some call) = c

abbrev pub reply_after : ClientState → Sight → Turn → Option Reply
reply_after c sight turn = reply_to (is_try turn) (told c turn) sight c c.call

abbrev pub state_after : ClientState → Sight → Turn → ClientState
state_after c sight turn = goes_on_with (is_try turn) (told c turn) sight c c.call

-- the reply of a step to the client's outstanding call, if it has one; and the client after the step. It hears
-- what comes by its sight of the files before, and tries its call by that afterwards: in a trace the two are
-- one, and a cache has by then what came with a Grant
unfoldable pub reply_in : Sight → Sight → ClientState → Turn → Option Reply
reply_in before after c turn = reply_after (hears before c turn) after turn

unfoldable pub client_after : Sight → Sight → ClientState → Turn → ClientState
client_after before after c turn = state_after (hears before c turn) after turn
