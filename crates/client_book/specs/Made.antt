-- The messages that a client makes in a step, and its reply to its call, at its own values.
use Rattle.std.specs.Prelude.{◌++◌, ◌∷◌, [], ℕ, Bool, true, false, not, if◌then◌else◌, List, Option, Some, None, filter, map, option_to_list}
use Rattle.cal_base.specs.declared.identity.Ino.{Ino}
use Rattle.client_cache.specs.Changes.{after_flushed, flush_numbered, new_flush}
use Rattle.client_cache.specs.Known.{Known, inode_at, is_settled}
use Rattle.client_cache.specs.Next.{next_of as next_known}
use Rattle.client_cache.specs.Reports.{reports}
use Rattle.client_cache.specs.declared.next_step.Next.{Next}
use Rattle.client_cache.specs.declared.next_step.Next.TheVariants.{Answer, LastClose, Waits, Flushes, Asks}
use Rattle.message.specs.declared.message.Message.{Message}
use Rattle.message.specs.declared.message.Message.TheVariants.{Flush, Flushed, Revoke, Release, Ask, Piece, Admit}
use Rattle.report.specs.Report.{pieces_of}
use Rattle.token_kind.specs.declared.«class».Class.TheVariants.{Data, Attr, Open}
use Rattle.token_kind.specs.declared.«class».Class.{Class}
use Rattle.token_kind.specs.declared.flush.Flush.{Flush as FlushRecord}
use Rattle.token_kind.specs.declared.hold.Hold.{Hold}
use Rattle.token_kind.specs.declared.hold.Hold.TheVariants.{None as Nothing, Read}
use Rattle.token_kind.specs.declared.piece.Piece.{Piece as PieceRecord}
use Rattle.token_kind.specs.declared.revoke.Revoke.{Revoke as Waiting}
use Rattle.tree_law.specs.Descriptors.{opened}
use Rattle.tree_law.specs.declared.call.Call.{Call}
use Rattle.tree_law.specs.declared.reply.Reply.{Reply}
use Rattle.cluster_law.specs.Book.{Lowering, Ignores, Remembers, Flushes as FlushesFirst, Lowers, asked_or_read}
use Rattle.cluster_law.specs.ClientState.{Turn, WritesBack, Takes, is_try, own_reply, request_of, told}
use Rattle.cluster_law.specs.Sight.{file_if_any}
use Rattle.client_book.specs.Booked.{sight_of}
use Rattle.client_book.specs.Client.{ClientValue, hears_in, state_of}
use Rattle.client_book.specs.Memory.{Memory, above_in, is_behind, lowering_in, revoked_in}

abbrev pub flush_message : FlushRecord → Message
flush_message flush = Flush flush

abbrev pub piece_message : PieceRecord → Message
piece_message piece = Piece piece

-- a Revoke is carried out: a Release of what is lowered, or a flush that leaves it
abbrev pub lowered_messages : Lowering → Known → Ino → List (Class × Hold) → List Message
lowered_messages Ignores known ino asked = []
lowered_messages Remembers known ino asked = []
lowered_messages FlushesFirst known ino asked = Flush (new_flush known ino (asked_or_read Data asked) (asked_or_read Attr asked)) ∷ []
lowered_messages Lowers known ino asked = Release (record { ino = ino; items = asked }) ∷ []

abbrev pub revoking_in : Known → Ino → List (Class × Hold) → List Message
revoking_in known ino asked = lowered_messages (lowering_in known ino asked) known ino (above_in known ino asked)

unfoldable pub revoking_all_in : Memory → List Waiting → List Message
revoking_all_in m [] = []
revoking_all_in m (revoke ∷ revokes) = revoking_in m.known revoke.ino revoke.items ++ revoking_all_in (revoked_in m revoke.ino revoke.items) revokes

-- a flush is done: the Revokes that waited behind it are carried out
abbrev pub revoking_behind_in : Memory → ℕ → Option FlushRecord → List Message
revoking_behind_in m number None = []
revoking_behind_in m number (Some flush) =
    revoking_all_in (record { known = after_flushed m.known number; remembered = filter (λ revoke. not (is_behind flush.ino revoke)) m.remembered }) (filter (is_behind flush.ino) m.remembered)

-- a file is written back, if something of it is unflushed and no flush of it is under way
abbrev pub writing_back_in : Known → Option Ino → List Message
writing_back_in known None = []
writing_back_in known (Some ino) =
    if (inode_at known ino).file.unflushed then (if is_settled known ino then Flush (new_flush known ino Read Read) ∷ [] else []) else []

-- what the client starts or gives up as it hears what comes
abbrev pub hearing_in : Memory → Turn → List Message
hearing_in m (WritesBack fd) = writing_back_in m.known (file_if_any (opened m.known.table fd))
hearing_in m (Takes (Revoke revoke)) = revoking_in m.known revoke.ino revoke.items
hearing_in m (Takes (Flushed number)) = revoking_behind_in m number (flush_numbered m.known number)
hearing_in m turn = []

-- a call that is tried: Open is given back with a last `close`, a flush is started, or the request is sent, if
-- none is unanswered
abbrev pub asking_in : Option Message → Option Message → List Message
asking_in None request = option_to_list request
asking_in (Some outstanding) request = []

abbrev pub trying_in : ClientValue → Call → Next → List Message
trying_in v call Answer = []
trying_in v call (LastClose ino) = Release (record { ino = ino; items = (Open, Nothing) ∷ [] }) ∷ []
trying_in v call Waits = []
trying_in v call (Flushes ino) = Flush (new_flush v.memory.known ino Read Read) ∷ []
trying_in v call Asks = asking_in v.request (request_of (sight_of v.memory.known) v.calls call)

abbrev pub trying_if_in : Bool → ClientValue → Option Call → List Message
trying_if_in false v call = []
trying_if_in true v None = []
trying_if_in true v (Some call) = trying_in v call (next_known v.memory.known call)

-- a client that isn't admitted yet keeps its flushes back
abbrev pub is_kept_back : Message → Bool
is_kept_back (Flush flush) = true
is_kept_back message = false

abbrev pub sendable_in : Bool → List Message → List Message
sendable_in false messages = messages
sendable_in true messages = filter (λ message. not (is_kept_back message)) messages

-- the messages of a step, in order. Asked, a client reports what it holds and sends its outstanding request;
-- admitted, it sends all flushes under way, and its request where that had to wait; else it gives up what it
-- has to, and then goes on with its call
unfoldable pub messages_in : ClientValue → Turn → List Message
messages_in v (Takes Ask) = map piece_message (pieces_of (reports v.memory.known)) ++ option_to_list v.request
messages_in v (Takes Admit) = map flush_message v.memory.known.flushes ++ (if v.waits then option_to_list v.request else [])
messages_in v turn = sendable_in v.moving (hearing_in v.memory turn ++ trying_if_in (is_try turn) (hears_in v turn) (hears_in v turn).call)

-- the reply to the outstanding call: the server's, or the client's own to a call that it tries
abbrev pub reply_to_in : Bool → Option Reply → ClientValue → Option Call → Option Reply
reply_to_in try reply v None = None
reply_to_in try (Some reply) v (Some call) = Some reply
reply_to_in true None v (Some call) = own_reply (sight_of v.memory.known) call (next_known v.memory.known call)
reply_to_in false None v (Some call) = None

unfoldable pub reply_at : ClientValue → Turn → Option Reply
reply_at v turn = reply_to_in (is_try turn) (told (state_of (hears_in v turn)) turn) (hears_in v turn) (hears_in v turn).call
