-- The messages that a client owes in a step, in order.
use Rattle.std.specs.Prelude.{◌++◌, ◌∷◌, [], ◌&&◌, ℕ, zero, suc, Bool, true, false, not, if◌then◌else◌, List, Option, Some, None, filter, map}
use Rattle.cal_base.specs.Limits.{inodes}
use Rattle.cal_base.specs.declared.identity.Ino.{Ino}
use Rattle.client_cache.specs.declared.next_step.Next.TheVariants.{Answer, LastClose, Waits, Flushes, Asks}
use Rattle.client_cache.specs.declared.next_step.Next.{Next}
use Rattle.message.specs.declared.message.Message.{Message}
use Rattle.message.specs.declared.message.Message.TheVariants.{Flush, Flushed, Revoke, Release, Ask, Piece, Admit}
use Rattle.report.specs.Report.{pieces_of}
use Rattle.token_kind.specs.declared.«class».Class.TheVariants.{Names, Data, Attr, Open}
use Rattle.token_kind.specs.declared.«class».Class.{Class}
use Rattle.token_kind.specs.declared.hold.Hold.TheVariants.{None as Nothing, Read}
use Rattle.token_kind.specs.declared.hold.Hold.{Hold}
use Rattle.token_kind.specs.declared.reported.Reported.{Reported}
use Rattle.token_kind.specs.declared.revoke.Revoke.{Revoke as Waiting}
use Rattle.tree_law.specs.Descriptors.{opened}
use Rattle.tree_law.specs.declared.call.Call.{Call}
use Rattle.cluster_law.specs.Book.{Book, Flushing, Lowering, Ignores, Remembers, Flushes as FlushesFirst, Lowers, above, asked_or_read, behind, flush_at, flush_numbered, is_flushing, is_held, lowering, next_flush, revoked, without_flush}
use Rattle.cluster_law.specs.ClientState.{ClientState, Turn, WritesBack, Takes, hears, is_try, request_of}
use Rattle.cluster_law.specs.Coverage.{next_of}
use Rattle.cluster_law.specs.Sight.{Sight, file_if_any}

-- what a message of a client tells: of a Flush its number, its file and what it leaves, of others all
pub data Tale : Type 0 where
  Says : Message → Tale
  Sends : Flushing → Tale

abbrev pub tale_of : Message → Tale
tale_of (Flush flush) = Sends (record { number = flush.number; ino = flush.ino; leave_data = flush.leave_data; leave_attr = flush.leave_attr })
tale_of message = Says message

-- a client that isn't admitted yet keeps its flushes back
abbrev pub is_said : Tale → Bool
is_said (Says message) = true
is_said (Sends flush) = false

abbrev pub sendable : Bool → List Tale → List Tale
sendable false tales = tales
sendable true tales = filter is_said tales

-- a Revoke is carried out: a Release of what is lowered, or a flush that leaves it
abbrev pub lowered : Lowering → Book → Ino → List (Class × Hold) → List Tale
lowered Ignores book ino asked = []
lowered Remembers book ino asked = []
lowered FlushesFirst book ino asked = Sends (next_flush book ino (asked_or_read Data asked) (asked_or_read Attr asked)) ∷ []
lowered Lowers book ino asked = Says (Release (record { ino = ino; items = asked })) ∷ []

abbrev pub revoking : Sight → Book → Ino → List (Class × Hold) → List Tale
revoking sight book ino asked = lowered (lowering sight book ino asked) book ino (above book ino asked)

unfoldable pub revoking_all : Sight → Book → List Waiting → List Tale
revoking_all sight book [] = []
revoking_all sight book (revoke ∷ revokes) = revoking sight book revoke.ino revoke.items ++ revoking_all sight (revoked sight book revoke.ino revoke.items) revokes

abbrev pub revoking_behind : Sight → Book → Option Flushing → List Tale
revoking_behind sight book None = []
revoking_behind sight book (Some flush) = revoking_all sight (without_flush book flush) (behind book flush)

abbrev pub writing_back : Sight → Book → Option Ino → List Tale
writing_back sight book None = []
writing_back sight book (Some ino) = if sight.unflushed ino && not (is_flushing book ino) then Sends (next_flush book ino Read Read) ∷ [] else []

-- what the book starts or gives up as the client hears what comes
abbrev pub hearing : Sight → Book → Turn → List Tale
hearing sight book (WritesBack fd) = writing_back sight book (file_if_any (opened sight.table fd))
hearing sight book (Takes (Revoke revoke)) = revoking sight book revoke.ino revoke.items
hearing sight book (Takes (Flushed number)) = revoking_behind sight book (flush_numbered book number)
hearing sight book turn = []

-- a call that is tried: Open is given back with a last `close`, a flush is started, or the request is sent,
-- if none is unanswered
abbrev pub listed : Option Message → List Tale
listed None = []
listed (Some message) = Says message ∷ []

abbrev pub asking : Option Message → Option Message → List Tale
asking None request = listed request
asking (Some outstanding) request = []

abbrev pub trying : Sight → ClientState → Call → Next → List Tale
trying sight c call Answer = []
trying sight c call (LastClose ino) = Says (Release (record { ino = ino; items = (Open, Nothing) ∷ [] })) ∷ []
trying sight c call Waits = []
trying sight c call (Flushes ino) = Sends (next_flush c.book ino Read Read) ∷ []
trying sight c call Asks = asking c.request (request_of sight c.calls call)

abbrev pub trying_if : Bool → Sight → ClientState → Option Call → List Tale
trying_if false sight c call = []
trying_if true sight c None = []
trying_if true sight c (Some call) = trying sight c call (next_of sight c.book call)

-- the report of a book: its holds by inode, then class. Data and Attr of a file with a flush under way carry
-- the number of that flush and what it leaves
abbrev pub number_behind : Class → Option Flushing → ℕ
number_behind cls None = 0
number_behind Names (Some flush) = 0
number_behind Data (Some flush) = flush.number
number_behind Attr (Some flush) = flush.number
number_behind Open (Some flush) = 0

abbrev pub left_behind : Class → Option Flushing → Hold
left_behind cls None = Nothing
left_behind Names (Some flush) = Nothing
left_behind Data (Some flush) = flush.leave_data
left_behind Attr (Some flush) = flush.leave_attr
left_behind Open (Some flush) = Nothing

abbrev pub reported_as : Ino → Class → Hold → Option Flushing → Reported
reported_as ino cls hold flush = record { token = record { ino = ino; «class» = cls; hold = hold }; flush = number_behind cls flush; leave = left_behind cls flush }

abbrev pub reported : Book → Ino → Class → List Reported
reported book ino cls = if is_held (book.holds ino cls) then reported_as ino cls (book.holds ino cls) (flush_at book ino) ∷ [] else []

abbrev pub reported_at : Book → Ino → List Reported
reported_at book ino = reported book ino Names ++ (reported book ino Data ++ (reported book ino Attr ++ reported book ino Open))

unfoldable pub reported_below : Book → ℕ → List Reported
reported_below book zero = []
reported_below book (suc n) = reported_below book n ++ reported_at book (record { 0 = n })

abbrev pub report : Book → List Reported
report book = reported_below book inodes

abbrev pub as_piece : Rattle.token_kind.specs.declared.piece.Piece.Piece → Tale
as_piece piece = Says (Piece piece)

-- a request that the server of this view has answered by Wait goes out again as the client is admitted
abbrev pub waiting : ClientState → List Tale
waiting c = if c.waits then listed c.request else []

-- the messages that a client owes in a step. Asked, it reports its book and sends its outstanding request;
-- admitted, it sends all flushes under way, and its request where that had to wait; else it gives up what it
-- has to, and then goes on with its call
unfoldable pub owed : Sight → Sight → ClientState → Turn → List Tale
owed before after c (Takes Ask) = map as_piece (pieces_of (report c.book)) ++ listed c.request
owed before after c (Takes Admit) = map (λ flush. Sends flush) c.book.flushing ++ waiting c
owed before after c turn = sendable c.moving (hearing before c.book turn ++ trying_if (is_try turn) after (hears before c turn) (hears before c turn).call)
