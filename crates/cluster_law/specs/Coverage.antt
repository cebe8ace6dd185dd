-- Which calls a client answers by itself, and what it does with the others.
use Rattle.std.specs.Prelude.{◌&&◌, ◌||◌, Bool, true, false, not, nat_le, if◌then◌else◌, List, Option, Some, None, is_none}
use Rattle.std.specs.List.{list_all, list_any}
use Rattle.cal_base.specs.declared.identity.Ino.{Ino}
use Rattle.client_cache.specs.declared.next_step.Next.TheVariants.{Answer, LastClose, Waits, Flushes, Asks}
use Rattle.client_cache.specs.declared.next_step.Next.{Next}
use Rattle.token_kind.specs.Hold.{hold_number}
use Rattle.token_kind.specs.declared.«class».Class.TheVariants.{Names, Data, Attr, Open}
use Rattle.token_kind.specs.declared.«class».Class.{Class}
use Rattle.token_kind.specs.declared.token.Token.{Token}
use Rattle.tree_law.specs.declared.call.Call.{Call}
use Rattle.tree_law.specs.declared.call.Call.TheVariants.{Create, Mkdir, Unlink, Rmdir, Rename, Close, Fsync}
use Rattle.cluster_law.specs.Book.{Book, has_room, is_flushing}
use Rattle.cluster_law.specs.Sight.{Sight, altered, closed, synced}

-- bytes and size of a file, which a flush of it is about
abbrev pub is_of_file : Class → Bool
is_of_file Names = false
is_of_file Data = true
is_of_file Attr = true
is_of_file Open = false

abbrev pub is_of_names : Class → Bool
is_of_names Names = true
is_of_names Data = false
is_of_names Attr = false
is_of_names Open = false

abbrev pub is_enough : Book → Token → Bool
is_enough book need = nat_le (hold_number need.hold) (hold_number (book.holds need.ino need.«class»))

-- a need waits for a flush of its file that is under way
abbrev pub awaits_flush : Book → Token → Bool
awaits_flush book need = is_of_file need.«class» && is_flushing book need.ino

abbrev pub is_met : Book → Token → Bool
is_met book need = is_enough book need && not (awaits_flush book need)

-- nothing of a file is unflushed or under way
abbrev pub is_synced : Sight → Book → Option Ino → Bool
is_synced sight book None = true
is_synced sight book (Some ino) = not (sight.unflushed ino) && not (is_flushing book ino)

-- a client answers a call by itself where its needs are held, no flush is under way of a file whose bytes or
-- size it needs, and few enough blocks are unflushed after it; a `close` where another descriptor stays or
-- none is there; an `fsync` where nothing of the file is unflushed or under way; a change of names never
unfoldable pub is_covered : Sight → Book → Call → Bool
is_covered sight book (Create path) = false
is_covered sight book (Mkdir path) = false
is_covered sight book (Unlink path) = false
is_covered sight book (Rmdir path) = false
is_covered sight book (Rename path goal) = false
is_covered sight book (Close fd) = is_none (closed sight (Close fd))
is_covered sight book (Fsync fd) = is_synced sight book (synced sight (Fsync fd))
is_covered sight book call = list_all (is_met book) (sight.needed call) && has_room sight book call (altered sight call)

-- what is needed of names is held, and a flush of a file whose bytes or size is needed is under way
abbrev pub has_names : Book → List Token → Bool
has_names book needs = list_all (λ need. not (is_of_names need.«class») || is_enough book need) needs

abbrev pub awaits_one : Book → List Token → Bool
awaits_one book needs = has_names book needs && list_any (awaits_flush book) needs

-- a last `close` is answered, and Open given back
abbrev pub closing : Option Ino → Next
closing None = Answer
closing (Some ino) = LastClose ino

-- an `fsync` waits for a flush that is under way, or starts one
abbrev pub syncing : Book → Option Ino → Next
syncing book None = Answer
syncing book (Some ino) = if is_flushing book ino then Waits else Flushes ino

-- a flush has to come before a call that would leave too many blocks unflushed
abbrev pub making_room : Sight → Option Ino → Next
making_room sight None = Asks
making_room sight (Some ino) = if sight.unflushed ino then Flushes ino else Asks

abbrev pub acquiring : Sight → Book → Call → Next
acquiring sight book call =
    if awaits_one book (sight.needed call) then Waits
    else if has_room sight book call (altered sight call) then Asks
    else making_room sight (altered sight call)

abbrev pub uncovered : Sight → Book → Call → Next
uncovered sight book (Close fd) = closing (closed sight (Close fd))
uncovered sight book (Fsync fd) = syncing book (synced sight (Fsync fd))
uncovered sight book call = acquiring sight book call

-- what a client does with a call that it tries: it answers one that is covered; else it answers a last
-- `close`, waits for a flush, starts one, or asks the server, the first of these that applies
unfoldable pub next_of : Sight → Book → Call → Next
next_of sight book call = if is_covered sight book call then Answer else uncovered sight book call
