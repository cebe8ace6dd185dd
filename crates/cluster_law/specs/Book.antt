-- A client's book: what it holds, which flushes it has under way, and what it was asked to give up behind them.
use Rattle.std.specs.Prelude.{◌+◌, ◌++◌, ◌∷◌, [], ◌&&◌, ℕ, Bool, true, false, not, nat_eq, nat_le, nat_lt, if◌then◌else◌, List, Option, Some, None, find, filter, is_some, length, map, unwrap_or}
use Rattle.std.specs.Map.{lookup}
use Rattle.cal_base.specs.Limits.{unflushed_blocks}
use Rattle.cal_base.specs.declared.identity.Ino.{Ino}
use Rattle.delayed_write.specs.Marks.{marked_by_truncate, marked_by_write, marked_count, no_marks}
use Rattle.token_kind.specs.Hold.{hold_number, lesser_of}
use Rattle.token_kind.specs.declared.«class».Class.TheVariants.{Names, Data, Attr, Open}
use Rattle.token_kind.specs.declared.«class».Class.{Class}
use Rattle.token_kind.specs.declared.content.Content.TheVariants.{Nothing as Empty, Names as Entries, Bytes, Size}
use Rattle.token_kind.specs.declared.content.Content.{Content}
use Rattle.token_kind.specs.declared.grant_item.GrantItem.{GrantItem}
use Rattle.token_kind.specs.declared.hold.Hold.TheVariants.{None as Nothing, Read}
use Rattle.token_kind.specs.declared.hold.Hold.{Hold}
use Rattle.token_kind.specs.declared.revoke.Revoke.{Revoke}
use Rattle.tree_law.specs.declared.call.Call.{Call}
use Rattle.tree_law.specs.declared.call.Call.TheVariants.{Write as WriteCall, Truncate}
use Rattle.cluster_law.specs.Lists.{is_empty}
use Rattle.cluster_law.specs.Sight.{Sight, altered, closed}
use Rattle.cluster_law.specs.Tokens.{same_class}

-- a flush that isn't answered yet, and what it leaves of Data and Attr
pub record Flushing : Type 0 where
  pub number : ℕ
  pub ino : Ino
  pub leave_data : Hold
  pub leave_attr : Hold

-- what is held of each inode in each class; the flushes under way and the Revokes behind them, oldest first;
-- the blocks of each file that were marked since its last flush; and how many flushes were started
pub record Book : Type 0 where
  pub holds : Ino → Class → Hold
  pub flushing : List Flushing
  pub remembered : List Revoke
  pub marks : Ino → List Bool
  pub flushes : ℕ

abbrev pub empty_book : Book
empty_book = record { holds = λ ino cls. Nothing; flushing = []; remembered = []; marks = λ ino. no_marks; flushes = 0 }

abbrev pub with_hold : (Ino → Class → Hold) → Ino → Class → Hold → Ino → Class → Hold
with_hold holds ino cls hold i k = if nat_eq i.0 ino.0 && same_class k cls then hold else holds i k

unfoldable pub with_holds : (Ino → Class → Hold) → Ino → List (Class × Hold) → Ino → Class → Hold
with_holds holds ino [] = holds
with_holds holds ino (item ∷ items) = with_holds (with_hold holds ino item.0 item.1) ino items

-- the flush of a file that is under way
abbrev pub flush_at : Book → Ino → Option Flushing
flush_at book ino = find (λ flush. nat_eq flush.ino.0 ino.0) book.flushing

abbrev pub is_flushing : Book → Ino → Bool
is_flushing book ino = is_some (flush_at book ino)

-- Grant. An item without content is passed over where nothing is held in its class, unless that is Open. Any
-- other sets the hold of its class; a flush of the file that is under way leaves that hold too, Read at most
abbrev pub is_bare : Content → Bool
is_bare Empty = true
is_bare (Entries entries) = false
is_bare (Bytes bytes) = false
is_bare (Size size) = false

abbrev pub is_held : Hold → Bool
is_held hold = nat_lt 0 (hold_number hold)

abbrev pub is_passed_over : Book → GrantItem → Bool
is_passed_over book item = is_bare item.content && not (same_class item.«class» Open) && not (is_held (book.holds item.ino item.«class»))

abbrev pub leaving : Class → Hold → Flushing → Flushing
leaving Names hold flush = flush
leaving Data hold flush = record flush { leave_data = hold }
leaving Attr hold flush = record flush { leave_attr = hold }
leaving Open hold flush = flush

abbrev pub leaving_at : Ino → Class → Hold → Flushing → Flushing
leaving_at ino cls hold flush = if nat_eq flush.ino.0 ino.0 then leaving cls hold flush else flush

abbrev pub with_token : Book → Ino → Class → Hold → Book
with_token book ino cls hold = record book {
  holds = with_hold book.holds ino cls hold;
  flushing = map (leaving_at ino cls (lesser_of hold Read)) book.flushing;
}

abbrev pub with_item : Book → GrantItem → Book
with_item book item = if is_passed_over book item then book else with_token book item.ino item.«class» item.hold

unfoldable pub with_items : Book → List GrantItem → Book
with_items book [] = book
with_items book (item ∷ items) = with_items (with_item book item) items

-- a flush of a file starts
abbrev pub next_flush : Book → Ino → Hold → Hold → Flushing
next_flush book ino leave_data leave_attr = record { number = book.flushes + 1; ino = ino; leave_data = leave_data; leave_attr = leave_attr }

abbrev pub with_flush : Book → Ino → Hold → Hold → Book
with_flush book ino leave_data leave_attr = record book {
  flushing = book.flushing ++ next_flush book ino leave_data leave_attr ∷ [];
  marks = λ i. if nat_eq i.0 ino.0 then no_marks else book.marks i;
  flushes = book.flushes + 1;
}

-- Revoke: it is about the listed classes that are held above what is asked. While a flush of the file is
-- under way it is remembered; where the file is unflushed a flush starts that leaves what is asked, and Read
-- of a class that isn't; else the holds become what is asked
pub data Lowering : Type 0 where
  Ignores : Lowering
  Remembers : Lowering
  Flushes : Lowering
  Lowers : Lowering

abbrev pub above : Book → Ino → List (Class × Hold) → List (Class × Hold)
above book ino asked = filter (λ item. nat_lt (hold_number item.1) (hold_number (book.holds ino item.0))) asked

abbrev pub lowering : Sight → Book → Ino → List (Class × Hold) → Lowering
lowering sight book ino asked =
    if is_empty (above book ino asked) then Ignores
    else if is_flushing book ino then Remembers
    else if sight.unflushed ino then Flushes
    else Lowers

abbrev pub asked_or_read : Class → List (Class × Hold) → Hold
asked_or_read cls asked = unwrap_or (lookup (same_class cls) asked) Read

abbrev pub lowered_by : Lowering → Book → Ino → List (Class × Hold) → Book
lowered_by Ignores book ino asked = book
lowered_by Remembers book ino asked = record book { remembered = book.remembered ++ record { ino = ino; items = asked } ∷ [] }
lowered_by Flushes book ino asked = with_flush book ino (asked_or_read Data asked) (asked_or_read Attr asked)
lowered_by Lowers book ino asked = record book { holds = with_holds book.holds ino asked }

abbrev pub revoked : Sight → Book → Ino → List (Class × Hold) → Book
revoked sight book ino asked = lowered_by (lowering sight book ino asked) book ino (above book ino asked)

-- Flushed: the holds become what the flush left, and then the Revokes behind it are carried out
abbrev pub flush_numbered : Book → ℕ → Option Flushing
flush_numbered book number = find (λ flush. nat_eq flush.number number) book.flushing

abbrev pub without_flush : Book → Flushing → Book
without_flush book flush = record book {
  holds = with_hold (with_hold book.holds flush.ino Data flush.leave_data) flush.ino Attr flush.leave_attr;
  flushing = filter (λ other. not (nat_eq other.number flush.number)) book.flushing;
  remembered = filter (λ revoke. not (nat_eq revoke.ino.0 flush.ino.0)) book.remembered;
}

abbrev pub behind : Book → Flushing → List Revoke
behind book flush = filter (λ revoke. nat_eq revoke.ino.0 flush.ino.0) book.remembered

unfoldable pub revoked_all : Sight → Book → List Revoke → Book
revoked_all sight book [] = book
revoked_all sight book (revoke ∷ revokes) = revoked_all sight (revoked sight book revoke.ino revoke.items) revokes

abbrev pub after_flush : Sight → Book → Option Flushing → Book
after_flush sight book None = book
after_flush sight book (Some flush) = revoked_all sight (without_flush book flush) (behind book flush)

abbrev pub flushed : Sight → Book → ℕ → Book
flushed sight book number = after_flush sight book (flush_numbered book number)

-- the marks of a file after a call that alters it
abbrev pub marks_after : Sight → Book → Call → Ino → List Bool
marks_after sight book (WriteCall fd offset bytes) ino = marked_by_write (book.marks ino) offset (length bytes)
marks_after sight book (Truncate fd size) ino = marked_by_truncate (book.marks ino) (sight.size ino) size
marks_after sight book call ino = book.marks ino

-- a call leaves few enough blocks of a file unflushed
abbrev pub has_room : Sight → Book → Call → Option Ino → Bool
has_room sight book call None = true
has_room sight book call (Some ino) = nat_le (marked_count (marks_after sight book call ino)) unflushed_blocks

abbrev pub with_marks : Sight → Book → Call → Option Ino → Book
with_marks sight book call None = book
with_marks sight book call (Some ino) = record book { marks = λ i. if nat_eq i.0 ino.0 then marks_after sight book call ino else book.marks i }

abbrev pub without_open : Book → Option Ino → Book
without_open book None = book
without_open book (Some ino) = record book { holds = with_hold book.holds ino Open Nothing }

-- a call is answered by the client itself: the marks are those after it, and with the last descriptor of a
-- file Open goes
abbrev pub with_answer : Sight → Book → Call → Book
with_answer sight book call = without_open (with_marks sight book call (altered sight call)) (closed sight call)
