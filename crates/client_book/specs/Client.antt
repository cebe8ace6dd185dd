-- What a client does with what comes to it, at its own values.
use Rattle.std.specs.Prelude.{◌≡◌, ◌+◌, ◌<◌, ◌&&◌, ◌||◌, ℕ, Bool, true, false, nat_eq, Option, Some, None, is_some, length}
use Rattle.std.specs.Option.{option_or}
use Rattle.cal_base.specs.declared.identity.Ino.{Ino}
use Rattle.client_cache.specs.AfterAnswer.{after_answer}
use Rattle.client_cache.specs.Changes.{after_lower, after_start, flush_numbered, new_flush}
use Rattle.client_cache.specs.Known.{Known, inode_at}
use Rattle.client_cache.specs.Next.{next_of as next_known}
use Rattle.client_cache.specs.declared.next_step.Next.{Next}
use Rattle.client_cache.specs.declared.next_step.Next.TheVariants.{Answer, LastClose, Waits, Flushes, Asks}
use Rattle.delayed_write.specs.Marks.{no_marks}
use Rattle.message.specs.declared.message.Message.{Message}
use Rattle.message.specs.declared.message.Message.TheVariants.{Acquire, Grant, Refuse, Change, Done, Flush, Flushed, Revoke, Release, Ask, Piece, Wait, Admit}
use Rattle.token_kind.specs.Kept.{classes_rise}
use Rattle.token_kind.specs.declared.«class».Class.TheVariants.{Open}
use Rattle.token_kind.specs.declared.revoke.Revoke.{Revoke as Revoked}
use Rattle.token_kind.specs.declared.hold.Hold.TheVariants.{None as Nothing, Read}
use Rattle.tree_law.specs.Descriptors.{opened}
use Rattle.tree_law.specs.declared.call.Call.{Call}
use Rattle.tree_law.specs.declared.reply.Reply.{Reply}
use Rattle.cluster_law.specs.ClientState.{ClientState, Turn, Idles, Starts, WritesBack, Takes, is_about, is_try, request_of, told}
use Rattle.cluster_law.specs.Lists.{Each}
use Rattle.cluster_law.specs.Sight.{altered, closed, file_if_any}
use Rattle.client_book.specs.Booked.{sight_of}
use Rattle.client_book.specs.Memory.{FitItems, FitsFlushed, Memory, book_in, flushed_in, items_in, revoked_in, written_back_in}

-- a client beside its session: as the law has it (`ClientState`), with its memory in the place of the book
pub record ClientValue : Type 0 where
  pub moving : Bool
  pub calls : ℕ
  pub call : Option Call
  pub request : Option Message
  pub waits : Bool
  pub memory : Memory

abbrev pub state_of : ClientValue → ClientState
state_of v = record { moving = v.moving; calls = v.calls; call = v.call; request = v.request; waits = v.waits; book = book_in v.memory }

abbrev pub with_memory : ClientValue → Memory → ClientValue
with_memory v m = record v { memory = m }

abbrev pub with_known : ClientValue → Known → ClientValue
with_known v known = record v { memory = record { known = known; remembered = v.memory.remembered } }

abbrev pub without_request_in : Bool → ClientValue → ClientValue
without_request_in false v = v
without_request_in true v = record v { request = None; waits = false }

-- the client as it has heard what comes
unfoldable pub hears_in : ClientValue → Turn → ClientValue
hears_in v Idles = v
hears_in v (Starts call) = record v { calls = v.calls + 1; call = Some call }
hears_in v (WritesBack fd) = with_memory v (written_back_in v.memory (file_if_any (opened v.memory.known.table fd)))
hears_in v (Takes (Acquire number want)) = v
hears_in v (Takes (Grant number items)) = with_known (without_request_in (is_about false number (state_of v) v.call) v) (items_in v.memory.known items)
hears_in v (Takes (Refuse number free needed)) = v
hears_in v (Takes (Change number call)) = v
hears_in v (Takes (Done number reply)) = v
hears_in v (Takes (Flush flush)) = v
hears_in v (Takes (Flushed number)) = with_memory v (flushed_in v.memory number)
hears_in v (Takes (Revoke revoke)) = with_memory v (revoked_in v.memory revoke.ino revoke.items)
hears_in v (Takes (Release release)) = v
hears_in v (Takes Ask) = record v { moving = true; waits = false }
hears_in v (Takes (Piece piece)) = v
hears_in v (Takes (Wait number client)) = record v { waits = v.waits || nat_eq number v.calls && is_some v.request }
hears_in v (Takes Admit) = record v { moving = false; waits = false }

-- Open is given back with the last descriptor of a file
abbrev pub lower_open : Known → Option Ino → Known
lower_open known None = known
lower_open known (Some ino) = after_lower known ino Open Nothing

abbrev pub finished_in : ClientValue → ClientValue
finished_in v = record v { call = None; request = None; waits = false }

abbrev pub answered_in : ClientValue → Call → ClientValue
answered_in v call = with_known (finished_in v) (lower_open (after_answer v.memory.known call) (closed (sight_of v.memory.known) call))

-- the client as it has tried its call
abbrev pub tried_in : ClientValue → Call → Next → ClientValue
tried_in v call Answer = answered_in v call
tried_in v call (LastClose ino) = answered_in v call
tried_in v call Waits = v
tried_in v call (Flushes ino) = with_known v (after_start v.memory.known (new_flush v.memory.known ino Read Read))
tried_in v call Asks = record v { request = option_or v.request (request_of (sight_of v.memory.known) v.calls call) }

abbrev pub goes_on_in : Bool → Option Reply → ClientValue → Option Call → ClientValue
goes_on_in try reply v None = v
goes_on_in try (Some reply) v (Some call) = finished_in v
goes_on_in true None v (Some call) = tried_in v call (next_known v.memory.known call)
goes_on_in false None v (Some call) = v

abbrev pub value_then : ClientValue → Turn → ClientValue
value_then v turn = goes_on_in (is_try turn) (told (state_of v) turn) v v.call

-- the client after a step
unfoldable pub value_after : ClientValue → Turn → ClientValue
value_after v turn = value_then (hears_in v turn) turn

-- what may come to a client: inodes are of the volume, a Revoke names classes in rising order, bytes come where
-- nothing is marked, and a flush ends of whose file nothing is unflushed
pub record FitsRevoke (known : Known) (revoke : Revoked) : Type 0 where
  pub within : revoke.ino.0 < length known.inodes
  pub rising : classes_rise 0 revoke.items ≡ true
  pub clear : (inode_at known revoke.ino).file.unflushed ≡ false → (inode_at known revoke.ino).file.marks ≡ no_marks

pub record FitsFlush (m : Memory) (number : ℕ) : Type 0 where
  pub ready : FitsFlushed m.known (flush_numbered m.known number)
  pub rising : Each (λ revoke. classes_rise 0 revoke.items ≡ true) m.remembered

abbrev pub FitsTurn : ClientValue → Turn → Type 0
FitsTurn v (WritesBack fd) = (ino : Ino) → file_if_any (opened v.memory.known.table fd) ≡ Some ino → ino.0 < length v.memory.known.inodes
FitsTurn v (Takes (Grant number items)) = FitItems v.memory.known items
FitsTurn v (Takes (Flushed number)) = FitsFlush v.memory number
FitsTurn v (Takes (Revoke revoke)) = FitsRevoke v.memory.known revoke
FitsTurn v turn = Unit {0}

-- the files that a call names are of the volume
pub record FitsCall (known : Known) (call : Call) : Type 0 where
  pub alters : (ino : Ino) → altered (sight_of known) call ≡ Some ino → ino.0 < length known.inodes
  pub closes : (ino : Ino) → closed (sight_of known) call ≡ Some ino → ino.0 < length (after_answer known call).inodes
  pub flushes : (ino : Ino) → next_known known call ≡ Flushes ino → ino.0 < length known.inodes

abbrev pub FitsCalls : Known → Option Call → Type 0
FitsCalls known None = Unit {0}
FitsCalls known (Some call) = FitsCall known call
