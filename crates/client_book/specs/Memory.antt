-- What a client has in memory of files, and what it makes of a Revoke, a Flushed, a Grant and a write-back.
use Rattle.std.specs.Prelude.{◌≡◌, ◌<◌, length, ◌++◌, ◌∷◌, [], ℕ, Bool, false, not, nat_eq, nat_lt, if◌then◌else◌, List, Option, Some, None, filter}
use Rattle.cal_base.specs.declared.identity.Ino.{Ino}
use Rattle.client_cache.specs.Changes.{after_flushed, after_lower, after_start, after_take, flush_numbered, is_expected, new_flush}
use Rattle.delayed_write.specs.Marks.{no_marks}
use Rattle.client_cache.specs.Holds.{hold_in}
use Rattle.client_cache.specs.Known.{Known, inode_at, is_settled}
use Rattle.token_kind.specs.Hold.{hold_number}
use Rattle.token_kind.specs.declared.«class».Class.{Class}
use Rattle.token_kind.specs.declared.«class».Class.TheVariants.{Data, Attr}
use Rattle.token_kind.specs.declared.flush.Flush.{Flush}
use Rattle.token_kind.specs.declared.grant_item.GrantItem.{GrantItem}
use Rattle.token_kind.specs.declared.hold.Hold.{Hold}
use Rattle.token_kind.specs.declared.hold.Hold.TheVariants.{Read}
use Rattle.token_kind.specs.declared.revoke.Revoke.{Revoke}
use Rattle.cluster_law.specs.Book.{Book, Lowering, Ignores, Remembers, Flushes, Lowers, asked_or_read}
use Rattle.cluster_law.specs.Lists.{is_empty}
use Rattle.client_book.specs.Booked.{KeepsMarks, book_of}

-- what is known, and the Revokes that wait behind flushes
pub record Memory : Type 0 where
  pub known : Known
  pub remembered : List Revoke

abbrev pub book_in : Memory → Book
book_in m = book_of m.known m.remembered

-- the classes of a Revoke that are held above what is asked
abbrev pub above_in : Known → Ino → List (Class × Hold) → List (Class × Hold)
above_in known ino asked = filter (λ item. nat_lt (hold_number item.1) (hold_number (hold_in (inode_at known ino).holds item.0))) asked

-- how a Revoke is carried out of which these classes are held above what is asked: not at all, later, by a
-- flush, or at once
abbrev pub lowering_of : Known → Ino → List (Class × Hold) → Lowering
lowering_of known ino above =
    if is_empty above then Ignores
    else if not (is_settled known ino) then Remembers
    else if (inode_at known ino).file.unflushed then Flushes
    else Lowers

abbrev pub lowering_in : Known → Ino → List (Class × Hold) → Lowering
lowering_in known ino asked = lowering_of known ino (above_in known ino asked)

-- holds of an inode are lowered, one after the other
unfoldable pub lower_all : Known → Ino → List (Class × Hold) → Known
lower_all known ino [] = known
lower_all known ino (item ∷ items) = lower_all (after_lower known ino item.0 item.1) ino items

abbrev pub lowered_in : Lowering → Memory → Ino → List (Class × Hold) → Memory
lowered_in Ignores m ino asked = m
lowered_in Remembers m ino asked = record { known = m.known; remembered = m.remembered ++ record { ino = ino; items = asked } ∷ [] }
lowered_in Flushes m ino asked = record { known = after_start m.known (new_flush m.known ino (asked_or_read Data asked) (asked_or_read Attr asked)); remembered = m.remembered }
lowered_in Lowers m ino asked = record { known = lower_all m.known ino asked; remembered = m.remembered }

-- a Revoke is taken
abbrev pub revoked_in : Memory → Ino → List (Class × Hold) → Memory
revoked_in m ino asked = lowered_in (lowering_in m.known ino asked) m ino (above_in m.known ino asked)

unfoldable pub revoked_all_in : Memory → List Revoke → Memory
revoked_all_in m [] = m
revoked_all_in m (revoke ∷ revokes) = revoked_all_in (revoked_in m revoke.ino revoke.items) revokes

-- a Flushed is taken: the flush is done, and the Revokes behind it are carried out
abbrev pub is_behind : Ino → Revoke → Bool
is_behind ino revoke = nat_eq revoke.ino.0 ino.0

abbrev pub after_flush_in : Memory → ℕ → Option Flush → Memory
after_flush_in m number None = m
after_flush_in m number (Some flush) =
    revoked_all_in (record { known = after_flushed m.known number; remembered = filter (λ revoke. not (is_behind flush.ino revoke)) m.remembered }) (filter (is_behind flush.ino) m.remembered)

abbrev pub flushed_in : Memory → ℕ → Memory
flushed_in m number = after_flush_in m number (flush_numbered m.known number)

-- the items of a Grant are taken, but those that came without what they should bring
abbrev pub item_in : Known → GrantItem → Known
item_in known item = if is_expected (inode_at known item.ino) item.«class» item.content then after_take known item else known

unfoldable pub items_in : Known → List GrantItem → Known
items_in known [] = known
items_in known (item ∷ items) = items_in (item_in known item) items

-- a file is written back, if something of it is unflushed and no flush of it is under way
abbrev pub written_back_in : Memory → Option Ino → Memory
written_back_in m None = m
written_back_in m (Some ino) =
    if (inode_at m.known ino).file.unflushed then (if is_settled m.known ino then record { known = after_start m.known (new_flush m.known ino Read Read); remembered = m.remembered } else m) else m

-- an inode of whose file nothing is unflushed
pub record IsReady (known : Known) (ino : Ino) : Type 0 where
  pub within : ino.0 < length known.inodes
  pub flushed_is : (inode_at known ino).file.unflushed ≡ false
  pub clear : (inode_at known ino).file.marks ≡ no_marks

-- a flush that is done may be: nothing of its file is unflushed
abbrev pub FitsFlushed : Known → Option Flush → Type 0
FitsFlushed known None = Unit {0}
FitsFlushed known (Some flush) = IsReady known flush.ino

-- items of inodes of the volume, whose bytes come where nothing is marked
unfoldable pub FitItems : Known → List GrantItem → Type 0
FitItems known [] = Unit {0}
FitItems known (item ∷ items) = ((item.ino.0 < length known.inodes) × KeepsMarks (inode_at known item.ino) item.content) × FitItems (item_in known item) items
