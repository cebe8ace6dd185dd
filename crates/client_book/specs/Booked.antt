-- A cache as a book and a sight.
use Rattle.std.specs.Prelude.{◌≡◌, List, length, map, unwrap_or}
use Rattle.client_cache.specs.Holds.{hold_in}
use Rattle.client_cache.specs.Known.{Known, inode_at, part_of}
use Rattle.client_cache.specs.declared.cached_inode.CachedInode.{CachedInode}
use Rattle.delayed_write.specs.Marks.{no_marks}
use Rattle.token_kind.specs.declared.content.Content.{Content}
use Rattle.token_kind.specs.declared.content.Content.TheVariants.{Nothing as Empty, Names as Entries, Bytes, Size}
use Rattle.token_kind.specs.declared.flush.Flush.{Flush}
use Rattle.tree_law.specs.Part.{answer_in, needs_in}
use Rattle.tree_law.specs.declared.reply.Reply.TheVariants.{Done}
use Rattle.token_kind.specs.declared.revoke.Revoke.{Revoke}
use Rattle.cluster_law.specs.Book.{Book, Flushing}
use Rattle.cluster_law.specs.Sight.{Sight}
use Rattle.cluster_law.specs.Tokens.{token_of}

-- a flush under way, without what it carries
abbrev pub flushing_of : Flush → Flushing
flushing_of flush = record { number = flush.number; ino = flush.ino; leave_data = flush.leave_data; leave_attr = flush.leave_attr }

-- what is known, and what is remembered of Revokes, as a book
abbrev pub book_of : Known → List Revoke → Book
book_of known remembered = record {
  holds = λ ino cls. hold_in (inode_at known ino).holds cls;
  flushing = map flushing_of known.flushes;
  remembered = remembered;
  marks = λ ino. (inode_at known ino).file.marks;
  flushes = known.last_flush;
}

-- what is known, as a sight of the files; a call that isn't covered has no reply of its own
abbrev pub sight_of : Known → Sight
sight_of known = record {
  needed = λ call. map token_of (needs_in (part_of known) call);
  reply = λ call. unwrap_or (answer_in (part_of known) call) Done;
  table = known.table;
  unflushed = λ ino. (inode_at known ino).file.unflushed;
  size = λ ino. length (inode_at known ino).file.contents;
}

-- bytes that come with a Grant come where nothing is marked
abbrev pub KeepsMarks : CachedInode → Content → Type 0
KeepsMarks inode Empty = Unit {0}
KeepsMarks inode (Entries entries) = Unit {0}
KeepsMarks inode (Bytes bytes) = inode.file.marks ≡ no_marks
KeepsMarks inode (Size size) = Unit {0}
