-- What is known of a file goes on to follow it.
use Rattle.std.proofs.Common.{get_or, ◌≡◌, ◌||◌, ℕ, Bool, true, false, List, All, Option, Some, None, refl, sym, ap, subst, ◌∙◌}
use Rattle.std.proofs.lemmas.Bool.{true≢false}
use Rattle.cal_base.specs.declared.directory_entry.DirectoryEntry.{DirectoryEntry}
use Rattle.cal_base.specs.declared.identity.ClientId.{ClientId}
use Rattle.cal_base.specs.declared.identity.Ino.{Ino}
use Rattle.delayed_write.specs.Delayed.{Turns}
use Rattle.token_kind.specs.Flush.{IsFlushed}
use Rattle.token_kind.specs.declared.flush.Flush.{Flush}
use Rattle.tree_law.specs.FileState.{FileState}
use Rattle.tree_law.specs.PartOf.{HasEntries, kind_of}
use Rattle.tree_law.specs.Tree.{Tree, node_at}
use Rattle.tree_law.specs.declared.node.Node.{Node}
use Rattle.tree_law.specs.declared.node.Node.TheVariants.{Directory, Regular}
use Rattle.client_cache.specs.declared.cached_inode.CachedInode.{CachedInode}
use Rattle.client_cache.specs.Follows.{Follows, FollowsFile, is_under_way}
use Rattle.client_cache.specs.Known.{Known, flush_at, inode_at}
use Rattle.client_facts.specs.Leaves.{IsMadeUnheld, LeavesFile, LeavesHeld, LeavesNode}

pub or_right : (a b : Bool) → b ≡ true → (a || b) ≡ true
or_right true b e = refl
or_right false b e = e

pub or_left : (a b : Bool) → a ≡ true → (a || b) ≡ true
or_left true b e = refl
or_left false b e = absurd (true≢false (sym e))

pub neither_left : (a b : Bool) → (a || b) ≡ false → a ≡ false
neither_left true b e = absurd (true≢false e)
neither_left false b e = refl

file_left : (client : ClientId) (done : ℕ) (inode : CachedInode) (flush : Option Flush) (file next : FileState) → LeavesFile client done inode flush file next → FollowsFile client done inode flush file
    → FollowsFile client done inode flush next
file_left client done inode flush file next left f = record {
  contents = λ held counts. left.contents (held, counts) ∙ f.contents held counts;
  size = λ held counts. left.size (held, counts) ∙ f.size held counts;
  turns = λ held counts rest. subst (λ (kept : List ℕ). Turns kept inode.file) (sym (left.kept (held, counts))) (f.turns held counts rest);
  flushes = λ other is way. subst (λ (file : FileState). IsFlushed file.kept other.size other.cut other.pieces file.contents)
      (sym (left.written (or_right inode.file.unflushed (is_under_way done flush) way))) (f.flushes other is way);
  writer = (λ e. f.writer.0 (left.writer e), λ written. ap (λ (file : FileState). file.writer) (left.written written) ∙ f.writer.1 written);
  writes_bytes = f.writes_bytes;
  writes_size = f.writes_size;
  one_place = f.one_place;
}

file_made : (client : ClientId) (done : ℕ) (inode : CachedInode) (flush : Option Flush) (next : FileState) → IsMadeUnheld client done inode flush next → FollowsFile client done inode flush next
file_made client done inode flush next made = record {
  contents = λ held counts. absurd (true≢false (sym held ∙ made.bytes));
  size = λ held counts. absurd (true≢false (sym held ∙ made.size));
  turns = λ held counts rest. absurd (true≢false (sym held ∙ made.bytes));
  flushes = λ other is way. absurd (true≢false (sym (or_right inode.file.unflushed (is_under_way done flush) way) ∙ made.written));
  writer = (λ e. absurd (made.writer e), λ written. absurd (true≢false (sym written ∙ made.written)));
  writes_bytes = λ written. absurd (true≢false (sym written ∙ made.written));
  writes_size = λ written. absurd (true≢false (sym written ∙ made.written));
  one_place = λ other is. neither_left inode.file.unflushed (is_under_way done flush) made.written;
}

node_left : (tree : Tree) (client : ClientId) (done : ℕ) (inode : CachedInode) (flush : Option Flush) (ino : Ino) (node : Option Node) (next : FileState) → node_at tree ino ≡ node
    → LeavesNode client done inode flush node next → ((file : FileState) → node_at tree ino ≡ Some (Regular file) → FollowsFile client done inode flush file) → FollowsFile client done inode flush next
node_left tree client done inode flush ino (Some (Regular file)) next e left follows = file_left client done inode flush file next left (follows file e)
node_left tree client done inode flush ino (Some (Directory names)) next e left follows = file_made client done inode flush next left
node_left tree client done inode flush ino None next e left follows = file_made client done inode flush next left

pub entries_left : (tree next : Tree) (node : Option Node) (entries : List DirectoryEntry) → All (λ entry. kind_of (node_at next entry.ino) ≡ kind_of (node_at tree entry.ino)) entries → HasEntries tree node entries
    → HasEntries next node entries
entries_left tree next (Some (Directory names)) entries kinds has = record { same = has.same; kinds = λ i d within. kinds i d within ∙ has.kinds i d within }
entries_left tree next (Some (Regular file)) entries kinds has = tt
entries_left tree next None entries kinds has = tt

pub others_followed : (tree next : Tree) (client : ClientId) (done : ℕ) (known : Known) → LeavesHeld tree next client done known → Follows tree client done known → Follows next client done known
others_followed tree next client done known left f = record {
  root_is = left.names.root_stays ∙ f.root_is;
  table = f.table ∙ sym left.names.table;
  open_files = λ fd descriptor e.
      (let before = ap (λ table. get_or table fd None) (sym left.names.table) ∙ e in
      left.names.open_files fd descriptor before ∙ f.open_files fd descriptor before);
  entries = λ ino held. subst (λ (node : Option Node). HasEntries next node (inode_at known ino).entries) (sym (left.names.directories ino held))
      (entries_left tree next (node_at tree ino) (inode_at known ino).entries (left.names.kinds ino held) (f.entries ino held));
  files = λ ino file e. node_left tree client done (inode_at known ino) (flush_at known ino) ino (node_at tree ino) file refl (left.files ino file e) (f.files ino);
}
