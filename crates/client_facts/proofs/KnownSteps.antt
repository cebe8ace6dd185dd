-- What is known goes on to follow the tree when it changes itself.
use Rattle.std.proofs.Common.{◌≡◌, ◌≢◌, ◌||◌, ◌≤◌, ◌<◌, ◌+◌, ◌++◌, ◌∷◌, ℕ, true, false, nat_lt, nat_le, List, [], find, slice_set, is_none, cond, Option, Some, None, refl, sym, ap, subst, ◌∙◌, arith, inl, inr}
use Rattle.std.specs.Option.{option_or}
use Rattle.std.proofs.lemmas.Bool.{true≢false, cases_eq, eq-eqb, lt-leb, lt-ltb, ne_eqb}
use Rattle.std.proofs.lemmas.List.{get_or-set_same, get_or-set_other}
use Rattle.std.proofs.lemmas.List.Folds.{find-append}
use Rattle.cal_base.specs.declared.identity.ClientId.{ClientId}
use Rattle.cal_base.specs.declared.identity.Ino.{Ino}
use Rattle.delayed_write.specs.Delayed.{Turns}
use Rattle.token_kind.specs.Flush.{IsFlushed}
use Rattle.token_kind.specs.Hold.{lesser_of}
use Rattle.token_kind.specs.declared.«class».Class.{Class}
use Rattle.token_kind.specs.declared.«class».Class.TheVariants.{Names, Data, Attr, Open}
use Rattle.token_kind.specs.declared.flush.Flush.{Flush}
use Rattle.token_kind.specs.declared.hold.Hold.{Hold}
use Rattle.token_kind.specs.declared.hold.Hold.TheVariants.{None as Nothing, Read, Write}
use Rattle.tree_law.specs.FileState.{FileState}
use Rattle.tree_law.specs.PartOf.{HasEntries}
use Rattle.tree_law.specs.Tree.{Tree, node_at}
use Rattle.tree_law.specs.declared.node.Node.TheVariants.{Regular}
use Rattle.client_cache.specs.declared.cached_inode.CachedInode.{CachedInode}
use Rattle.client_cache.specs.Changes.{after_lower, after_start, cleaned, holding, left_with, lowered, new_flush}
use Rattle.client_cache.specs.Follows.{Follows, FollowsFile, has_written}
use Rattle.client_cache.specs.Holds.{is_held}
use Rattle.client_cache.specs.IsKnown.{IsKnown}
use Rattle.client_cache.specs.Known.{Known, flush_at, inode_at, is_flush_of, is_settled, nothing_known}
use Rattle.client_facts.specs.Lowers.{MayLower}
use Rattle.client_facts.proofs.FileSteps.{or_left}

pub none_from : {X : Type 0} (o : Option X) → is_none o ≡ true → o ≡ None
none_from None e = refl
none_from (Some x) e = absurd (cc)

-- what is known with another inode, its descriptors as they are
abbrev pub changed : Known → Ino → CachedInode → List Flush → ℕ → Known
changed known ino inode flushes last = record { inodes = slice_set known.inodes ino.0 inode; table = known.table; flushes = flushes; last_flush = last }

-- it follows the tree on where the inode does, and where the others have the same outstanding flushes
pub change_followed : (tree : Tree) (client : ClientId) (done : ℕ) (known : Known) (ino : Ino) (inode : CachedInode) (flushes : List Flush) (last : ℕ) → IsKnown known → ino.0 < 512
    → ((other : Ino) → other.0 ≢ ino.0 → find (is_flush_of other) flushes ≡ flush_at known other)
    → (is_held inode.holds.names ≡ true → HasEntries tree (node_at tree ino) inode.entries)
    → ((file : FileState) → node_at tree ino ≡ Some (Regular file) → FollowsFile client done inode (find (is_flush_of ino) flushes) file)
    → Follows tree client done known → Follows tree client done (changed known ino inode flushes last)
change_followed tree client done known ino inode flushes last is inside same entries here f = record {
  root_is = f.root_is;
  table = f.table;
  open_files = f.open_files;
  entries = λ other. elim (cases_eq other.0 ino.0) as (λ _. is_held (inode_at (changed known ino inode flushes last) other).holds.names ≡ true
      → HasEntries tree (node_at tree other) (inode_at (changed known ino inode flushes last) other).entries) [
        | inl e ↦ subst (λ (k : ℕ). is_held (inode_at (changed known ino inode flushes last) (record { 0 = k })).holds.names ≡ true
            → HasEntries tree (node_at tree (record { 0 = k })) (inode_at (changed known ino inode flushes last) (record { 0 = k })).entries) (sym e)
            (subst (λ (x : CachedInode). is_held x.holds.names ≡ true → HasEntries tree (node_at tree ino) x.entries) (sym set_here) entries)
        | inr apart ↦ subst (λ (x : CachedInode). is_held x.holds.names ≡ true → HasEntries tree (node_at tree other) x.entries) (sym (set_there other apart)) (f.entries other)
      ];
  files = λ other file. elim (cases_eq other.0 ino.0) as (λ _. node_at tree other ≡ Some (Regular file)
      → FollowsFile client done (inode_at (changed known ino inode flushes last) other) (find (is_flush_of other) flushes) file) [
        | inl e ↦ subst (λ (k : ℕ). node_at tree (record { 0 = k }) ≡ Some (Regular file)
            → FollowsFile client done (inode_at (changed known ino inode flushes last) (record { 0 = k })) (find (is_flush_of (record { 0 = k })) flushes) file) (sym e)
            (subst (λ (x : CachedInode). node_at tree ino ≡ Some (Regular file) → FollowsFile client done x (find (is_flush_of ino) flushes) file) (sym set_here) (here file))
        | inr apart ↦ subst (λ (x : CachedInode). node_at tree other ≡ Some (Regular file) → FollowsFile client done x (find (is_flush_of other) flushes) file) (sym (set_there other apart))
            (subst (λ (flush : Option Flush). node_at tree other ≡ Some (Regular file) → FollowsFile client done (inode_at known other) flush file) (sym (same other apart)) (f.files other file))
      ];
}
  where
    set_here : inode_at (changed known ino inode flushes last) ino ≡ inode
    set_here = get_or-set_same known.inodes ino.0 inode nothing_known (omega (arith, is.inodes, inside))

    set_there : (other : Ino) → other.0 ≢ ino.0 → inode_at (changed known ino inode flushes last) other ≡ inode_at known other
    set_there other apart = get_or-set_other known.inodes ino.0 other.0 inode nothing_known apart

-- a flush starts: before it nothing was outstanding, and something unflushed
file_started : (client : ClientId) (done : ℕ) (inode : CachedInode) (flush : Flush) (file : FileState) → inode.file.unflushed ≡ true → nat_lt done flush.number ≡ true → nat_le flush.number done ≡ false
    → (Turns file.kept inode.file → file.contents ≡ inode.file.contents → IsFlushed file.kept flush.size flush.cut flush.pieces file.contents)
    → FollowsFile client done inode None file → FollowsFile client done (cleaned inode) (Some flush) file
file_started client done inode flush file unflushed way above flushed f =
    let written : has_written done inode None ≡ true = or_left inode.file.unflushed false unflushed in
    let held : is_held inode.holds.contents ≡ true = ap is_held (f.writes_bytes written) in
    record {
      contents = λ held counts. f.contents held held;
      size = λ held counts. f.size held held;
      turns = λ held counts rest. absurd (true≢false (sym way ∙ rest));
      flushes = λ other e rest. subst (λ (o : Flush). IsFlushed file.kept o.size o.cut o.pieces file.contents) (same flush other e)
          (flushed (f.turns held held refl) (f.contents held held));
      writer = (λ e. way, λ e. f.writer.1 written);
      writes_bytes = λ e. f.writes_bytes written;
      writes_size = λ e. f.writes_size written;
      one_place = λ other e. refl;
    }
  where
    same : (a b : Flush) → Some a ≡ Some b → a ≡ b
    same a b e = cc

-- a flush behind the others is found where none of its file is
find_new : (flushes : List Flush) (flush : Flush) → find (is_flush_of flush.ino) flushes ≡ None → find (is_flush_of flush.ino) (flushes ++ flush ∷ []) ≡ Some flush
find_new flushes flush none = find-append (is_flush_of flush.ino) flushes (flush ∷ []) ∙ ap (λ o. option_or o (find (is_flush_of flush.ino) (flush ∷ []))) none
    ∙ ap (λ b. cond b (Some flush) None) (eq-eqb flush.ino.0 flush.ino.0 refl)

find_old : (flushes : List Flush) (flush : Flush) (ino : Ino) → ino.0 ≢ flush.ino.0 → find (is_flush_of ino) (flushes ++ flush ∷ []) ≡ find (is_flush_of ino) flushes
find_old flushes flush ino apart = find-append (is_flush_of ino) flushes (flush ∷ []) ∙ ap (λ b. option_or (find (is_flush_of ino) flushes) (cond b (Some flush) None)) (ne_eqb flush.ino.0 ino.0 (λ e. apart (sym e)))
    ∙ or_none (find (is_flush_of ino) flushes)
  where
    or_none : (o : Option Flush) → option_or o None ≡ o
    or_none None = refl
    or_none (Some x) = refl

pub start_followed : (tree : Tree) (client : ClientId) (done : ℕ) (known : Known) (ino : Ino) (leave_data leave_attr : Hold) → IsKnown known → ino.0 < 512 → is_settled known ino ≡ true → (inode_at known ino).file.unflushed ≡ true
    → done ≤ known.last_flush → Follows tree client done known → Follows tree client done (after_start known (new_flush known ino leave_data leave_attr))
start_followed tree client done known ino leave_data leave_attr is inside settled unflushed above f =
    let flush : Flush = new_flush known ino leave_data leave_attr in
    let none : flush_at known ino ≡ None = none_from (flush_at known ino) settled in
    change_followed tree client done known ino (cleaned (inode_at known ino)) (known.flushes ++ flush ∷ []) (known.last_flush + 1) is inside
    (λ other apart. find_old known.flushes flush other apart)
    (f.entries ino)
    (λ file e. subst (λ (o : Option Flush). FollowsFile client done (cleaned (inode_at known ino)) o file) (sym (find_new known.flushes flush none))
    (file_started client done (inode_at known ino) flush file unflushed (lt-ltb done (known.last_flush + 1) (omega (arith, above))) (lt-leb (known.last_flush + 1) done (omega (arith, above)))
    (λ turns same. subst (λ (bytes : List ℕ). IsFlushed file.kept flush.size flush.cut flush.pieces bytes) (sym same) turns.flushed)
    (subst (λ (o : Option Flush). FollowsFile client done (inode_at known ino) o file) none (f.files ino file e))))
    f

-- a file of which nothing is outstanding or unflushed
pub unwritten : (inode : CachedInode) → inode.file.unflushed ≡ false → (inode.file.unflushed || false) ≡ false
unwritten inode clean = ap (λ b. b || false) clean

bytes_held : (client : ClientId) (done : ℕ) (hold : Hold) (inode : CachedInode) (file : FileState) → is_held inode.holds.contents ≡ true → inode.file.unflushed ≡ false
    → FollowsFile client done inode None file → FollowsFile client done (holding inode Data hold) None file
bytes_held client done hold inode file was clean f = record {
  contents = λ held counts. f.contents was was;
  size = f.size;
  turns = λ held counts rest. f.turns was was refl;
  flushes = f.flushes;
  writer = f.writer;
  writes_bytes = λ written. absurd (true≢false (sym written ∙ unwritten inode clean));
  writes_size = f.writes_size;
  one_place = f.one_place;
}

size_held : (client : ClientId) (done : ℕ) (hold : Hold) (inode : CachedInode) (file : FileState) → is_held inode.holds.attr ≡ true → inode.file.unflushed ≡ false
    → FollowsFile client done inode None file → FollowsFile client done (holding inode Attr hold) None file
size_held client done hold inode file was clean f = record {
  contents = f.contents;
  size = λ held counts. f.size was was;
  turns = f.turns;
  flushes = f.flushes;
  writer = f.writer;
  writes_bytes = f.writes_bytes;
  writes_size = λ written. absurd (true≢false (sym written ∙ unwritten inode clean));
  one_place = f.one_place;
}

-- a hold of the bytes, or of the size, of a file of which nothing is outstanding or unflushed is lowered
file_bytes_lowered : (client : ClientId) (done : ℕ) (hold : Hold) (inode : CachedInode) (file : FileState) → (is_held hold ≡ true → is_held inode.holds.contents ≡ true) → inode.file.unflushed ≡ false
    → FollowsFile client done inode None file → FollowsFile client done (left_with Data hold inode) None file
file_bytes_lowered client done Nothing inode file less clean f = record {
  contents = λ held counts. absurd (true≢false (sym held));
  size = f.size;
  turns = λ held counts rest. absurd (true≢false (sym held));
  flushes = f.flushes;
  writer = (λ e. absurd (true≢false (sym (f.writer.0 e) ∙ unwritten inode clean)), λ written. absurd (true≢false (sym written)));
  writes_bytes = λ written. absurd (true≢false (sym written));
  writes_size = λ written. absurd (true≢false (sym written));
  one_place = λ other e. refl;
}
file_bytes_lowered client done Read inode file less clean f = bytes_held client done Read inode file (less refl) clean f
file_bytes_lowered client done Write inode file less clean f = bytes_held client done Write inode file (less refl) clean f

file_size_lowered : (client : ClientId) (done : ℕ) (hold : Hold) (inode : CachedInode) (file : FileState) → (is_held hold ≡ true → is_held inode.holds.attr ≡ true) → inode.file.unflushed ≡ false
    → FollowsFile client done inode None file → FollowsFile client done (left_with Attr hold inode) None file
file_size_lowered client done Nothing inode file less clean f = record {
  contents = f.contents;
  size = λ held counts. absurd (true≢false (sym held));
  turns = f.turns;
  flushes = f.flushes;
  writer = f.writer;
  writes_bytes = f.writes_bytes;
  writes_size = λ written. absurd (true≢false (sym written ∙ unwritten inode clean));
  one_place = f.one_place;
}
file_size_lowered client done Read inode file less clean f = size_held client done Read inode file (less refl) clean f
file_size_lowered client done Write inode file less clean f = size_held client done Write inode file (less refl) clean f

-- other holds are lowered
lowered_held : (hold to : Hold) → is_held (lesser_of hold to) ≡ true → is_held hold ≡ true
lowered_held Nothing to e = e
lowered_held Read to e = refl
lowered_held Write to e = refl

file_names_lowered : (client : ClientId) (done : ℕ) (hold : Hold) (inode : CachedInode) (flush : Option Flush) (file : FileState) → FollowsFile client done inode flush file
    → FollowsFile client done (left_with Names hold inode) flush file
file_names_lowered client done Nothing inode flush file f = record { contents = f.contents; size = f.size; turns = f.turns; flushes = f.flushes; writer = f.writer; writes_bytes = f.writes_bytes; writes_size = f.writes_size; one_place = f.one_place }
file_names_lowered client done Read inode flush file f = record { contents = f.contents; size = f.size; turns = f.turns; flushes = f.flushes; writer = f.writer; writes_bytes = f.writes_bytes; writes_size = f.writes_size; one_place = f.one_place }
file_names_lowered client done Write inode flush file f = record { contents = f.contents; size = f.size; turns = f.turns; flushes = f.flushes; writer = f.writer; writes_bytes = f.writes_bytes; writes_size = f.writes_size; one_place = f.one_place }

file_open_lowered : (client : ClientId) (done : ℕ) (hold : Hold) (inode : CachedInode) (flush : Option Flush) (file : FileState) → FollowsFile client done inode flush file
    → FollowsFile client done (left_with Open hold inode) flush file
file_open_lowered client done Nothing inode flush file f = record { contents = f.contents; size = f.size; turns = f.turns; flushes = f.flushes; writer = f.writer; writes_bytes = f.writes_bytes; writes_size = f.writes_size; one_place = f.one_place }
file_open_lowered client done Read inode flush file f = record { contents = f.contents; size = f.size; turns = f.turns; flushes = f.flushes; writer = f.writer; writes_bytes = f.writes_bytes; writes_size = f.writes_size; one_place = f.one_place }
file_open_lowered client done Write inode flush file f = record { contents = f.contents; size = f.size; turns = f.turns; flushes = f.flushes; writer = f.writer; writes_bytes = f.writes_bytes; writes_size = f.writes_size; one_place = f.one_place }

file_lowered : (client : ClientId) (done : ℕ) (known : Known) (ino : Ino) (cls : Class) (to : Hold) (file : FileState) → MayLower known ino cls
    → FollowsFile client done (inode_at known ino) None file → FollowsFile client done (lowered cls to (inode_at known ino)) None file
file_lowered client done known ino Names to file may f = file_names_lowered client done (lesser_of (inode_at known ino).holds.names to) (inode_at known ino) None file f
file_lowered client done known ino Data to file may f = file_bytes_lowered client done (lesser_of (inode_at known ino).holds.contents to) (inode_at known ino) file (lowered_held (inode_at known ino).holds.contents to) may f
file_lowered client done known ino Attr to file may f = file_size_lowered client done (lesser_of (inode_at known ino).holds.attr to) (inode_at known ino) file (lowered_held (inode_at known ino).holds.attr to) may f
file_lowered client done known ino Open to file may f = file_open_lowered client done (lesser_of (inode_at known ino).holds.«open» to) (inode_at known ino) None file f

-- entries that are held after a lowering were held before it
names_lowered : (tree : Tree) (ino : Ino) (hold : Hold) (inode : CachedInode) → (is_held hold ≡ true → is_held inode.holds.names ≡ true) → (is_held inode.holds.names ≡ true → HasEntries tree (node_at tree ino) inode.entries)
    → is_held (left_with Names hold inode).holds.names ≡ true → HasEntries tree (node_at tree ino) (left_with Names hold inode).entries
names_lowered tree ino Nothing inode less has held = absurd (true≢false (sym held))
names_lowered tree ino Read inode less has held = has (less refl)
names_lowered tree ino Write inode less has held = has (less refl)

names_beside : (tree : Tree) (ino : Ino) (cls : Class) (to : Hold) (inode : CachedInode) → (is_held inode.holds.names ≡ true → HasEntries tree (node_at tree ino) inode.entries)
    → is_held (lowered cls to inode).holds.names ≡ true → HasEntries tree (node_at tree ino) (lowered cls to inode).entries
names_beside tree ino Names to inode has = names_lowered tree ino (lesser_of inode.holds.names to) inode (lowered_held inode.holds.names to) has
names_beside tree ino Data to inode has = elim (lesser_of inode.holds.contents to) as (λ h. is_held (left_with Data h inode).holds.names ≡ true → HasEntries tree (node_at tree ino) (left_with Data h inode).entries) [ Nothing ↦ has | Read ↦ has | Write ↦ has ]
names_beside tree ino Attr to inode has = elim (lesser_of inode.holds.attr to) as (λ h. is_held (left_with Attr h inode).holds.names ≡ true → HasEntries tree (node_at tree ino) (left_with Attr h inode).entries) [ Nothing ↦ has | Read ↦ has | Write ↦ has ]
names_beside tree ino Open to inode has = elim (lesser_of inode.holds.«open» to) as (λ h. is_held (left_with Open h inode).holds.names ≡ true → HasEntries tree (node_at tree ino) (left_with Open h inode).entries) [ Nothing ↦ has | Read ↦ has | Write ↦ has ]

pub lowering_followed : (tree : Tree) (client : ClientId) (done : ℕ) (known : Known) (ino : Ino) (cls : Class) (to : Hold) → IsKnown known → ino.0 < 512 → is_settled known ino ≡ true → MayLower known ino cls
    → Follows tree client done known → Follows tree client done (after_lower known ino cls to)
lowering_followed tree client done known ino cls to is inside settled may f =
    let none : flush_at known ino ≡ None = none_from (flush_at known ino) settled in
    change_followed tree client done known ino (lowered cls to (inode_at known ino)) known.flushes known.last_flush is inside
    (λ other apart. refl)
    (names_beside tree ino cls to (inode_at known ino) (f.entries ino))
    (λ file e. subst (λ (o : Option Flush). FollowsFile client done (lowered cls to (inode_at known ino)) o file) (sym none)
    (file_lowered client done known ino cls to file may (subst (λ (o : Option Flush). FollowsFile client done (inode_at known ino) o file) none (f.files ino file e))))
    f
