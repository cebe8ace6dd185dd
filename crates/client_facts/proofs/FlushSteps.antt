-- What is known goes on to follow the tree when a flush is done.
use Rattle.std.proofs.Common.{◌≡◌, ◌≢◌, ◌||◌, ◌≤◌, ◌<◌, ◌∷◌, ℕ, zero, suc, Bool, true, false, not, nat_le, nat_lt, List, [], length, All, filter, find, get_or, cond, if◌then◌else◌, Option, Some, None, refl, sym, ap, subst, ◌∙◌, arith}
use Rattle.std.specs.List.{AllPairs}
use Rattle.std.proofs.lemmas.Bool.{true≢false, eq-eqb, eqb-true, le-leb, le-ltb, ne_eqb}
use Rattle.cal_base.specs.declared.identity.ClientId.{ClientId}
use Rattle.cal_base.specs.declared.identity.Ino.{Ino}
use Rattle.token_kind.specs.declared.«class».Class.TheVariants.{Data, Attr}
use Rattle.token_kind.specs.declared.flush.Flush.{Flush}
use Rattle.token_kind.specs.declared.hold.Hold.{Hold}
use Rattle.token_kind.specs.declared.hold.Hold.TheVariants.{None as Nothing, Read, Write}
use Rattle.tree_law.specs.FileState.{FileState}
use Rattle.tree_law.specs.PartOf.{HasEntries}
use Rattle.tree_law.specs.Tree.{Tree, node_at}
use Rattle.client_cache.specs.Changes.{after_flushed, flush_numbered, flushed_inode, holding, is_numbered, left_with, without_flush}
use Rattle.client_cache.specs.Follows.{Follows, FollowsFile, has_written}
use Rattle.client_cache.specs.Holds.{is_held}
use Rattle.client_cache.specs.declared.cached_inode.CachedInode.{CachedInode}
use Rattle.client_facts.specs.Leaves.{LeavesOfHeld}
use Rattle.client_facts.proofs.KnownSteps.{change_followed}
use Rattle.client_cache.specs.IsKnown.{IsKnown, IsLater}
use Rattle.client_cache.specs.Known.{Known, flush_at, inode_at, is_flush_of}

-- what is found is one of all
pub found_is : (test : Flush → Bool) (P : Flush → Type 0) (flushes : List Flush) (flush : Flush) → find test flushes ≡ Some flush → All P flushes → P flush
found_is test P [] flush e all = absurd (cc)
found_is test P (head ∷ flushes) flush e all = by (test head) (λ e. found_is test P flushes flush e (λ i d within. all (suc i) d (omega (arith, within)))) e
  where
    by : (b : Bool) → (find test flushes ≡ Some flush → P flush) → cond b (Some head) (find test flushes) ≡ Some flush → P flush
    by true others e = subst P (same head flush e) (all 0 head (omega arith))
      where
        same : (a b : Flush) → Some a ≡ Some b → a ≡ b
        same a b e = cc
    by false others e = others e

-- what is found passes the test
pub found_passes : (test : Flush → Bool) (flushes : List Flush) (flush : Flush) → find test flushes ≡ Some flush → test flush ≡ true
found_passes test [] flush e = absurd (cc)
found_passes test (head ∷ flushes) flush e = by (test head) refl (λ e. found_passes test flushes flush e) e
  where
    same : (a b : Flush) → Some a ≡ Some b → a ≡ b
    same a b e = cc

    by : (b : Bool) → test head ≡ b → (find test flushes ≡ Some flush → test flush ≡ true) → cond b (Some head) (find test flushes) ≡ Some flush → test flush ≡ true
    by true is others e = subst (λ (f : Flush). test f ≡ true) (same head flush e) is
    by false is others e = others e

-- of flushes in the order of their numbers, one a file, that with a number is the one of its file
abbrev pub IsTheOne : ℕ → Ino → Flush → Type 0
IsTheOne number ino flush = is_numbered number flush ≡ is_flush_of ino flush

one_later : (number : ℕ) (head other : Flush) → is_numbered number head ≡ true → IsLater head other → IsTheOne number head.ino other
one_later number head other is later =
    let n : head.number ≡ number = eqb-true head.number number is in
    let after : head.number < other.number = later.number in
    ne_eqb other.number number (λ same. absurd (omega (arith, n, same, after))) ∙ sym (ne_eqb other.ino.0 head.ino.0 (λ same. later.file (sym same)))

pub one_of_file : (number : ℕ) (flushes : List Flush) (flush : Flush) → AllPairs IsLater flushes → find (is_numbered number) flushes ≡ Some flush → All (IsTheOne number flush.ino) flushes
one_of_file number [] flush order e = absurd (cc)
one_of_file number (head ∷ flushes) flush order e = by (is_numbered number head) refl
    (λ e. one_of_file number flushes flush (λ i j d lower within. order (suc i) (suc j) d (omega (arith, lower)) (omega (arith, within))) e) e
  where
    later : (k : ℕ) (d : Flush) → k < length flushes → IsLater head (get_or flushes k d)
    later k d within = order 0 (suc k) d (omega arith) (omega (arith, within))

    same : (a b : Flush) → Some a ≡ Some b → a ≡ b
    same a b e = cc

    by : (b : Bool) → is_numbered number head ≡ b → (find (is_numbered number) flushes ≡ Some flush → All (IsTheOne number flush.ino) flushes) → cond b (Some head) (find (is_numbered number) flushes) ≡ Some flush
        → All (IsTheOne number flush.ino) (head ∷ flushes)
    by true is others e zero d within = is ∙ sym (eq-eqb head.ino.0 flush.ino.0 (ap (λ (f : Flush). f.ino.0) (same head flush e)))
    by true is others e (suc k) d within = subst (λ (f : Flush). IsTheOne number f.ino (get_or flushes k d)) (same head flush e) (one_later number head (get_or flushes k d) is (later k d (omega (arith, within))))
    by false is others e zero d within = is ∙ sym (ne_eqb head.ino.0 flush.ino.0 (found_is (is_numbered number) (λ other. head.ino.0 ≢ other.ino.0) flushes flush e (λ k d within. (later k d within).file)))
    by false is others e (suc k) d within = others e k d (omega (arith, within))

pub find_same : (p q : Flush → Bool) (flushes : List Flush) → All (λ flush. p flush ≡ q flush) flushes → find p flushes ≡ find q flushes
find_same p q [] same = refl
find_same p q (head ∷ flushes) same = ap (λ b. cond b (Some head) (find p flushes)) (same 0 head (omega arith)) ∙ ap (cond (q head) (Some head)) (find_same p q flushes (λ i d within. same (suc i) d (omega (arith, within))))

abbrev pub without : ℕ → List Flush → List Flush
without number flushes = filter (λ flush. not (is_numbered number flush)) flushes

-- without those of a file, none of it is found
find_less : (number : ℕ) (ino : Ino) (flushes : List Flush) → All (IsTheOne number ino) flushes → find (is_flush_of ino) (without number flushes) ≡ None
find_less number ino [] one = refl
find_less number ino (head ∷ flushes) one = by (is_numbered number head) refl (find_less number ino flushes (λ i d within. one (suc i) d (omega (arith, within))))
  where
    by : (b : Bool) → is_numbered number head ≡ b → find (is_flush_of ino) (without number flushes) ≡ None → find (is_flush_of ino) (cond (not b) (head ∷ without number flushes) (without number flushes)) ≡ None
    by true e rest = rest
    by false e rest = ap (λ b. cond b (Some head) (find (is_flush_of ino) (without number flushes))) (sym (one 0 head (omega arith)) ∙ e) ∙ rest

-- of another file the same is found
find_others : (number : ℕ) (ino other : Ino) (flushes : List Flush) → other.0 ≢ ino.0 → All (IsTheOne number ino) flushes → find (is_flush_of other) (without number flushes) ≡ find (is_flush_of other) flushes
find_others number ino other [] apart one = refl
find_others number ino other (head ∷ flushes) apart one = by (is_numbered number head) refl (find_others number ino other flushes apart (λ i d within. one (suc i) d (omega (arith, within))))
  where
    by : (b : Bool) → is_numbered number head ≡ b → find (is_flush_of other) (without number flushes) ≡ find (is_flush_of other) flushes
        → find (is_flush_of other) (cond (not b) (head ∷ without number flushes) (without number flushes)) ≡ cond (is_flush_of other head) (Some head) (find (is_flush_of other) flushes)
    by true e rest = rest ∙ ap (λ b. cond b (Some head) (find (is_flush_of other) flushes))
        (sym (ne_eqb head.ino.0 other.0 (λ same. apart (sym same ∙ eqb-true head.ino.0 ino.0 (sym (one 0 head (omega arith)) ∙ e)))))
    by false e rest = ap (cond (is_flush_of other head) (Some head)) rest

pub neither : (a b : Bool) → a ≡ false → b ≡ false → (a || b) ≡ false
neither true b e f = absurd (true≢false e)
neither false b e f = f

-- what a flush leaves counts as long as that is in the tree
same_count : (b : Bool) (leave x y : Hold) → b ≡ true → is_held (if b then leave else x) ≡ true → is_held (if b then leave else y) ≡ true
same_count true leave x y e held = held
same_count false leave x y e held = absurd (true≢false (sym e))

left_counts : (b : Bool) (leave x : Hold) → b ≡ true → is_held leave ≡ true → is_held (if b then leave else x) ≡ true
left_counts true leave x e held = held
left_counts false leave x e held = absurd (true≢false (sym e))

-- of a file whose flush is in the tree nothing is written
done_unwritten : (client : ClientId) (done : ℕ) (inode : CachedInode) (flush : Flush) (file : FileState) → flush.number ≤ done → FollowsFile client done inode (Some flush) file → has_written done inode (Some flush) ≡ false
done_unwritten client done inode flush file before f = neither inode.file.unflushed (nat_lt done flush.number) (f.one_place flush refl) (le-ltb done flush.number before)

bytes_held : (client : ClientId) (done : ℕ) (hold : Hold) (inode : CachedInode) (flush : Flush) (file : FileState) → is_held inode.holds.contents ≡ true → flush.number ≤ done
    → FollowsFile client done inode (Some flush) file → FollowsFile client done (holding inode Data hold) (Some flush) file
bytes_held client done hold inode flush file was before f = record {
  contents = λ held counts. f.contents was (same_count (nat_le flush.number done) flush.leave_data hold inode.holds.contents (le-leb flush.number done before) counts);
  size = f.size;
  turns = λ held counts rest. f.turns was (same_count (nat_le flush.number done) flush.leave_data hold inode.holds.contents (le-leb flush.number done before) counts) rest;
  flushes = f.flushes;
  writer = f.writer;
  writes_bytes = λ written. absurd (true≢false (sym written ∙ done_unwritten client done inode flush file before f));
  writes_size = f.writes_size;
  one_place = f.one_place;
}

bytes_done : (client : ClientId) (done : ℕ) (hold : Hold) (inode : CachedInode) (flush : Flush) (file : FileState) → (is_held hold ≡ true → is_held inode.holds.contents ≡ true) → flush.number ≤ done
    → FollowsFile client done inode (Some flush) file → FollowsFile client done (left_with Data hold inode) (Some flush) file
bytes_done client done Nothing inode flush file less before f =
    let past : nat_lt done flush.number ≡ false = le-ltb done flush.number before in
    record {
      contents = λ held counts. absurd (true≢false (sym held));
      size = f.size;
      turns = λ held counts rest. absurd (true≢false (sym held));
      flushes = f.flushes;
      writer = (λ e. absurd (true≢false (sym (f.writer.0 e) ∙ done_unwritten client done inode flush file before f)), λ written. absurd (true≢false (sym written ∙ past)));
      writes_bytes = λ written. absurd (true≢false (sym written ∙ past));
      writes_size = λ written. absurd (true≢false (sym written ∙ past));
      one_place = λ other e. refl;
    }
bytes_done client done Read inode flush file less before f = bytes_held client done Read inode flush file (less refl) before f
bytes_done client done Write inode flush file less before f = bytes_held client done Write inode flush file (less refl) before f

size_held : (client : ClientId) (done : ℕ) (hold : Hold) (inode : CachedInode) (flush : Flush) (file : FileState) → is_held inode.holds.attr ≡ true → flush.number ≤ done
    → FollowsFile client done inode (Some flush) file → FollowsFile client done (holding inode Attr hold) (Some flush) file
size_held client done hold inode flush file was before f = record {
  contents = f.contents;
  size = λ held counts. f.size was (same_count (nat_le flush.number done) flush.leave_attr hold inode.holds.attr (le-leb flush.number done before) counts);
  turns = f.turns;
  flushes = f.flushes;
  writer = f.writer;
  writes_bytes = f.writes_bytes;
  writes_size = λ written. absurd (true≢false (sym written ∙ done_unwritten client done inode flush file before f));
  one_place = f.one_place;
}

size_done : (client : ClientId) (done : ℕ) (hold : Hold) (inode : CachedInode) (flush : Flush) (file : FileState) → (is_held hold ≡ true → is_held inode.holds.attr ≡ true) → flush.number ≤ done
    → FollowsFile client done inode (Some flush) file → FollowsFile client done (left_with Attr hold inode) (Some flush) file
size_done client done Nothing inode flush file less before f = record {
  contents = f.contents;
  size = λ held counts. absurd (true≢false (sym held));
  turns = f.turns;
  flushes = f.flushes;
  writer = f.writer;
  writes_bytes = f.writes_bytes;
  writes_size = λ written. absurd (true≢false (sym written ∙ done_unwritten client done inode flush file before f));
  one_place = f.one_place;
}
size_done client done Read inode flush file less before f = size_held client done Read inode flush file (less refl) before f
size_done client done Write inode flush file less before f = size_held client done Write inode flush file (less refl) before f

-- where what is held is what the flush leaves, nothing more is outstanding
flush_gone : (client : ClientId) (done : ℕ) (inode : CachedInode) (flush : Flush) (file : FileState) → inode.holds.contents ≡ flush.leave_data → inode.holds.attr ≡ flush.leave_attr → flush.number ≤ done
    → FollowsFile client done inode (Some flush) file → FollowsFile client done inode None file
flush_gone client done inode flush file bytes size before f =
    let there : nat_le flush.number done ≡ true = le-leb flush.number done before in
    let idle : has_written done inode None ≡ false = neither inode.file.unflushed false (f.one_place flush refl) refl in
    record {
      contents = λ held counts. f.contents held (left_counts (nat_le flush.number done) flush.leave_data inode.holds.contents there (ap is_held (sym bytes) ∙ held));
      size = λ held counts. f.size held (left_counts (nat_le flush.number done) flush.leave_attr inode.holds.attr there (ap is_held (sym size) ∙ held));
      turns = λ held counts rest. f.turns held (left_counts (nat_le flush.number done) flush.leave_data inode.holds.contents there (ap is_held (sym bytes) ∙ held)) (le-ltb done flush.number before);
      flushes = λ other e way. absurd (true≢false (sym way));
      writer = (λ e. absurd (true≢false (sym (f.writer.0 e) ∙ done_unwritten client done inode flush file before f)), λ written. absurd (true≢false (sym written ∙ idle)));
      writes_bytes = λ written. absurd (true≢false (sym written ∙ idle));
      writes_size = λ written. absurd (true≢false (sym written ∙ idle));
      one_place = λ other e. f.one_place flush refl;
    }

data_is : (hold : Hold) (inode : CachedInode) → (left_with Data hold inode).holds.contents ≡ hold
data_is Nothing inode = refl
data_is Read inode = refl
data_is Write inode = refl

attr_is : (hold : Hold) (inode : CachedInode) → (left_with Attr hold inode).holds.attr ≡ hold
attr_is Nothing inode = refl
attr_is Read inode = refl
attr_is Write inode = refl

data_beside : (hold : Hold) (inode : CachedInode) → (left_with Attr hold inode).holds.contents ≡ inode.holds.contents
data_beside Nothing inode = refl
data_beside Read inode = refl
data_beside Write inode = refl

attr_beside : (hold : Hold) (inode : CachedInode) → (left_with Data hold inode).holds.attr ≡ inode.holds.attr
attr_beside Nothing inode = refl
attr_beside Read inode = refl
attr_beside Write inode = refl

file_done : (client : ClientId) (done : ℕ) (inode : CachedInode) (flush : Flush) (file : FileState) → LeavesOfHeld inode flush → flush.number ≤ done
    → FollowsFile client done inode (Some flush) file → FollowsFile client done (flushed_inode flush.leave_data flush.leave_attr inode) None file
file_done client done inode flush file leaves before f =
    let middle : CachedInode = left_with Data flush.leave_data inode in
    flush_gone client done (left_with Attr flush.leave_attr middle) flush file (data_beside flush.leave_attr middle ∙ data_is flush.leave_data inode) (attr_is flush.leave_attr middle) before
    (size_done client done flush.leave_attr middle flush file (λ held. ap is_held (attr_beside flush.leave_data inode) ∙ leaves.size held) before
    (bytes_done client done flush.leave_data inode flush file leaves.bytes before f))

-- entries stay as they are
entries_by_data : (tree : Tree) (ino : Ino) (hold : Hold) (inode : CachedInode) → (is_held inode.holds.names ≡ true → HasEntries tree (node_at tree ino) inode.entries)
    → is_held (left_with Data hold inode).holds.names ≡ true → HasEntries tree (node_at tree ino) (left_with Data hold inode).entries
entries_by_data tree ino Nothing inode has held = has held
entries_by_data tree ino Read inode has held = has held
entries_by_data tree ino Write inode has held = has held

entries_by_attr : (tree : Tree) (ino : Ino) (hold : Hold) (inode : CachedInode) → (is_held inode.holds.names ≡ true → HasEntries tree (node_at tree ino) inode.entries)
    → is_held (left_with Attr hold inode).holds.names ≡ true → HasEntries tree (node_at tree ino) (left_with Attr hold inode).entries
entries_by_attr tree ino Nothing inode has held = has held
entries_by_attr tree ino Read inode has held = has held
entries_by_attr tree ino Write inode has held = has held

pub done_followed : (tree : Tree) (client : ClientId) (done : ℕ) (known : Known) (flush : Flush) → IsKnown known → flush_numbered known flush.number ≡ Some flush → flush.number ≤ done → LeavesOfHeld (inode_at known flush.ino) flush
    → Follows tree client done known → Follows tree client done (after_flushed known flush.number)
done_followed tree client done known flush is found before leaves f =
    let one : All (IsTheOne flush.number flush.ino) known.flushes = one_of_file flush.number known.flushes flush is.order found in
    let its : flush_at known flush.ino ≡ Some flush = sym (find_same (is_numbered flush.number) (is_flush_of flush.ino) known.flushes one) ∙ found in
    subst (λ (o : Option Flush). Follows tree client done (without_flush known flush.number o)) (sym found)
    (change_followed tree client done known flush.ino (flushed_inode flush.leave_data flush.leave_attr (inode_at known flush.ino)) (without flush.number known.flushes) known.last_flush is
    (found_is (is_numbered flush.number) (λ other. other.ino.0 < 512) known.flushes flush found (λ i d within. (is.flushes i d within).ino))
    (λ other apart. find_others flush.number flush.ino other known.flushes apart one)
    (entries_by_attr tree flush.ino flush.leave_attr (left_with Data flush.leave_data (inode_at known flush.ino)) (entries_by_data tree flush.ino flush.leave_data (inode_at known flush.ino) (f.entries flush.ino)))
    (λ file e. subst (λ (o : Option Flush). FollowsFile client done (flushed_inode flush.leave_data flush.leave_attr (inode_at known flush.ino)) o file) (sym (find_less flush.number flush.ino known.flushes one))
    (file_done client done (inode_at known flush.ino) flush file leaves before (subst (λ (o : Option Flush). FollowsFile client done (inode_at known flush.ino) o file) its (f.files flush.ino file e))))
    f)
