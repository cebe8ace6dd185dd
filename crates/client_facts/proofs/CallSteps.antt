-- What is known goes on to follow the tree through a call that the client answers by itself.
use Rattle.std.proofs.Common.{◌≡◌, ◌≢◌, ◌&&◌, ◌⊎◌, ◌≤◌, ◌<◌, ◌+◌, ◌/◌, ◌∷◌, inl, inr, ℕ, zero, suc, Bool, true, false, nat_eq, nat_le, nat_lt, List, [], length, get_or, set, if◌then◌else◌, Option, Some, None, Result, Ok, Err, refl, sym, ap, subst, ◌∙◌, arith}
use Rattle.std.proofs.lemmas.Bool.{true≢false, and_parts, cases_eq, cases_lt, ltb-false}
use Rattle.std.proofs.lemmas.List.{get_or-set_same, get_or-set_other, get_or_past}
use Rattle.cal_base.specs.declared.directory_entry.DirectoryEntry.{DirectoryEntry}
use Rattle.cal_base.specs.declared.directory_entry.EntryKind.{EntryKind}
use Rattle.cal_base.specs.declared.directory_entry.EntryKind.TheVariants.{File as IsFile, Directory as IsDirectory}
use Rattle.cal_base.specs.declared.identity.ClientId.{ClientId}
use Rattle.cal_base.specs.declared.identity.Ino.{Ino}
use Rattle.delayed_write.specs.Delayed.{Delayed, IsDelayed, Turns, after_truncate, after_write}
use Rattle.delayed_write.specs.Marks.{marked_by_shrink, marked_by_truncate, marked_by_write, with_marks}
use Rattle.delayed_write.proofs.MarkLemmas.{length-with_marks}
use Rattle.delayed_write.proofs.TurnLemmas.{truncate_turns, write_turns}
use Rattle.file_bytes.specs.Bytes.{resized, written}
use Rattle.cal_base.specs.Blocks.{block_count}
use Rattle.token_kind.specs.Hold.{hold_number}
use Rattle.token_kind.specs.declared.flush.Flush.{Flush}
use Rattle.token_kind.specs.declared.hold.Hold.{Hold}
use Rattle.token_kind.specs.declared.hold.Hold.TheVariants.{None as Nothing, Read as ForReading, Write as ForWriting}
use Rattle.tree_law.proofs.IdleLemmas.{node_of}
use Rattle.tree_law.proofs.PartLemmas.{Agrees, agrees_resolve}
use Rattle.tree_law.specs.After.{after, after_call, changed_node, with_bytes}
use Rattle.tree_law.specs.After as tree_after
use Rattle.tree_law.specs.Answer.{counted, made}
use Rattle.tree_law.specs.Descriptors.{always, file_behind, opened, within_limit, writable, writes}
use Rattle.tree_law.specs.FileState.{FileState, changed_file}
use Rattle.tree_law.specs.Idle.{swept, with_node}
use Rattle.tree_law.specs.Needs.{want_write, write_needs}
use Rattle.tree_law.specs.Part.{Place, needs_of_want_in, opened_in, opening_in, resolved_in}
use Rattle.tree_law.specs.PartOf.{HasEntries, IsKind, kind_of}
use Rattle.tree_law.specs.Resolve.{as_file, file_named, judged, resolved}
use Rattle.tree_law.specs.Tree.{Tree, least_unused, node_at, table_of}
use Rattle.tree_law.specs.declared.call.Call.{Call}
use Rattle.tree_law.specs.declared.call.Call.TheVariants.{Create, Mkdir, Unlink, Rmdir, Rename, Open, Close, Read, Write, Truncate, Stat, Readdir, Fsync}
use Rattle.tree_law.specs.declared.descriptor.Descriptor.{Descriptor}
use Rattle.tree_law.specs.declared.entry.Entry.TheVariants.{Call as Called}
use Rattle.tree_law.specs.declared.mode.Mode.{Mode}
use Rattle.tree_law.specs.declared.node.Node.{Node}
use Rattle.tree_law.specs.declared.node.Node.TheVariants.{Directory, Regular}
use Rattle.tree_law.specs.declared.reply.Reply.{Reply}
use Rattle.tree_law.specs.declared.reply.Reply.TheVariants.{Done, Fd, Bytes, Count, File, Dir, Names as Listed, Refused}
use Rattle.tree_law.specs.declared.reply.Why.{Why}
use Rattle.tree_law.specs.declared.reply.Why.TheVariants.{BadF, FBig}
use Rattle.client_cache.specs.declared.cached_inode.CachedInode.{CachedInode}
use Rattle.client_cache.specs.AfterAnswer.{after_answer, with_change, with_descriptor, with_file, with_open, with_table}
use Rattle.client_cache.specs.Covered.{are_met, is_met, target_of}
use Rattle.client_cache.specs.Follows.{Follows, FollowsFile}
use Rattle.client_cache.specs.Holds.{is_held}
use Rattle.client_cache.specs.IsKnown.{IsKnown, IsOpenFile}
use Rattle.client_cache.specs.Known.{Known, flush_at, inode_at, is_settled, nothing_known, part_of}
use Rattle.client_cache.proofs.FollowLemmas.{follows_agrees}
use Rattle.client_cache.proofs.KnownLemmas.{cached_at, open_inside}
use Rattle.client_facts.proofs.SweptSteps.{swept_followed}
use Rattle.client_facts.specs.Answers.{IsAnswered}
use Rattle.client_facts.proofs.FileSteps.{entries_left, or_left}
use Rattle.client_facts.proofs.KnownSteps.{none_from}

-- what stands at a place of a list of which one place changed
set_at : {A : Type 0} (xs : List (Option A)) (i j : ℕ) (x : Option A) (y : A) → get_or (set xs i x) j None ≡ Some y → (x ≡ Some y) ⊎ (get_or xs j None ≡ Some y)
set_at [] i j x y e = inr e
set_at (a ∷ xs) zero zero x y e = inl e
set_at (a ∷ xs) zero (suc j) x y e = inr e
set_at (a ∷ xs) (suc i) zero x y e = inr e
set_at (a ∷ xs) (suc i) (suc j) x y e = set_at xs i j x y e

-- the tree has a place for the client's descriptors
has_table : (tree : Tree) (client : ClientId) (done : ℕ) (known : Known) → IsKnown known → Follows tree client done known → client.0 < length tree.tables
has_table tree client done known is f = elim (cases_lt client.0 (length tree.tables)) as (λ _. client.0 < length tree.tables) [
  | inl below ↦ below
  | inr past ↦
      (let none : length known.table ≡ 0 = ap (λ (table : List (Option Descriptor)). length table) (f.table ∙ get_or_past tree.tables client.0 [] past) in
      absurd (omega (arith, none, is.table)))
]

-- something else at a descriptor, in the tree and in what is known
table_followed : (tree : Tree) (client : ClientId) (done : ℕ) (known : Known) (fd : ℕ) (place : Option Descriptor) → IsKnown known → ((d : Descriptor) → place ≡ Some d → IsKind tree d.ino IsFile)
    → Follows tree client done known → Follows (tree_after.with_descriptor tree client fd place) client done (with_descriptor known fd place)
table_followed tree client done known fd place is file f = record {
  root_is = f.root_is;
  table = ap (λ (table : List (Option Descriptor)). set table fd place) f.table ∙ sym same;
  open_files = λ other d e. elim (set_at (table_of tree client) fd other place d (ap (λ (table : List (Option Descriptor)). get_or table other None) (sym same) ∙ e)) as (λ _. IsKind tree d.ino IsFile) [
    | inl here ↦ file d here
    | inr there ↦ f.open_files other d there
  ];
  entries = λ ino held. entries_left tree (tree_after.with_descriptor tree client fd place) (node_at tree ino) (inode_at known ino).entries (λ i d within. refl) (f.entries ino held);
  files = f.files;
}
  where
    same : table_of (tree_after.with_descriptor tree client fd place) client ≡ set (table_of tree client) fd place
    same = get_or-set_same tree.tables client.0 (set (table_of tree client) fd place) [] (has_table tree client done known is f)

-- `stat`, `readdir`, `read` and `fsync` leave the tree as it is, whatever the reply
all_left : (tree : Tree) (client : ClientId) (call : Call) (reply : Reply) (new : Option Ino) (P : Tree → Type 0) → P tree → P (tree_after.carried_out tree client call new) → P (after_call tree client call reply new)
all_left tree client call (Refused why) new P refused done = refused
all_left tree client call Done new P refused done = done
all_left tree client call (Fd fd) new P refused done = done
all_left tree client call (Bytes bytes) new P refused done = done
all_left tree client call (Count count) new P refused done = done
all_left tree client call (File size) new P refused done = done
all_left tree client call Dir new P refused done = done
all_left tree client call (Listed names) new P refused done = done

some_same : (a b : Reply) → Some a ≡ Some b → a ≡ b
some_same a b e = cc

-- a place in which nothing stands may be emptied
set_none : {A : Type 0} (xs : List (Option A)) (i : ℕ) → get_or xs i None ≡ None → set xs i None ≡ xs
set_none [] i e = refl
set_none (x ∷ xs) zero e = ap (λ y. y ∷ xs) (sym e)
set_none (x ∷ xs) (suc i) e = ap (λ ys. x ∷ ys) (set_none xs i e)

-- `close`
close_followed : (tree : Tree) (client : ClientId) (done : ℕ) (known : Known) (fd : ℕ) (reply : Reply) (new : Option Ino) → IsKnown known → made (opened known.table fd) ≡ reply
    → Follows tree client done known → Follows (after_call tree client (Close fd) reply new) client done (with_descriptor known fd None)
close_followed tree client done known fd reply new is told f = by (get_or known.table fd None) refl told
  where
    by : (place : Option Descriptor) → get_or known.table fd None ≡ place → made (file_behind always place) ≡ reply → Follows (after_call tree client (Close fd) reply new) client done (with_descriptor known fd None)
    by None at told = subst (λ (r : Reply). Follows (after_call tree client (Close fd) r new) client done (with_descriptor known fd None)) told
        (subst (λ (table : List (Option Descriptor)). Follows tree client done (with_table known table)) (sym (set_none known.table fd at)) f)
    by (Some descriptor) at told = subst (λ (r : Reply). Follows (after_call tree client (Close fd) r new) client done (with_descriptor known fd None)) told
        (swept_followed (tree_after.with_descriptor tree client fd None) client done (with_descriptor known fd None) (table_followed tree client done known fd None is (λ d e. absurd (cc)) f))

-- `open`
as_file_is : (node : Option Node) (ino : Ino) → kind_of node ≡ Some IsFile → as_file node ino ≡ Ok ino
as_file_is (Some (Directory names)) ino e = absurd (cc)
as_file_is (Some (Regular file)) ino e = refl
as_file_is None ino e = absurd (cc)

open_followed : (tree : Tree) (client : ClientId) (done : ℕ) (known : Known) (path : List (List ℕ)) (mode : Mode) (reply : Reply) (new : Option Ino) → IsKnown known
    → opening_in (least_unused known.table) (resolved_in (part_of known) path) ≡ Some reply → Follows tree client done known → Follows (after_call tree client (Open path mode) reply new) client done (after_answer known (Open path mode))
open_followed tree client done known path mode reply new is told f =
    by (least_unused known.table) refl (resolved_in (part_of known) path) (agrees_resolve tree client (part_of known) (follows_agrees tree client done known f).part path) told
  where
    refused : (why : Why) → Some (Refused why) ≡ Some reply → Follows (after_call tree client (Open path mode) reply new) client done known
    refused why told = subst (λ (r : Reply). Follows (after_call tree client (Open path mode) r new) client done known) (some_same (Refused why) reply told) f

    at_file : (fd : ℕ) (ino : Ino) → least_unused known.table ≡ Some fd → resolved tree path ≡ Ok ino → IsKind tree ino IsFile → Some (Fd fd) ≡ Some reply
        → Follows (after_call tree client (Open path mode) reply new) client done (with_descriptor known fd (Some (record { ino = ino; mode = mode })))
    at_file fd ino free at kind told =
        subst (λ (r : Reply). Follows (after_call tree client (Open path mode) r new) client done later) (some_same (Fd fd) reply told)
        (subst (λ (o : Option ℕ). Follows (swept (tree_after.with_open tree client o (file_named tree path) mode)) client done later) (sym unused)
        (subst (λ (r : Result Ino Why). Follows (swept (tree_after.with_open tree client (Some fd) r mode)) client done later) (sym named)
        (swept_followed (tree_after.with_descriptor tree client fd place) client done later
        (table_followed tree client done known fd place is (λ d e. subst (λ (d : Descriptor). IsKind tree d.ino IsFile) (same_place (record { ino = ino; mode = mode }) d e) kind) f))))
      where
        place : Option Descriptor
        place = Some (record { ino = ino; mode = mode })

        same_place : (a b : Descriptor) → Some a ≡ Some b → a ≡ b
        same_place a b e = cc

        later : Known
        later = with_descriptor known fd place

        unused : least_unused (table_of tree client) ≡ Some fd
        unused = ap least_unused (sym f.table) ∙ free

        named : file_named tree path ≡ Ok ino
        named = ap (λ (r : Result Ino Why). judged as_file tree r) at ∙ as_file_is (node_at tree ino) ino kind

    at_place : (fd : ℕ) (ino : Ino) (kind : EntryKind) → least_unused known.table ≡ Some fd → resolved tree path ≡ Ok ino → IsKind tree ino kind → opened_in fd kind ≡ Some reply
        → Follows (after_call tree client (Open path mode) reply new) client done (with_open known mode (Some fd) (target_of (Some (Ok (ino, kind)))))
    at_place fd ino IsDirectory free at kind told = refused _ told
    at_place fd ino IsFile free at kind told = at_file fd ino free at kind told

    by : (o : Option ℕ) → least_unused known.table ≡ o → (at : Option (Result Place Why)) → Agrees tree at (resolved tree path) → opening_in o at ≡ Some reply
        → Follows (after_call tree client (Open path mode) reply new) client done (with_open known mode o (target_of at))
    by None free at agrees told = refused _ told
    by (Some fd) free None agrees told = absurd (cc)
    by (Some fd) free (Some (Err why)) agrees told = refused why told
    by (Some fd) free (Some (Ok place)) agrees told = at_place fd place.0 place.1 free agrees.same agrees.kind told

-- `write`, `truncate`: what stands at the number of a file whose bytes change
abbrev pub with_change_of : Tree → ClientId → (List ℕ → List ℕ) → Ino → Tree
with_change_of tree client bytes ino = with_node tree ino.0 (changed_node client bytes (node_at tree ino))

changed_here : (client : ClientId) (bytes : List ℕ → List ℕ) (nodes : List (Option Node)) (m : ℕ) → get_or (set nodes m (changed_node client bytes (get_or nodes m None))) m None ≡ changed_node client bytes (get_or nodes m None)
changed_here client bytes [] m = refl
changed_here client bytes (place ∷ nodes) zero = refl
changed_here client bytes (place ∷ nodes) (suc m) = changed_here client bytes nodes m

changed_there : (tree : Tree) (client : ClientId) (bytes : List ℕ → List ℕ) (ino : Ino) (k : ℕ) → k ≢ ino.0 → node_of (with_change_of tree client bytes ino) k ≡ node_of tree k
changed_there tree client bytes ino k apart = get_or-set_other tree.nodes ino.0 k (changed_node client bytes (node_at tree ino)) None apart

changed_kind : (client : ClientId) (bytes : List ℕ → List ℕ) (node : Option Node) → kind_of (changed_node client bytes node) ≡ kind_of node
changed_kind client bytes (Some (Directory names)) = refl
changed_kind client bytes (Some (Regular file)) = refl
changed_kind client bytes None = refl

changed_entries : (tree : Tree) (client : ClientId) (bytes : List ℕ → List ℕ) (node : Option Node) (entries : List DirectoryEntry) → HasEntries tree node entries → HasEntries tree (changed_node client bytes node) entries
changed_entries tree client bytes (Some (Directory names)) entries has = has
changed_entries tree client bytes (Some (Regular file)) entries has = tt
changed_entries tree client bytes None entries has = tt

changed_kinds : (tree : Tree) (client : ClientId) (bytes : List ℕ → List ℕ) (ino : Ino) (k : ℕ) → kind_of (node_of (with_change_of tree client bytes ino) k) ≡ kind_of (node_of tree k)
changed_kinds tree client bytes ino k = elim (cases_eq k ino.0) as (λ _. kind_of (node_of next k) ≡ kind_of (node_of tree k)) [
  | inl same ↦ subst (λ (n : ℕ). kind_of (node_of next n) ≡ kind_of (node_of tree n)) (sym same) (ap kind_of (changed_here client bytes tree.nodes ino.0) ∙ changed_kind client bytes (node_at tree ino))
  | inr apart ↦ ap kind_of (changed_there tree client bytes ino k apart)
]
  where
    next : Tree
    next = with_change_of tree client bytes ino

-- the file itself
file_changed : (client : ClientId) (done : ℕ) (inode : CachedInode) (bytes : List ℕ → List ℕ) (changed : Delayed) (file : FileState) → inode.holds.contents ≡ ForWriting → inode.holds.attr ≡ ForWriting
    → changed.contents ≡ bytes inode.file.contents → changed.unflushed ≡ true → ((kept : List ℕ) → Turns kept inode.file → Turns kept changed)
    → FollowsFile client done inode None file → FollowsFile client done (with_file inode changed) None (changed_file client (bytes file.contents) file)
file_changed client done inode bytes changed file holds_bytes holds_size contents unflushed turns f =
    let here : is_held inode.holds.contents ≡ true = ap is_held holds_bytes in
    let same : bytes file.contents ≡ changed.contents = ap bytes (f.contents here here) ∙ sym contents in
    record {
      contents = λ held counts. same;
      size = λ held counts. ap (λ (bs : List ℕ). length bs) same;
      turns = λ held counts rest. turns file.kept (f.turns here here refl);
      flushes = λ other e way. absurd (true≢false (sym way));
      writer = (λ e. or_left changed.unflushed false unflushed, λ e. refl);
      writes_bytes = λ e. holds_bytes;
      writes_size = λ e. holds_size;
      one_place = λ other e. absurd (cc);
    }

-- a file that stands there after the change stood there before it
changed_stood : (tree : Tree) (client : ClientId) (bytes : List ℕ → List ℕ) (ino : Ino) (node : Option Node) (file : FileState) → node_at tree ino ≡ node → changed_node client bytes node ≡ Some (Regular file)
    → (P : FileState → Type 0) → ((before : FileState) → node_at tree ino ≡ Some (Regular before) → P (changed_file client (bytes before.contents) before)) → P file
changed_stood tree client bytes ino (Some (Directory names)) file at e P keeps = absurd (cc)
changed_stood tree client bytes ino (Some (Regular before)) file at e P keeps = subst P (same (changed_file client (bytes before.contents) before) file e) (keeps before at)
  where
    same : (a b : FileState) → Some (Regular a) ≡ Some (Regular b) → a ≡ b
    same a b e = cc
changed_stood tree client bytes ino None file at e P keeps = absurd (cc)

bytes_followed : (tree : Tree) (client : ClientId) (done : ℕ) (known : Known) (ino : Ino) (bytes : List ℕ → List ℕ) (change : Delayed → Delayed) → IsKnown known → ino.0 < 512
    → (inode_at known ino).holds.contents ≡ ForWriting → (inode_at known ino).holds.attr ≡ ForWriting → flush_at known ino ≡ None
    → (change (inode_at known ino).file).contents ≡ bytes (inode_at known ino).file.contents → (change (inode_at known ino).file).unflushed ≡ true
    → ((kept : List ℕ) → Turns kept (inode_at known ino).file → Turns kept (change (inode_at known ino).file))
    → Follows tree client done known → Follows (with_change_of tree client bytes ino) client done (with_change known change (Ok ino))
bytes_followed tree client done known ino bytes change is inside holds_bytes holds_size none contents unflushed turns f = record {
  root_is = changed_kinds tree client bytes ino 0 ∙ f.root_is;
  table = f.table;
  open_files = λ fd descriptor e. changed_kinds tree client bytes ino descriptor.ino.0 ∙ f.open_files fd descriptor e;
  entries = λ other. elim (cases_eq other.0 ino.0) as (λ _. is_held (inode_at later other).holds.names ≡ true → HasEntries next (node_at next other) (inode_at later other).entries) [
    | inl e ↦ subst (λ (k : ℕ). is_held (inode_at later (record { 0 = k })).holds.names ≡ true → HasEntries next (node_at next (record { 0 = k })) (inode_at later (record { 0 = k })).entries) (sym e)
        (subst (λ (x : CachedInode). is_held x.holds.names ≡ true → HasEntries next (node_at next ino) x.entries) (sym set_here)
        (λ held. subst (λ (node : Option Node). HasEntries next node (inode_at known ino).entries) (sym (changed_here client bytes tree.nodes ino.0))
        (entries_left tree next (changed_node client bytes (node_at tree ino)) (inode_at known ino).entries (kinds (inode_at known ino).entries)
        (changed_entries tree client bytes (node_at tree ino) (inode_at known ino).entries (f.entries ino held)))))
    | inr apart ↦ subst (λ (x : CachedInode). is_held x.holds.names ≡ true → HasEntries next (node_at next other) x.entries) (sym (set_there other apart))
        (λ held. subst (λ (node : Option Node). HasEntries next node (inode_at known other).entries) (sym (changed_there tree client bytes ino other.0 apart))
        (entries_left tree next (node_at tree other) (inode_at known other).entries (kinds (inode_at known other).entries) (f.entries other held)))
  ];
  files = λ other file. elim (cases_eq other.0 ino.0) as (λ _. node_at next other ≡ Some (Regular file) → FollowsFile client done (inode_at later other) (flush_at known other) file) [
    | inl e ↦ subst (λ (k : ℕ). node_at next (record { 0 = k }) ≡ Some (Regular file) → FollowsFile client done (inode_at later (record { 0 = k })) (flush_at known (record { 0 = k })) file) (sym e)
        (subst (λ (x : CachedInode). node_at next ino ≡ Some (Regular file) → FollowsFile client done x (flush_at known ino) file) (sym set_here) (here file))
    | inr apart ↦ subst (λ (x : CachedInode). node_at next other ≡ Some (Regular file) → FollowsFile client done x (flush_at known other) file) (sym (set_there other apart))
        (λ at. f.files other file (sym (changed_there tree client bytes ino other.0 apart) ∙ at))
  ];
}
  where
    next : Tree
    next = with_change_of tree client bytes ino

    later : Known
    later = with_change known change (Ok ino)

    inode : CachedInode
    inode = with_file (inode_at known ino) (change (inode_at known ino).file)

    kinds : (entries : List DirectoryEntry) (i : ℕ) (d : DirectoryEntry) → i < length entries → kind_of (node_at next (get_or entries i d).ino) ≡ kind_of (node_at tree (get_or entries i d).ino)
    kinds entries i d within = changed_kinds tree client bytes ino (get_or entries i d).ino.0

    set_here : inode_at later ino ≡ inode
    set_here = get_or-set_same known.inodes ino.0 inode nothing_known (omega (arith, is.inodes, inside))

    set_there : (other : Ino) → other.0 ≢ ino.0 → inode_at later other ≡ inode_at known other
    set_there other apart = get_or-set_other known.inodes ino.0 other.0 inode nothing_known apart

    here : (file : FileState) → node_at next ino ≡ Some (Regular file) → FollowsFile client done inode (flush_at known ino) file
    here file at = changed_stood tree client bytes ino (node_at tree ino) file refl (sym (changed_here client bytes tree.nodes ino.0) ∙ at) (λ file. FollowsFile client done inode (flush_at known ino) file)
        (λ before stood. subst (λ (o : Option Flush). FollowsFile client done inode o (changed_file client (bytes before.contents) before)) (sym none)
        (file_changed client done (inode_at known ino) bytes (change (inode_at known ino).file) before holds_bytes holds_size contents unflushed turns
        (subst (λ (o : Option Flush). FollowsFile client done (inode_at known ino) o before) none (f.files ino before stood))))

-- what a covered write is sure of
for_writing : (hold : Hold) → nat_le 2 (hold_number hold) ≡ true → hold ≡ ForWriting
for_writing Nothing e = absurd (true≢false (sym e))
for_writing ForReading e = absurd (true≢false (sym e))
for_writing ForWriting e = refl

data_met : (known : Known) (ino : Ino) → are_met known (write_needs ino) ≡ true → (nat_le 2 (hold_number (inode_at known ino).holds.contents) ≡ true) × (is_settled known ino ≡ true)
data_met known ino met = and_parts (nat_le 2 (hold_number (inode_at known ino).holds.contents)) (is_settled known ino) (and_parts (is_met known (ino, 2, 2)) (is_met known (ino, 3, 2) && true) met).0

attr_met : (known : Known) (ino : Ino) → are_met known (write_needs ino) ≡ true → (nat_le 2 (hold_number (inode_at known ino).holds.attr) ≡ true) × (is_settled known ino ≡ true)
attr_met known ino met = and_parts (nat_le 2 (hold_number (inode_at known ino).holds.attr)) (is_settled known ino)
    (and_parts (is_met known (ino, 3, 2)) true (and_parts (is_met known (ino, 2, 2)) (is_met known (ino, 3, 2) && true) met).1).0

abbrev pub Gives : Result Ino Why → Ino → Type 0
Gives file ino = file ≡ Ok ino

same_ino : (a b : Ino) → Gives (Ok a) b → a ≡ b
same_ino a b e = cc

no_ino : (why : Why) (ino : Ino) → Gives (Err why) ino → ⊥
no_ino why ino e = cc

behind_inside : (place : Option Descriptor) (ino : Ino) → IsOpenFile place → Gives (file_behind writes place) ino → ino.0 < 512
behind_inside None ino inside e = absurd (no_ino BadF ino e)
behind_inside (Some descriptor) ino inside e = by (writes descriptor.mode) e
  where
    by : (b : Bool) → Gives (if b then Ok descriptor.ino else Err BadF) ino → ino.0 < 512
    by true e = subst (λ (i : Ino). i.0 < 512) (same_ino descriptor.ino ino e) inside
    by false e = absurd (no_ino BadF ino e)

limit_inside : (end : ℕ) (file : Result Ino Why) (ino : Ino) → ((i : Ino) → Gives file i → i.0 < 512) → Gives (within_limit end file) ino → (ino.0 < 512) × (end ≤ 262144)
limit_inside end (Err why) ino inside e = absurd (no_ino why ino e)
limit_inside end (Ok i) ino inside e = by (nat_lt 262144 end) refl e
  where
    by : (b : Bool) → nat_lt 262144 end ≡ b → Gives (if b then Err FBig else Ok i) ino → (ino.0 < 512) × (end ≤ 262144)
    by true beyond e = absurd (no_ino FBig ino e)
    by false within e = (subst (λ (i : Ino). i.0 < 512) (same_ino i ino e) (inside i refl), ltb-false 262144 end within)

write_marks : (marks : List Bool) (offset count : ℕ) → length marks ≡ 64 → offset + count ≤ 262144 → length (marked_by_write marks offset count) ≡ 64
write_marks marks offset count long end = by (nat_eq count 0)
  where
    by : (b : Bool) → length (if b then marks else with_marks marks (offset / 4096) (block_count (offset + count)) true) ≡ 64
    by true = long
    by false = length-with_marks marks (offset / 4096) (block_count (offset + count)) true (omega arith) (omega arith) ∙ long

truncate_marks : (marks : List Bool) (old size : ℕ) → length marks ≡ 64 → size ≤ 262144 → length (marked_by_truncate marks old size) ≡ 64
truncate_marks marks old size long within = by (nat_lt size old)
  where
    by : (b : Bool) → length (if b then marked_by_shrink marks size else marks) ≡ 64
    by true =
        let dropped_marks : length (with_marks marks (block_count size) 64 false) ≡ 64 = length-with_marks marks (block_count size) 64 false (omega arith) (omega arith) ∙ long in
        length-with_marks (with_marks marks (block_count size) 64 false) (size / 4096) (block_count size) true (omega arith) (omega arith) ∙ dropped_marks
    by false = long

-- both calls, where the file may be written, or the refusal is the reply
change_followed : (tree : Tree) (client : ClientId) (done : ℕ) (known : Known) (fd end : ℕ) (bytes : List ℕ → List ℕ) (change : Delayed → Delayed) → IsKnown known
    → ((d : Delayed) → (change d).contents ≡ bytes d.contents) → ((d : Delayed) → (change d).unflushed ≡ true)
    → (end ≤ 262144 → (d : Delayed) → IsDelayed d → (kept : List ℕ) → Turns kept d → Turns kept (change d))
    → (ino : Ino) → within_limit end (writable known.table fd) ≡ Ok ino → are_met known (write_needs ino) ≡ true
    → Follows tree client done known → Follows (swept (with_bytes tree client bytes (within_limit end (writable (table_of tree client) fd)))) client done (with_change known change (Ok ino))
change_followed tree client done known fd end bytes change is contents unflushed turns ino at met f =
    let inside : (ino.0 < 512) × (end ≤ 262144) = limit_inside end (writable known.table fd) ino (λ i e. behind_inside (get_or known.table fd None) i (open_inside known fd is) e) at in
    let there : within_limit end (writable (table_of tree client) fd) ≡ Ok ino = ap (λ (table : List (Option Descriptor)). within_limit end (writable table fd)) (sym f.table) ∙ at in
    subst (λ (file : Result Ino Why). Follows (swept (with_bytes tree client bytes file)) client done (with_change known change (Ok ino))) (sym there)
    (swept_followed (with_change_of tree client bytes ino) client done (with_change known change (Ok ino))
    (bytes_followed tree client done known ino bytes change is inside.0 (for_writing (inode_at known ino).holds.contents (data_met known ino met).0) (for_writing (inode_at known ino).holds.attr (attr_met known ino met).0)
    (none_from (flush_at known ino) (data_met known ino met).1) (contents (inode_at known ino).file) (unflushed (inode_at known ino).file)
    (turns inside.1 (inode_at known ino).file (cached_at known ino is).file) f))

write_followed : (tree : Tree) (client : ClientId) (done : ℕ) (known : Known) (fd offset : ℕ) (bytes : List ℕ) (reply : Reply) (new : Option Ino) → IsKnown known
    → (file : Result Ino Why) → within_limit (offset + length bytes) (writable known.table fd) ≡ file → are_met known (needs_of_want_in (part_of known) (want_write file)) ≡ true → counted (length bytes) file ≡ reply
    → Follows tree client done known → Follows (after_call tree client (Write fd offset bytes) reply new) client done (with_change known (λ d. after_write d offset bytes) file)
write_followed tree client done known fd offset bytes reply new is (Err why) at met told f = subst (λ (r : Reply). Follows (after_call tree client (Write fd offset bytes) r new) client done known) told f
write_followed tree client done known fd offset bytes reply new is (Ok ino) at met told f =
    subst (λ (r : Reply). Follows (after_call tree client (Write fd offset bytes) r new) client done (with_change known (λ d. after_write d offset bytes) (Ok ino))) told
    (change_followed tree client done known fd (offset + length bytes) (λ contents. written contents offset bytes) (λ d. after_write d offset bytes) is (λ d. refl) (λ d. refl)
    (λ end d valid kept t. write_turns kept d (after_write d offset bytes) offset bytes valid.marks (write_marks d.marks offset (length bytes) valid.marks end) end refl t) ino at met f)

truncate_followed : (tree : Tree) (client : ClientId) (done : ℕ) (known : Known) (fd size : ℕ) (reply : Reply) (new : Option Ino) → IsKnown known
    → (file : Result Ino Why) → within_limit size (writable known.table fd) ≡ file → are_met known (needs_of_want_in (part_of known) (want_write file)) ≡ true → made file ≡ reply
    → Follows tree client done known → Follows (after_call tree client (Truncate fd size) reply new) client done (with_change known (λ d. after_truncate d size) file)
truncate_followed tree client done known fd size reply new is (Err why) at met told f = subst (λ (r : Reply). Follows (after_call tree client (Truncate fd size) r new) client done known) told f
truncate_followed tree client done known fd size reply new is (Ok ino) at met told f =
    subst (λ (r : Reply). Follows (after_call tree client (Truncate fd size) r new) client done (with_change known (λ d. after_truncate d size) (Ok ino))) told
    (change_followed tree client done known fd size (λ contents. resized contents size) (λ d. after_truncate d size) is (λ d. refl) (λ d. refl)
    (λ end d valid kept t. truncate_turns kept d (after_truncate d size) size valid (truncate_marks d.marks (length d.contents) size valid.marks end) end refl t) ino at met f)

pub call_followed : (tree : Tree) (client : ClientId) (done : ℕ) (known : Known) (number : ℕ) (call : Call) (reply : Reply) (new : Option Ino) → IsKnown known → IsAnswered known call reply
    → Follows tree client done known → Follows (after tree (Called client number call reply new)) client done (after_answer known call)
call_followed tree client done known number (Create path) reply new is answered f = absurd (true≢false (sym answered.by_cache))
call_followed tree client done known number (Mkdir path) reply new is answered f = absurd (true≢false (sym answered.by_cache))
call_followed tree client done known number (Unlink path) reply new is answered f = absurd (true≢false (sym answered.by_cache))
call_followed tree client done known number (Rmdir path) reply new is answered f = absurd (true≢false (sym answered.by_cache))
call_followed tree client done known number (Rename path goal) reply new is answered f = absurd (true≢false (sym answered.by_cache))
call_followed tree client done known number (Open path mode) reply new is answered f = open_followed tree client done known path mode reply new is answered.replied f
call_followed tree client done known number (Close fd) reply new is answered f = close_followed tree client done known fd reply new is (some_same (made (opened known.table fd)) reply answered.replied) f
call_followed tree client done known number (Read fd offset len) reply new is answered f = all_left tree client (Read fd offset len) reply new (λ (t : Tree). Follows t client done known) f f
call_followed tree client done known number (Write fd offset bytes) reply new is answered f =
    write_followed tree client done known fd offset bytes reply new is (within_limit (offset + length bytes) (writable known.table fd)) refl (and_parts _ _ answered.by_cache).0
    (some_same (counted (length bytes) (within_limit (offset + length bytes) (writable known.table fd))) reply answered.replied) f
call_followed tree client done known number (Truncate fd size) reply new is answered f =
    truncate_followed tree client done known fd size reply new is (within_limit size (writable known.table fd)) refl (and_parts _ _ answered.by_cache).0
    (some_same (made (within_limit size (writable known.table fd))) reply answered.replied) f
call_followed tree client done known number (Stat path) reply new is answered f = all_left tree client (Stat path) reply new (λ (t : Tree). Follows t client done known) f f
call_followed tree client done known number (Readdir path) reply new is answered f = all_left tree client (Readdir path) reply new (λ (t : Tree). Follows t client done known) f f
call_followed tree client done known number (Fsync fd) reply new is answered f = all_left tree client (Fsync fd) reply new (λ (t : Tree). Follows t client done known) f f
