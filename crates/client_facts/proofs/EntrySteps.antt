-- What is known goes on to follow the tree when a flush of the client comes to be in it.
use Rattle.std.proofs.Common.{◌≡◌, ◌≢◌, ◌||◌, ◌≤◌, ◌<◌, ◌+◌, ◌∷◌, [], ℕ, zero, suc, Bool, true, false, nat_le, nat_lt, List, length, All, get_or, slice_set, if◌then◌else◌, Option, Some, None, refl, sym, ap, subst, ◌∙◌, arith, inl, inr}
use Rattle.std.proofs.lemmas.Bool.{true≢false, cases_eq, cases_lt, eqb-true, eq-eqb, le-leb, lt-leb, lt-ltb, le-ltb}
use Rattle.std.proofs.lemmas.List.{get_or-set_other, get_or-set_same, get_or_past, length-set}
use Rattle.cal_base.specs.declared.directory_entry.DirectoryEntry.{DirectoryEntry}
use Rattle.cal_base.specs.declared.identity.ClientId.{ClientId}
use Rattle.cal_base.specs.declared.identity.Ino.{Ino}
use Rattle.delayed_write.proofs.TurnLemmas.{clean_turns}
use Rattle.delayed_write.specs.Delayed.{Turns, clean}
use Rattle.token_kind.specs.declared.flush.Flush.{Flush}
use Rattle.token_kind.specs.declared.hold.Hold.{Hold}
use Rattle.tree_law.proofs.IdleLemmas.{node_of}
use Rattle.tree_law.specs.After.{after, flushed_node}
use Rattle.tree_law.specs.FileState.{FileState, flushed_file}
use Rattle.tree_law.specs.Idle.{with_node}
use Rattle.tree_law.specs.PartOf.{HasEntries, kind_of}
use Rattle.tree_law.specs.Tree.{Tree, node_at}
use Rattle.tree_law.specs.declared.entry.Entry.TheVariants.{Flush as Flushed}
use Rattle.tree_law.specs.declared.node.Node.{Node}
use Rattle.tree_law.specs.declared.node.Node.TheVariants.{Directory, Regular}
use Rattle.client_cache.specs.declared.cached_inode.CachedInode.{CachedInode}
use Rattle.client_cache.specs.Changes.{flush_numbered, is_numbered}
use Rattle.client_cache.specs.Follows.{Follows, FollowsFile, has_written}
use Rattle.client_cache.specs.Holds.{is_held}
use Rattle.client_cache.specs.IsKnown.{IsKnown}
use Rattle.client_cache.specs.Known.{Known, flush_at, inode_at, is_flush_of}
use Rattle.client_facts.proofs.FileSteps.{entries_left}
use Rattle.client_facts.proofs.SweptSteps.{swept_followed}
use Rattle.client_facts.proofs.FlushSteps.{IsTheOne, find_same, found_is, found_passes, neither, one_of_file}
use Rattle.client_cache.proofs.KnownLemmas.{cached_at}

-- the flush of a file is in the tree
file_flushed : (client : ClientId) (done : ℕ) (inode : CachedInode) (flush : Flush) (file : FileState) → (inode.file.unflushed ≡ false → inode.file ≡ clean inode.file.contents) → flush.number ≡ done + 1
    → FollowsFile client done inode (Some flush) file → FollowsFile client (done + 1) inode (Some flush) (flushed_file file)
file_flushed client done inode flush file idle next f =
    let was : nat_le flush.number done ≡ false = lt-leb flush.number done (omega (arith, next)) in
    let way : nat_lt done flush.number ≡ true = lt-ltb done flush.number (omega (arith, next)) in
    let past : nat_lt (done + 1) flush.number ≡ false = le-ltb (done + 1) flush.number (omega (arith, next)) in
    let unwritten : has_written (done + 1) inode (Some flush) ≡ false = neither inode.file.unflushed (nat_lt (done + 1) flush.number) (f.one_place flush refl) past in
    record {
      contents = λ held counts. f.contents held (before_counts (nat_le flush.number done) flush.leave_data inode.holds.contents was held);
      size = λ held counts. f.size held (before_counts (nat_le flush.number done) flush.leave_attr inode.holds.attr was held);
      turns = λ held counts rest. subst (λ (bytes : List ℕ). Turns bytes inode.file) (sym (f.contents held (before_counts (nat_le flush.number done) flush.leave_data inode.holds.contents was held)))
          (clean_turns inode.file.contents inode.file (idle (f.one_place flush refl)));
      flushes = λ other e rest. absurd (true≢false (sym rest ∙ past));
      writer = (λ e. absurd (cc), λ written. absurd (true≢false (sym written ∙ unwritten)));
      writes_bytes = λ written. absurd (true≢false (sym written ∙ unwritten));
      writes_size = λ written. absurd (true≢false (sym written ∙ unwritten));
      one_place = f.one_place;
    }
  where
    before_counts : (b : Bool) (leave hold : Hold) → b ≡ false → is_held hold ≡ true → is_held (if b then leave else hold) ≡ true
    before_counts true leave hold e held = absurd (true≢false e)
    before_counts false leave hold e held = held

-- another file sees one number more in the tree, which isn't that of its flush
other_flushed : (client : ClientId) (done : ℕ) (inode : CachedInode) (flush : Option Flush) (file : FileState) → ((f : Flush) → flush ≡ Some f → f.number ≢ done + 1)
    → FollowsFile client done inode flush file → FollowsFile client (done + 1) inode flush file
other_flushed client done inode None file apart f = record { contents = f.contents; size = f.size; turns = f.turns; flushes = f.flushes; writer = f.writer; writes_bytes = f.writes_bytes; writes_size = f.writes_size; one_place = f.one_place }
other_flushed client done inode (Some flush) file apart f =
    let same_le : nat_le flush.number (done + 1) ≡ nat_le flush.number done = le_step flush.number done (apart flush refl) in
    let same_lt : nat_lt (done + 1) flush.number ≡ nat_lt done flush.number = lt_step flush.number done (apart flush refl) in
    record {
      contents = λ held counts. f.contents held (ap (λ (b : Bool). is_held (if b then flush.leave_data else inode.holds.contents)) (sym same_le) ∙ counts);
      size = λ held counts. f.size held (ap (λ (b : Bool). is_held (if b then flush.leave_attr else inode.holds.attr)) (sym same_le) ∙ counts);
      turns = λ held counts rest. f.turns held (ap (λ (b : Bool). is_held (if b then flush.leave_data else inode.holds.contents)) (sym same_le) ∙ counts) (sym same_lt ∙ rest);
      flushes = λ other e rest. f.flushes other e (sym same_lt ∙ rest);
      writer = (λ e. ap (λ (b : Bool). inode.file.unflushed || b) same_lt ∙ f.writer.0 e, λ written. f.writer.1 (ap (λ (b : Bool). inode.file.unflushed || b) (sym same_lt) ∙ written));
      writes_bytes = λ written. f.writes_bytes (ap (λ (b : Bool). inode.file.unflushed || b) (sym same_lt) ∙ written);
      writes_size = λ written. f.writes_size (ap (λ (b : Bool). inode.file.unflushed || b) (sym same_lt) ∙ written);
      one_place = f.one_place;
    }
  where
    beyond : (number done : ℕ) → number ≢ done + 1 → done < number → done + 1 < number
    beyond number done apart above = elim (cases_lt (done + 1) number) [
      | inl far ↦ far
      | inr near ↦ absurd (apart (omega (arith, near, above)))
    ]

    le_step : (number done : ℕ) → number ≢ done + 1 → nat_le number (done + 1) ≡ nat_le number done
    le_step number done apart = elim (cases_lt done number) [
      | inl above ↦ lt-leb number (done + 1) (beyond number done apart above) ∙ sym (lt-leb number done above)
      | inr below ↦ le-leb number (done + 1) (omega (arith, below)) ∙ sym (le-leb number done below)
    ]

    lt_step : (number done : ℕ) → number ≢ done + 1 → nat_lt (done + 1) number ≡ nat_lt done number
    lt_step number done apart = elim (cases_lt done number) [
      | inl above ↦ lt-ltb (done + 1) number (beyond number done apart above) ∙ sym (lt-ltb done number above)
      | inr below ↦ le-ltb (done + 1) number (omega (arith, below)) ∙ sym (le-ltb done number below)
    ]

-- the file of a number in the tree with the flush, before the idle files go
with_there : (tree : Tree) (ino other : Ino) (node : Option Node) → other.0 ≢ ino.0 → node_at (with_node tree ino.0 node) other ≡ node_at tree other
with_there tree ino other node apart = get_or-set_other tree.nodes ino.0 other.0 node None apart

-- a file that stands there after its flush stood there before it
here_stood : (tree : Tree) (ino : Ino) (node : Option Node) (file : FileState) → node_at tree ino ≡ node → node_at (with_node tree ino.0 (flushed_node node)) ino ≡ Some (Regular file)
    → (P : FileState → Type 0) → ((before : FileState) → node_at tree ino ≡ Some (Regular before) → P (flushed_file before)) → P file
here_stood tree ino node file at e P keeps = elim (cases_lt ino.0 (length tree.nodes)) [
  | inl below ↦ by node at (sym (get_or-set_same tree.nodes ino.0 (flushed_node node) None below) ∙ e)
  | inr above ↦ absurd (nowhere above)
]
  where
    nowhere : length tree.nodes ≤ ino.0 → ⊥
    nowhere above =
        let gone : node_at (with_node tree ino.0 (flushed_node node)) ino ≡ None = get_or_past (slice_set tree.nodes ino.0 (flushed_node node)) ino.0 None (omega (arith, length-set tree.nodes ino.0 (flushed_node node), above)) in
        none_some file (sym gone ∙ e)
      where
        none_some : (file : FileState) → None ≡ Some (Regular file) → ⊥
        none_some file e = cc

    by : (node : Option Node) → node_at tree ino ≡ node → flushed_node node ≡ Some (Regular file) → P file
    by (Some (Directory names)) at e = absurd (cc)
    by (Some (Regular before)) at e = subst P (same (flushed_file before) file e) (keeps before at)
      where
        same : (a b : FileState) → Some (Regular a) ≡ Some (Regular b) → a ≡ b
        same a b e = cc
    by None at e = absurd (cc)

flushed_here : (nodes : List (Option Node)) (m : ℕ) → get_or (slice_set nodes m (flushed_node (get_or nodes m None))) m None ≡ flushed_node (get_or nodes m None)
flushed_here [] m = refl
flushed_here (place ∷ nodes) zero = refl
flushed_here (place ∷ nodes) (suc m) = flushed_here nodes m

flushed_kind : (node : Option Node) → kind_of (flushed_node node) ≡ kind_of node
flushed_kind (Some (Directory names)) = refl
flushed_kind (Some (Regular file)) = refl
flushed_kind None = refl

flushed_entries : (tree : Tree) (node : Option Node) (entries : List DirectoryEntry) → HasEntries tree node entries → HasEntries tree (flushed_node node) entries
flushed_entries tree (Some (Directory names)) entries has = has
flushed_entries tree (Some (Regular file)) entries has = tt
flushed_entries tree None entries has = tt

flushed_kinds : (tree : Tree) (ino : Ino) (k : ℕ) → kind_of (node_of (with_node tree ino.0 (flushed_node (node_at tree ino))) k) ≡ kind_of (node_of tree k)
flushed_kinds tree ino k = elim (cases_eq k ino.0) as (λ _. kind_of (node_of flushed k) ≡ kind_of (node_of tree k)) [
  | inl same ↦ subst (λ (n : ℕ). kind_of (node_of flushed n) ≡ kind_of (node_of tree n)) (sym same) (ap kind_of (flushed_here tree.nodes ino.0) ∙ flushed_kind (node_at tree ino))
  | inr apart ↦ ap kind_of (with_there tree ino (record { 0 = k }) (flushed_node (node_at tree ino)) apart)
]
  where
    flushed : Tree
    flushed = with_node tree ino.0 (flushed_node (node_at tree ino))

-- what stands in the tree with the flush, before the idle files go, is followed
written_followed : (tree : Tree) (client : ClientId) (done : ℕ) (known : Known) (flush : Flush) → IsKnown known → flush_numbered known flush.number ≡ Some flush → flush.number ≡ done + 1
    → Follows tree client done known → Follows (with_node tree flush.ino.0 (flushed_node (node_at tree flush.ino))) client (done + 1) known
written_followed tree client done known flush is found next f = record {
  root_is = flushed_kinds tree flush.ino 0 ∙ f.root_is;
  table = f.table;
  open_files = λ fd descriptor e. flushed_kinds tree flush.ino descriptor.ino.0 ∙ f.open_files fd descriptor e;
  entries = λ ino held. entries_left tree flushed (node_at flushed ino) (inode_at known ino).entries (λ i d within. flushed_kinds tree flush.ino (get_or (inode_at known ino).entries i d).ino.0)
      (elim (cases_eq ino.0 flush.ino.0) as (λ _. HasEntries tree (node_at flushed ino) (inode_at known ino).entries) [
        | inl same ↦ subst (λ (k : ℕ). HasEntries tree (node_of flushed k) (inode_at known (record { 0 = k })).entries) (sym same)
            (subst (λ (node : Option Node). HasEntries tree node (inode_at known flush.ino).entries) (sym (flushed_here tree.nodes flush.ino.0))
            (flushed_entries tree (node_at tree flush.ino) (inode_at known flush.ino).entries
            (f.entries flush.ino (subst (λ (k : ℕ). is_held (inode_at known (record { 0 = k })).holds.names ≡ true) same held))))
        | inr apart ↦ subst (λ (node : Option Node). HasEntries tree node (inode_at known ino).entries) (sym (with_there tree flush.ino ino (flushed_node (node_at tree flush.ino)) apart)) (f.entries ino held)
      ]);
  files = λ other file stands.
      elim (cases_eq other.0 flush.ino.0) as (λ _. FollowsFile client (done + 1) (inode_at known other) (flush_at known other) file) [
        | inl same ↦ subst (λ (k : ℕ). FollowsFile client (done + 1) (inode_at known (record { 0 = k })) (flush_at known (record { 0 = k })) file) (sym same)
            (here_stood tree flush.ino (node_at tree flush.ino) file refl (subst (λ (k : ℕ). node_at flushed (record { 0 = k }) ≡ Some (Regular file)) same stands)
            (λ file. FollowsFile client (done + 1) (inode_at known flush.ino) (flush_at known flush.ino) file)
            (λ before at. subst (λ (o : Option Flush). FollowsFile client (done + 1) (inode_at known flush.ino) o (flushed_file before)) (sym its)
            (file_flushed client done (inode_at known flush.ino) flush before (cached_at known flush.ino is).file.idle next
            (subst (λ (o : Option Flush). FollowsFile client done (inode_at known flush.ino) o before) its (f.files flush.ino before at)))))
        | inr apart ↦ other_flushed client done (inode_at known other) (flush_at known other) file (λ g at. not_next other apart g at)
            (f.files other file (sym (with_there tree flush.ino other (flushed_node (node_at tree flush.ino)) apart) ∙ stands))
      ];
}
  where
    flushed : Tree
    flushed = with_node tree flush.ino.0 (flushed_node (node_at tree flush.ino))

    one : All (IsTheOne flush.number flush.ino) known.flushes
    one = one_of_file flush.number known.flushes flush is.order found

    its : flush_at known flush.ino ≡ Some flush
    its = sym (find_same (is_numbered flush.number) (is_flush_of flush.ino) known.flushes one) ∙ found

    not_next : (other : Ino) → other.0 ≢ flush.ino.0 → (g : Flush) → flush_at known other ≡ Some g → g.number ≢ done + 1
    not_next other apart g at same =
        let mine : IsTheOne flush.number flush.ino g = found_is (is_flush_of other) (IsTheOne flush.number flush.ino) known.flushes g at one in
        let file : g.ino.0 ≡ flush.ino.0 = eqb-true g.ino.0 flush.ino.0 (sym mine ∙ eq-eqb g.number flush.number (same ∙ sym next)) in
        apart (sym (eqb-true g.ino.0 other.0 (found_passes (is_flush_of other) known.flushes g at)) ∙ file)

pub flush_followed : (tree : Tree) (client : ClientId) (done : ℕ) (known : Known) (flush : Flush) → IsKnown known → flush_numbered known flush.number ≡ Some flush → flush.number ≡ done + 1
    → Follows tree client done known → Follows (after tree (Flushed client flush.ino)) client (done + 1) known
flush_followed tree client done known flush is found next f =
    swept_followed (with_node tree flush.ino.0 (flushed_node (node_at tree flush.ino))) client (done + 1) known (written_followed tree client done known flush is found next f)
