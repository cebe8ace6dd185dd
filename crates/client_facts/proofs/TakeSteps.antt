-- What is known goes on to follow the tree when an item of a grant is taken.
use Rattle.std.proofs.Common.{◌≡◌, ◌≢◌, ◌||◌, ◌∷◌, ℕ, Bool, true, false, nat_eq, List, [], length, map, find, cond, if◌then◌else◌, option_map, Option, Some, None, refl, sym, ap, subst, ◌∙◌}
use Rattle.std.proofs.lemmas.Bool.{true≢false, eqb-true, ne_eqb}
use Rattle.cal_base.specs.declared.directory_entry.DirectoryEntry.{DirectoryEntry}
use Rattle.cal_base.specs.declared.identity.ClientId.{ClientId}
use Rattle.cal_base.specs.declared.identity.Ino.{Ino}
use Rattle.delayed_write.proofs.TurnLemmas.{clean_turns}
use Rattle.delayed_write.specs.Delayed.{Turns, clean}
use Rattle.token_kind.specs.Hold.{lesser_of}
use Rattle.token_kind.specs.declared.«class».Class.{Class}
use Rattle.token_kind.specs.declared.«class».Class.TheVariants.{Names, Data, Attr, Open}
use Rattle.token_kind.specs.declared.content.Content.{Content}
use Rattle.token_kind.specs.declared.content.Content.TheVariants.{Nothing as Empty, Names as Entries, Bytes, Size}
use Rattle.token_kind.specs.declared.flush.Flush.{Flush}
use Rattle.token_kind.specs.declared.grant_item.GrantItem.{GrantItem}
use Rattle.token_kind.specs.declared.hold.Hold.{Hold}
use Rattle.token_kind.specs.declared.hold.Hold.TheVariants.{Read}
use Rattle.tree_law.specs.FileState.{FileState}
use Rattle.tree_law.specs.PartOf.{HasEntries, HasSize}
use Rattle.tree_law.specs.Tree.{Tree, node_at}
use Rattle.tree_law.specs.declared.node.Node.{Node}
use Rattle.tree_law.specs.declared.node.Node.TheVariants.{Regular}
use Rattle.client_cache.specs.declared.cached_inode.CachedInode.{CachedInode}
use Rattle.client_cache.specs.Changes.{after_take, granted, holding, leaving, raised}
use Rattle.client_cache.specs.Follows.{Follows, FollowsFile, counted_hold, has_written, is_under_way}
use Rattle.client_cache.specs.Holds.{is_held}
use Rattle.client_cache.specs.IsKnown.{IsKnown}
use Rattle.client_cache.specs.Known.{Known, flush_at, inode_at, is_flush_of}
use Rattle.client_facts.specs.Leaves.{HoldsBytes, HoldsSize}
use Rattle.client_facts.specs.Takes.{Brings, BringsBytes, KeepsWrites, MayCome, MayTake}
use Rattle.client_facts.proofs.KnownSteps.{change_followed}

-- what a flush leaves is another matter than its file
leaving_file : (cls : Class) (hold : Hold) (flush : Flush) → (leaving cls hold flush).ino ≡ flush.ino
leaving_file Names hold flush = refl
leaving_file Data hold flush = refl
leaving_file Attr hold flush = refl
leaving_file Open hold flush = refl

-- the outstanding flush of a file, once what it leaves is raised
find_raised : (ino : Ino) (cls : Class) (hold : Hold) (flushes : List Flush) → find (is_flush_of ino) (map (raised ino cls hold) flushes) ≡ option_map (leaving cls hold) (find (is_flush_of ino) flushes)
find_raised ino cls hold [] = refl
find_raised ino cls hold (head ∷ flushes) = by (nat_eq head.ino.0 ino.0) refl (find_raised ino cls hold flushes)
  where
    by : (b : Bool) → nat_eq head.ino.0 ino.0 ≡ b → find (is_flush_of ino) (map (raised ino cls hold) flushes) ≡ option_map (leaving cls hold) (find (is_flush_of ino) flushes)
        → cond (is_flush_of ino (if b then leaving cls hold head else head)) (Some (if b then leaving cls hold head else head)) (find (is_flush_of ino) (map (raised ino cls hold) flushes))
        ≡ option_map (leaving cls hold) (cond b (Some head) (find (is_flush_of ino) flushes))
    by true e rest = ap (λ b. cond b (Some (leaving cls hold head)) (find (is_flush_of ino) (map (raised ino cls hold) flushes))) (ap (λ (i : Ino). nat_eq i.0 ino.0) (leaving_file cls hold head) ∙ e)
    by false e rest = ap (λ b. cond b (Some head) (find (is_flush_of ino) (map (raised ino cls hold) flushes))) e ∙ rest

-- that of another file is as before
find_beside : (ino other : Ino) (cls : Class) (hold : Hold) (flushes : List Flush) → other.0 ≢ ino.0 → find (is_flush_of other) (map (raised ino cls hold) flushes) ≡ find (is_flush_of other) flushes
find_beside ino other cls hold [] apart = refl
find_beside ino other cls hold (head ∷ flushes) apart = by (nat_eq head.ino.0 ino.0) refl (find_beside ino other cls hold flushes apart)
  where
    by : (b : Bool) → nat_eq head.ino.0 ino.0 ≡ b → find (is_flush_of other) (map (raised ino cls hold) flushes) ≡ find (is_flush_of other) flushes
        → cond (is_flush_of other (if b then leaving cls hold head else head)) (Some (if b then leaving cls hold head else head)) (find (is_flush_of other) (map (raised ino cls hold) flushes))
        ≡ cond (is_flush_of other head) (Some head) (find (is_flush_of other) flushes)
    by true e rest =
        let another : nat_eq head.ino.0 other.0 ≡ false = ne_eqb head.ino.0 other.0 (λ same. apart (sym same ∙ eqb-true head.ino.0 ino.0 e)) in
        ap (λ b. cond b (Some (leaving cls hold head)) (find (is_flush_of other) (map (raised ino cls hold) flushes))) (ap (λ (i : Ino). nat_eq i.0 other.0) (leaving_file cls hold head) ∙ another)
        ∙ rest ∙ ap (λ b. cond b (Some head) (find (is_flush_of other) flushes)) (sym another)
    by false e rest = ap (cond (is_flush_of other head) (Some head)) rest

-- nothing of a file is written of which nothing is unflushed or under way
idle_written : (done : ℕ) (inode : CachedInode) (flush : Option Flush) → is_under_way done flush ≡ false → inode.file.unflushed ≡ false → has_written done inode flush ≡ false
idle_written done inode flush no_flush idle = ap (λ b. b || is_under_way done flush) idle ∙ no_flush

is_unflushed : (done : ℕ) (inode : CachedInode) (flush : Option Flush) → is_under_way done flush ≡ false → has_written done inode flush ≡ true → inode.file.unflushed ≡ true
is_unflushed done inode flush no_flush written = by inode.file.unflushed refl
  where
    by : (b : Bool) → inode.file.unflushed ≡ b → b ≡ true
    by true e = refl
    by false e = absurd (true≢false (sym written ∙ idle_written done inode flush no_flush e))

-- before and after: what is under way, and what counts
raised_way : (done : ℕ) (cls : Class) (hold : Hold) (flush : Option Flush) → is_under_way done (option_map (leaving cls hold) flush) ≡ is_under_way done flush
raised_way done cls hold None = refl
raised_way done Names hold (Some flush) = refl
raised_way done Data hold (Some flush) = refl
raised_way done Attr hold (Some flush) = refl
raised_way done Open hold (Some flush) = refl

size_beside : (done : ℕ) (attr hold : Hold) (flush : Option Flush) → counted_hold done attr (λ f. f.leave_attr) (option_map (leaving Data hold) flush) ≡ counted_hold done attr (λ f. f.leave_attr) flush
size_beside done attr hold None = refl
size_beside done attr hold (Some flush) = refl

bytes_beside : (done : ℕ) (bytes hold : Hold) (flush : Option Flush) → counted_hold done bytes (λ f. f.leave_data) (option_map (leaving Attr hold) flush) ≡ counted_hold done bytes (λ f. f.leave_data) flush
bytes_beside done bytes hold None = refl
bytes_beside done bytes hold (Some flush) = refl

-- there is a flush after the item as there was before
one_place_kept : (cls : Class) (hold : Hold) (flush : Option Flush) (b : Bool) → ((f : Flush) → flush ≡ Some f → b ≡ false) → (f : Flush) → option_map (leaving cls hold) flush ≡ Some f → b ≡ false
one_place_kept cls hold None b one f e = absurd (cc)
one_place_kept cls hold (Some flush) b one f e = one flush refl

-- Data of a file, without bytes
file_data : (client : ClientId) (done : ℕ) (hold : Hold) (inode : CachedInode) (flush : Option Flush) (file : FileState) → KeepsWrites done inode flush hold → HoldsBytes done inode flush
    → FollowsFile client done inode flush file → FollowsFile client done (holding inode Data hold) (option_map (leaving Data (lesser_of hold Read)) flush) file
file_data client done hold inode flush file keeps holds f =
    let later : Option Flush = option_map (leaving Data (lesser_of hold Read)) flush in
    let way : is_under_way done later ≡ is_under_way done flush = raised_way done Data (lesser_of hold Read) flush in
    let written : has_written done inode later ≡ has_written done inode flush = ap (λ b. inode.file.unflushed || b) way in
    record {
      contents = λ held counts. f.contents holds.0 holds.1;
      size = λ held counts. f.size held (ap is_held (sym (size_beside done inode.holds.attr (lesser_of hold Read) flush)) ∙ counts);
      turns = λ held counts rest. f.turns holds.0 holds.1 keeps.no_flush;
      flushes = λ other e rest. absurd (true≢false (sym rest ∙ way ∙ keeps.no_flush));
      writer = (λ e. written ∙ f.writer.0 e, λ e. f.writer.1 (sym written ∙ e));
      writes_bytes = λ e. keeps.write (is_unflushed done inode flush keeps.no_flush (sym written ∙ e));
      writes_size = λ e. f.writes_size (sym written ∙ e);
      one_place = one_place_kept Data (lesser_of hold Read) flush inode.file.unflushed f.one_place;
    }

-- and with bytes
file_bytes : (client : ClientId) (done : ℕ) (hold : Hold) (bytes : List ℕ) (inode : CachedInode) (flush : Option Flush) (file : FileState) → KeepsWrites done inode flush hold → BringsBytes inode (Some (Regular file)) bytes
    → FollowsFile client done inode flush file → FollowsFile client done (granted inode Data hold (Bytes bytes)) (option_map (leaving Data (lesser_of hold Read)) flush) file
file_bytes client done hold bytes inode flush file keeps brings f =
    let later : Option Flush = option_map (leaving Data (lesser_of hold Read)) flush in
    let way : is_under_way done later ≡ false = raised_way done Data (lesser_of hold Read) flush ∙ keeps.no_flush in
    record {
      contents = λ held counts. brings.lasting.0;
      size = λ held counts. f.size held (ap is_held (sym (size_beside done inode.holds.attr (lesser_of hold Read) flush)) ∙ counts);
      turns = λ held counts rest. subst (λ (kept : List ℕ). Turns kept (clean bytes)) (sym brings.lasting.1) (clean_turns bytes (clean bytes) refl);
      flushes = λ other e rest. absurd (true≢false (sym rest ∙ way));
      writer = (λ e. absurd (no_write (f.writer.0 e)), λ e. absurd (true≢false (sym e ∙ way)));
      writes_bytes = λ e. absurd (true≢false (sym e ∙ way));
      writes_size = λ e. absurd (true≢false (sym e ∙ way));
      one_place = λ other e. refl;
    }
  where
    no_write : has_written done inode flush ≡ true → ⊥
    no_write written = true≢false (sym (is_unflushed done inode flush keeps.no_flush written) ∙ brings.flushed (ap is_held (f.writes_bytes written)))

-- Attr of a file, with another size or the same
file_size : (client : ClientId) (done : ℕ) (hold : Hold) (size : ℕ) (inode : CachedInode) (flush : Option Flush) (file : FileState) → KeepsWrites done inode flush hold → length file.contents ≡ size
    → FollowsFile client done inode flush file → FollowsFile client done (granted inode Attr hold (Size size)) (option_map (leaving Attr (lesser_of hold Read)) flush) file
file_size client done hold size inode flush file keeps same f =
    let later : Option Flush = option_map (leaving Attr (lesser_of hold Read)) flush in
    let way : is_under_way done later ≡ is_under_way done flush = raised_way done Attr (lesser_of hold Read) flush in
    let written : has_written done inode later ≡ has_written done inode flush = ap (λ b. inode.file.unflushed || b) way in
    record {
      contents = λ held counts. f.contents held (ap is_held (sym (bytes_beside done inode.holds.contents (lesser_of hold Read) flush)) ∙ counts);
      size = λ held counts. same;
      turns = λ held counts rest. f.turns held (ap is_held (sym (bytes_beside done inode.holds.contents (lesser_of hold Read) flush)) ∙ counts) keeps.no_flush;
      flushes = λ other e rest. absurd (true≢false (sym rest ∙ way ∙ keeps.no_flush));
      writer = (λ e. written ∙ f.writer.0 e, λ e. f.writer.1 (sym written ∙ e));
      writes_bytes = λ e. f.writes_bytes (sym written ∙ e);
      writes_size = λ e. keeps.write (is_unflushed done inode flush keeps.no_flush (sym written ∙ e));
      one_place = one_place_kept Attr (lesser_of hold Read) flush inode.file.unflushed f.one_place;
    }

file_attr : (client : ClientId) (done : ℕ) (hold : Hold) (inode : CachedInode) (flush : Option Flush) (file : FileState) → KeepsWrites done inode flush hold → HoldsSize done inode flush
    → FollowsFile client done inode flush file → FollowsFile client done (holding inode Attr hold) (option_map (leaving Attr (lesser_of hold Read)) flush) file
file_attr client done hold inode flush file keeps holds f = file_size client done hold inode.size inode flush file keeps (f.size holds.0 holds.1) f

-- Names and Open leave all of a file
same_flush : (cls : Class) (hold : Hold) (flush : Option Flush) → ((f : Flush) → leaving cls hold f ≡ f) → option_map (leaving cls hold) flush ≡ flush
same_flush cls hold None same = refl
same_flush cls hold (Some flush) same = ap (λ (f : Flush). Some f) (same flush)

file_names : (client : ClientId) (done : ℕ) (hold : Hold) (inode : CachedInode) (flush : Option Flush) (file : FileState) → FollowsFile client done inode flush file → FollowsFile client done (holding inode Names hold) flush file
file_names client done hold inode flush file f = record { contents = f.contents; size = f.size; turns = f.turns; flushes = f.flushes; writer = f.writer; writes_bytes = f.writes_bytes; writes_size = f.writes_size; one_place = f.one_place }

file_entries : (client : ClientId) (done : ℕ) (hold : Hold) (entries : List DirectoryEntry) (inode : CachedInode) (flush : Option Flush) (file : FileState) → FollowsFile client done inode flush file
    → FollowsFile client done (granted inode Names hold (Entries entries)) flush file
file_entries client done hold entries inode flush file f =
    record { contents = f.contents; size = f.size; turns = f.turns; flushes = f.flushes; writer = f.writer; writes_bytes = f.writes_bytes; writes_size = f.writes_size; one_place = f.one_place }

file_open : (client : ClientId) (done : ℕ) (hold : Hold) (inode : CachedInode) (flush : Option Flush) (file : FileState) → FollowsFile client done inode flush file → FollowsFile client done (holding inode Open hold) flush file
file_open client done hold inode flush file f = record { contents = f.contents; size = f.size; turns = f.turns; flushes = f.flushes; writer = f.writer; writes_bytes = f.writes_bytes; writes_size = f.writes_size; one_place = f.one_place }

file_taken : (tree : Tree) (client : ClientId) (done : ℕ) (ino : Ino) (inode : CachedInode) (flush : Option Flush) (cls : Class) (hold : Hold) (content : Content) (file : FileState) → node_at tree ino ≡ Some (Regular file)
    → MayCome done inode flush cls hold → Brings tree done ino inode flush cls content → FollowsFile client done inode flush file
    → FollowsFile client done (granted inode cls hold content) (option_map (leaving cls (lesser_of hold Read)) flush) file
file_taken tree client done ino inode flush Names hold Empty file e comes brings f =
    subst (λ (o : Option Flush). FollowsFile client done (holding inode Names hold) o file) (sym (same_flush Names (lesser_of hold Read) flush (λ g. refl))) (file_names client done hold inode flush file f)
file_taken tree client done ino inode flush Names hold (Entries entries) file e comes brings f =
    subst (λ (o : Option Flush). FollowsFile client done (granted inode Names hold (Entries entries)) o file) (sym (same_flush Names (lesser_of hold Read) flush (λ g. refl))) (file_entries client done hold entries inode flush file f)
file_taken tree client done ino inode flush Names hold (Bytes bytes) file e comes brings f = absurd brings
file_taken tree client done ino inode flush Names hold (Size size) file e comes brings f = absurd brings
file_taken tree client done ino inode flush Data hold Empty file e comes brings f = file_data client done hold inode flush file comes brings f
file_taken tree client done ino inode flush Data hold (Entries entries) file e comes brings f = absurd brings
file_taken tree client done ino inode flush Data hold (Bytes bytes) file e comes brings f =
    file_bytes client done hold bytes inode flush file comes (subst (λ (node : Option Node). BringsBytes inode node bytes) e brings) f
file_taken tree client done ino inode flush Data hold (Size size) file e comes brings f = absurd brings
file_taken tree client done ino inode flush Attr hold Empty file e comes brings f = file_attr client done hold inode flush file comes brings f
file_taken tree client done ino inode flush Attr hold (Entries entries) file e comes brings f = absurd brings
file_taken tree client done ino inode flush Attr hold (Bytes bytes) file e comes brings f = absurd brings
file_taken tree client done ino inode flush Attr hold (Size size) file e comes brings f =
    file_size client done hold size inode flush file comes (subst (λ (node : Option Node). HasSize node size) e brings) f
file_taken tree client done ino inode flush Open hold Empty file e comes brings f =
    subst (λ (o : Option Flush). FollowsFile client done (holding inode Open hold) o file) (sym (same_flush Open (lesser_of hold Read) flush (λ g. refl))) (file_open client done hold inode flush file f)
file_taken tree client done ino inode flush Open hold (Entries entries) file e comes brings f = absurd brings
file_taken tree client done ino inode flush Open hold (Bytes bytes) file e comes brings f = absurd brings
file_taken tree client done ino inode flush Open hold (Size size) file e comes brings f = absurd brings

-- entries that are held after it
entries_taken : (tree : Tree) (done : ℕ) (ino : Ino) (inode : CachedInode) (flush : Option Flush) (cls : Class) (hold : Hold) (content : Content) → Brings tree done ino inode flush cls content
    → (is_held inode.holds.names ≡ true → HasEntries tree (node_at tree ino) inode.entries) → is_held (granted inode cls hold content).holds.names ≡ true → HasEntries tree (node_at tree ino) (granted inode cls hold content).entries
entries_taken tree done ino inode flush Names hold Empty brings has held = has brings
entries_taken tree done ino inode flush Names hold (Entries entries) brings has held = brings
entries_taken tree done ino inode flush Names hold (Bytes bytes) brings has held = absurd brings
entries_taken tree done ino inode flush Names hold (Size size) brings has held = absurd brings
entries_taken tree done ino inode flush Data hold Empty brings has held = has held
entries_taken tree done ino inode flush Data hold (Entries entries) brings has held = absurd brings
entries_taken tree done ino inode flush Data hold (Bytes bytes) brings has held = has held
entries_taken tree done ino inode flush Data hold (Size size) brings has held = absurd brings
entries_taken tree done ino inode flush Attr hold Empty brings has held = has held
entries_taken tree done ino inode flush Attr hold (Entries entries) brings has held = absurd brings
entries_taken tree done ino inode flush Attr hold (Bytes bytes) brings has held = absurd brings
entries_taken tree done ino inode flush Attr hold (Size size) brings has held = has held
entries_taken tree done ino inode flush Open hold Empty brings has held = has held
entries_taken tree done ino inode flush Open hold (Entries entries) brings has held = absurd brings
entries_taken tree done ino inode flush Open hold (Bytes bytes) brings has held = absurd brings
entries_taken tree done ino inode flush Open hold (Size size) brings has held = absurd brings

pub take_followed : (tree : Tree) (client : ClientId) (done : ℕ) (known : Known) (item : GrantItem) → IsKnown known → MayTake tree done known item
    → Follows tree client done known → Follows tree client done (after_take known item)
take_followed tree client done known item is may f =
    change_followed tree client done known item.ino (granted (inode_at known item.ino) item.«class» item.hold item.content) (map (raised item.ino item.«class» (lesser_of item.hold Read)) known.flushes) known.last_flush is may.inside
    (λ other apart. find_beside item.ino other item.«class» (lesser_of item.hold Read) known.flushes apart)
    (entries_taken tree done item.ino (inode_at known item.ino) (flush_at known item.ino) item.«class» item.hold item.content may.brings (f.entries item.ino))
    (λ file e. subst (λ (o : Option Flush). FollowsFile client done (granted (inode_at known item.ino) item.«class» item.hold item.content) o file) (sym (find_raised item.ino item.«class» (lesser_of item.hold Read) known.flushes))
    (file_taken tree client done item.ino (inode_at known item.ino) (flush_at known item.ino) item.«class» item.hold item.content file e may.comes may.brings (f.files item.ino file e)))
    f
