-- What comes to a sound client fits it, and so do the files of its call.
use Rattle.std.proofs.Common.{◌≡◌, ◌&&◌, ◌∷◌, [], ◌<◌, ◌+◌, not, ℕ, Bool, true, false, if◌then◌else◌, List, Option, Some, None, Result, Ok, Err, ap, refl, sym, subst, ◌∙◌, inl, inr, All, get_or, slice_set, is_none, nat_eq, nat_lt, length, find, filter, count_by}
use Rattle.std.proofs.lemmas.Bool.{cases_lt, eq-eqb}
use Rattle.std.proofs.lemmas.List.{get_or_past, length-set}
use Rattle.std.proofs.lemmas.List.Elements.{All-get_or, All-head, All-tail}
use Rattle.cal_base.specs.Limits.{file_size, inodes}
use Rattle.cal_base.specs.declared.identity.Ino.{Ino}
use Rattle.client_cache.specs.AfterAnswer.{after_answer}
use Rattle.client_cache.specs.Changes.{after_flushed, after_lower, after_start, after_take, flush_numbered, is_expected, is_numbered, new_flush, without_flush}
use Rattle.client_cache.specs.Covered.{covered, target_of}
use Rattle.client_cache.specs.IsKnown.{IsKnown, IsOpenFile}
use Rattle.client_cache.specs.Known.{Known, inode_at, is_flush_of, is_settled, part_of}
use Rattle.client_cache.specs.Next.{file_if_any as file_known, last_close, needs_flush, next_of as next_known, next_on, next_uncovered}
use Rattle.client_cache.specs.declared.next_step.Next.TheVariants.{Answer, Waits, Flushes as FlushesFile, Asks}
use Rattle.client_cache.proofs.KnownLemmas.{cached_at}
use Rattle.client_cache.proofs.NextLemmas.{flushed_file}
use Rattle.delayed_write.specs.Marks.{no_marks}
use Rattle.message.specs.Range.{IsGrantItem}
use Rattle.message.specs.declared.message.Message.TheVariants.{Acquire, Grant, Refuse, Change, Done, Flush, Flushed, Revoke, Release, Ask, Piece, Wait, Admit}
use Rattle.token_kind.specs.Flush.{IsFlush}
use Rattle.token_kind.specs.Kept.{classes_rise}
use Rattle.token_kind.specs.declared.«class».Class.{Class}
use Rattle.token_kind.specs.declared.flush.Flush.{Flush as FlushRecord}
use Rattle.token_kind.specs.declared.grant_item.GrantItem.{GrantItem}
use Rattle.token_kind.specs.declared.hold.Hold.{Hold}
use Rattle.token_kind.specs.declared.hold.Hold.TheVariants.{Read as Reads}
use Rattle.token_kind.specs.declared.revoke.Revoke.{Revoke as RevokeRecord}
use Rattle.tree_law.specs.Descriptors.{always, file_behind, opened, readable, within_limit, writable, writes}
use Rattle.tree_law.specs.Idle.{opens_it}
use Rattle.tree_law.specs.Part.{resolved_in}
use Rattle.tree_law.specs.declared.call.Call.{Call}
use Rattle.tree_law.specs.declared.call.Call.TheVariants.{Create, Mkdir, Unlink, Rmdir, Rename, Open, Close, Read, Write, Truncate, Stat, Readdir, Fsync}
use Rattle.tree_law.specs.declared.descriptor.Descriptor.{Descriptor}
use Rattle.tree_law.specs.declared.mode.Mode.{Mode}
use Rattle.tree_law.specs.declared.reply.Why.{Why}
use Rattle.tree_law.specs.declared.reply.Why.TheVariants.{BadF, FBig}
use Rattle.cluster_law.specs.Book.{Lowering, Ignores, Remembers, Flushes, Lowers}
use Rattle.cluster_law.specs.ClientState.{Turn, Idles, Starts, WritesBack, Takes}
use Rattle.cluster_law.specs.Lists.{Each}
use Rattle.cluster_law.specs.Sight.{altered, closed, file_if_any, if_last}
use Rattle.client_book.specs.Booked.{sight_of}
use Rattle.client_book.specs.Client.{ClientValue, FitsCall, FitsCalls, FitsTurn, hears_in}
use Rattle.client_book.specs.Memory.{FitItems, FitsFlushed, Memory, above_in, after_flush_in, is_behind, item_in, items_in, lower_all, lowered_in, lowering_in, revoked_all_in, revoked_in, written_back_in}
use Rattle.client_book.specs.Sound.{ComeClean, HasSpelling, IsClient, IsRemembered, IsSound, MayCome}

-- as many inodes as before, and the same descriptors
pub record SameFiles (old new : Known) : Type 0 where
  pub table : new.table ≡ old.table
  pub count : length new.inodes ≡ length old.inodes

-- nothing changes
same : (known : Known) → SameFiles known known
same known = record { table = refl; count = refl }

-- one change after another
onward : (a b c : Known) → SameFiles a b → SameFiles b c → SameFiles a c
onward a b c ab bc = record { table = bc.table ∙ ab.table; count = bc.count ∙ ab.count }

-- an inode is set
put : (known : Known) (at : ℕ) (inode : _) (flushes : List FlushRecord) (last : ℕ) → SameFiles known (record { inodes = slice_set known.inodes at inode; table = known.table; flushes = flushes; last_flush = last })
put known at inode flushes last = record { table = refl; count = length-set known.inodes at inode }

-- holds are lowered
all-lowered : (known : Known) (ino : Ino) (items : List (Class × Hold)) → SameFiles known (lower_all known ino items)
unfolding lower_all
all-lowered known ino [] = same known
all-lowered known ino (item ∷ items) =
    onward known (after_lower known ino item.0 item.1) (lower_all (after_lower known ino item.0 item.1) ino items) (put known ino.0 _ _ _) (all-lowered (after_lower known ino item.0 item.1) ino items)

-- Revokes are carried out
lowered-keeps : (l : Lowering) (m : Memory) (ino : Ino) (asked : List (Class × Hold)) → SameFiles m.known (lowered_in l m ino asked).known
lowered-keeps Ignores m ino asked = same m.known
lowered-keeps Remembers m ino asked = same m.known
lowered-keeps Flushes m ino asked = put m.known ino.0 _ _ _
lowered-keeps Lowers m ino asked = all-lowered m.known ino asked

-- one Revoke
revoked-keeps : (m : Memory) (ino : Ino) (asked : List (Class × Hold)) → SameFiles m.known (revoked_in m ino asked).known
revoked-keeps m ino asked = lowered-keeps (lowering_in m.known ino asked) m ino (above_in m.known ino asked)

-- Revokes, one after the other
all-revoked : (m : Memory) (list : List RevokeRecord) → SameFiles m.known (revoked_all_in m list).known
unfolding revoked_all_in
all-revoked m [] = same m.known
all-revoked m (revoke ∷ list) =
    onward m.known (revoked_in m revoke.ino revoke.items).known (revoked_all_in (revoked_in m revoke.ino revoke.items) list).known
    (revoked-keeps m revoke.ino revoke.items) (all-revoked (revoked_in m revoke.ino revoke.items) list)

-- a flush is done
done-keeps : (known : Known) (number : ℕ) (o : Option FlushRecord) → SameFiles known (without_flush known number o)
done-keeps known number None = same known
done-keeps known number (Some flush) = put known flush.ino.0 _ _ _

-- a Flushed is taken, with the Revokes that waited behind the flush
flushed-keeps : (m : Memory) (number : ℕ) (o : Option FlushRecord) → SameFiles m.known (after_flush_in m number o).known
flushed-keeps m number None = same m.known
flushed-keeps m number (Some flush) =
    let left : Memory = record { known = after_flushed m.known number; remembered = filter (λ revoke. not (is_behind flush.ino revoke)) m.remembered } in
    onward m.known left.known (revoked_all_in left (filter (is_behind flush.ino) m.remembered)).known
    (done-keeps m.known number (flush_numbered m.known number)) (all-revoked left (filter (is_behind flush.ino) m.remembered))

-- items are taken
item-keeps : (known : Known) (item : GrantItem) → SameFiles known (item_in known item)
item-keeps known item = by (is_expected (inode_at known item.ino) item.«class» item.content)
  where
    by : (b : Bool) → SameFiles known (if b then after_take known item else known)
    by true = put known item.ino.0 _ _ _
    by false = same known

-- all items of a Grant
items-keep : (known : Known) (items : List GrantItem) → SameFiles known (items_in known items)
unfolding items_in
items-keep known [] = same known
items-keep known (item ∷ items) = onward known (item_in known item) (items_in (item_in known item) items) (item-keeps known item) (items-keep (item_in known item) items)

-- a file is written back
back-keeps : (m : Memory) (file : Option Ino) → SameFiles m.known (written_back_in m file).known
back-keeps m None = same m.known
back-keeps m (Some ino) = by (inode_at m.known ino).file.unflushed (is_settled m.known ino)
  where
    started : Memory
    started = record { known = after_start m.known (new_flush m.known ino Reads Reads); remembered = m.remembered }

    by : (a b : Bool) → SameFiles m.known (if a then (if b then started else m) else m).known
    by true true = put m.known ino.0 _ _ _
    by true false = same m.known
    by false b = same m.known

-- a client that hears what comes has as many inodes, and the same descriptors
pub hearing-keeps : (v : ClientValue) (turn : Turn) → SameFiles v.memory.known (hears_in v turn).memory.known
unfolding hears_in
hearing-keeps v Idles = same v.memory.known
hearing-keeps v (Starts call) = same v.memory.known
hearing-keeps v (WritesBack fd) = back-keeps v.memory (file_if_any (opened v.memory.known.table fd))
hearing-keeps v (Takes (Acquire number want)) = same v.memory.known
hearing-keeps v (Takes (Grant number items)) = items-keep v.memory.known items
hearing-keeps v (Takes (Refuse number free needed)) = same v.memory.known
hearing-keeps v (Takes (Change number call)) = same v.memory.known
hearing-keeps v (Takes (Done number reply)) = same v.memory.known
hearing-keeps v (Takes (Flush flush)) = same v.memory.known
hearing-keeps v (Takes (Flushed number)) = flushed-keeps v.memory number (flush_numbered v.memory.known number)
hearing-keeps v (Takes (Revoke revoke)) = revoked-keeps v.memory revoke.ino revoke.items
hearing-keeps v (Takes (Release release)) = same v.memory.known
hearing-keeps v (Takes Ask) = same v.memory.known
hearing-keeps v (Takes (Piece piece)) = same v.memory.known
hearing-keeps v (Takes (Wait number client)) = same v.memory.known
hearing-keeps v (Takes Admit) = same v.memory.known

-- an inode, if there is one, is below a number
abbrev Below : ℕ → Option Ino → Type 0
Below n None = Unit {0}
Below n (Some ino) = ino.0 < n

-- such an inode, by its equation
below-at : (n : ℕ) (o : Option Ino) (ino : Ino) → Below n o → o ≡ Some ino → ino.0 < n
below-at n o ino below e = subst (λ o. Below n o) e below

-- the file behind a descriptor is of the volume
behind-below : (allows : Mode → Bool) (o : Option Descriptor) → IsOpenFile o → Below inodes (file_if_any (file_behind allows o))
behind-below allows None is = record {}
behind-below allows (Some descriptor) is = by (allows descriptor.mode)
  where
    by : (b : Bool) → Below inodes (file_if_any (if b then Ok descriptor.ino else Err BadF))
    by true = is
    by false = record {}

-- so is a descriptor at any place
open-at : (table : List (Option Descriptor)) (fd : ℕ) → All IsOpenFile table → IsOpenFile (get_or table fd None)
open-at table fd is = elim (cases_lt fd (length table)) as (λ _. IsOpenFile (get_or table fd None)) [
  | inl below ↦ All-get_or IsOpenFile table fd None below is
  | inr past ↦ subst IsOpenFile (sym (get_or_past table fd None past)) tt
]

-- the file behind a place of the table is of the volume
table-below : (allows : Mode → Bool) (table : List (Option Descriptor)) (fd : ℕ) → All IsOpenFile table → Below inodes (file_if_any (file_behind allows (get_or table fd None)))
table-below allows table fd is = behind-below allows (get_or table fd None) (open-at table fd is)

-- so is one that is to reach to some end
limit-below : (end : ℕ) (file : Result Ino Why) → Below inodes (file_if_any file) → Below inodes (file_if_any (within_limit end file))
limit-below end (Ok ino) below = by (nat_lt file_size end)
  where
    by : (b : Bool) → Below inodes (file_if_any (if b then Err FBig else Ok ino))
    by true = record {}
    by false = below
limit-below end (Err why) below = record {}

-- the file whose bytes a call alters
altered-below : (known : Known) (call : Call) → All IsOpenFile known.table → Below inodes (altered (sight_of known) call)
altered-below known (Create path) is = record {}
altered-below known (Mkdir path) is = record {}
altered-below known (Unlink path) is = record {}
altered-below known (Rmdir path) is = record {}
altered-below known (Rename path goal) is = record {}
altered-below known (Open path mode) is = record {}
altered-below known (Close fd) is = record {}
altered-below known (Read fd offset len) is = record {}
altered-below known (Write fd offset bytes) is = limit-below (offset + length bytes) (writable known.table fd) (table-below writes known.table fd is)
altered-below known (Truncate fd size) is = limit-below size (writable known.table fd) (table-below writes known.table fd is)
altered-below known (Stat path) is = record {}
altered-below known (Readdir path) is = record {}
altered-below known (Fsync fd) is = record {}

-- the file that a call closes, when the call is answered
last-below : (known : Known) (n : ℕ) (file : Option Ino) → Below n file → Below n (if_last (sight_of known) file)
last-below known n None below = record {}
last-below known n (Some ino) below = by (nat_lt 1 (count_by (opens_it ino.0) known.table))
  where
    by : (b : Bool) → Below n (if b then None else Some ino)
    by true = record {}
    by false = below

-- the file that a call closes is there after the call is answered
closed-below : (known : Known) (call : Call) → length known.inodes ≡ inodes → All IsOpenFile known.table → Below (length (after_answer known call).inodes) (closed (sight_of known) call)
closed-below known (Create path) count is = record {}
closed-below known (Mkdir path) count is = record {}
closed-below known (Unlink path) count is = record {}
closed-below known (Rmdir path) count is = record {}
closed-below known (Rename path goal) count is = record {}
closed-below known (Open path mode) count is = record {}
closed-below known (Close fd) count is = last-below known (length known.inodes) (file_if_any (opened known.table fd)) (subst (λ n. Below n (file_if_any (opened known.table fd))) (sym count) (table-below always known.table fd is))
closed-below known (Read fd offset len) count is = record {}
closed-below known (Write fd offset bytes) count is = record {}
closed-below known (Truncate fd size) count is = record {}
closed-below known (Stat path) count is = record {}
closed-below known (Readdir path) count is = record {}
closed-below known (Fsync fd) count is = record {}

-- the file of which a call starts a flush
on-below : (known : Known) (first : Bool) (n : ℕ) (file : Option Ino) → Below n file → Below n (flushed_file (next_on known first file))
on-below known first n None below = record {}
on-below known first n (Some ino) below = by (is_settled known ino) (first && (inode_at known ino).file.unflushed)
  where
    by : (a b : Bool) → Below n (flushed_file (if a then (if b then FlushesFile ino else Asks) else Waits))
    by true true = below
    by true false = record {}
    by false b = record {}

-- where no flush has to come first, none starts
on-none : (known : Known) (n : ℕ) (file : Option Ino) → Below n (flushed_file (next_on known false file))
on-none known n None = record {}
on-none known n (Some ino) = by (is_settled known ino)
  where
    by : (a : Bool) → Below n (flushed_file (if a then Asks else Waits))
    by true = record {}
    by false = record {}

-- a last close starts none
last-none : (n : ℕ) (file : Result Ino Why) → Below n (flushed_file (last_close file))
last-none n (Ok ino) = record {}
last-none n (Err why) = record {}

-- the two ways to read a result as a file are one
known-file : (n : ℕ) (file : Result Ino Why) → Below n (file_if_any file) → Below n (file_known file)
known-file n (Ok ino) below = below
known-file n (Err why) below = record {}

-- a call that is not covered
uncovered-below : (known : Known) (call : Call) → All IsOpenFile known.table → Below inodes (flushed_file (next_uncovered known call))
uncovered-below known (Create path) is = record {}
uncovered-below known (Mkdir path) is = record {}
uncovered-below known (Unlink path) is = record {}
uncovered-below known (Rmdir path) is = record {}
uncovered-below known (Rename path goal) is = record {}
uncovered-below known (Open path mode) is = record {}
uncovered-below known (Close fd) is = last-none inodes (opened known.table fd)
uncovered-below known (Read fd offset len) is = on-none known inodes (file_known (readable known.table fd))
uncovered-below known (Write fd offset bytes) is =
    on-below known (needs_flush known (Write fd offset bytes)) inodes (file_known (within_limit (offset + length bytes) (writable known.table fd)))
    (known-file inodes (within_limit (offset + length bytes) (writable known.table fd)) (limit-below (offset + length bytes) (writable known.table fd) (table-below writes known.table fd is)))
uncovered-below known (Truncate fd size) is =
    on-below known (needs_flush known (Truncate fd size)) inodes (file_known (within_limit size (writable known.table fd)))
    (known-file inodes (within_limit size (writable known.table fd)) (limit-below size (writable known.table fd) (table-below writes known.table fd is)))
uncovered-below known (Stat path) is = on-none known inodes (target_of (resolved_in (part_of known) path))
uncovered-below known (Readdir path) is = record {}
uncovered-below known (Fsync fd) is = on-below known true inodes (file_known (opened known.table fd)) (known-file inodes (opened known.table fd) (table-below always known.table fd is))

-- any call
next-below : (known : Known) (call : Call) → All IsOpenFile known.table → Below inodes (flushed_file (next_known known call))
next-below known call is = by (covered known call)
  where
    by : (b : Bool) → Below inodes (flushed_file (if b then Answer else next_uncovered known call))
    by true = record {}
    by false = uncovered-below known call is

-- the files of a call are of the volume
pub call-fits : (known : Known) (call : Call) → length known.inodes ≡ inodes → All IsOpenFile known.table → FitsCall known call
call-fits known call count is = record {
  alters = λ ino e. subst (λ n. ino.0 < n) (sym count) (below-at inodes (altered (sight_of known) call) ino (altered-below known call is) e);
  closes = λ ino e. below-at (length (after_answer known call).inodes) (closed (sight_of known) call) ino (closed-below known call count is) e;
  flushes = λ ino e. subst (λ n. ino.0 < n) (sym count) (below-at inodes (flushed_file (next_known known call)) ino (next-below known call is) (ap flushed_file e));
}

-- the files of a client's call fit, once it has heard what comes
pub calls-fit : (v : ClientValue) (turn : Turn) → IsClient v → FitsCalls (hears_in v turn).memory.known (hears_in v turn).call
calls-fit v turn is = by (hears_in v turn).call
  where
    keeps : SameFiles v.memory.known (hears_in v turn).memory.known
    keeps = hearing-keeps v turn

    by : (o : Option Call) → FitsCalls (hears_in v turn).memory.known o
    by None = record {}
    by (Some call) = call-fits (hears_in v turn).memory.known call (keeps.count ∙ is.sound.known.inodes) (subst (λ table. All IsOpenFile table) (sym keeps.table) is.sound.known.open_files)

-- where nothing is unflushed nothing is marked
pub idle-marks : (known : Known) (ino : Ino) → IsKnown known → (inode_at known ino).file.unflushed ≡ false → (inode_at known ino).file.marks ≡ no_marks
idle-marks known ino is clean = ap (λ file. file.marks) ((cached_at known ino is).file.idle clean)

-- each of a list, from what is said of all
each-of : {X : Type 0} (P Q : X → Type 0) → ((x : X) → P x → Q x) → (xs : List X) → All P xs → Each Q xs
each-of P Q gives [] all = record {}
each-of P Q gives (x ∷ xs) all = (gives x (All-head P x xs all), each-of P Q gives xs (All-tail P x xs all))

-- a flush that is found is one, and its file isn't settled
found-flush : (test : FlushRecord → Bool) (flushes : List FlushRecord) (flush : FlushRecord) → find test flushes ≡ Some flush → All IsFlush flushes → IsFlush flush × (is_none (find (is_flush_of flush.ino) flushes) ≡ false)
found-flush test [] flush e all = absurd (cc)
found-flush test (f ∷ fs) flush e all = by (test f) e (λ e. found-flush test fs flush e (All-tail IsFlush f fs all))
  where
    itself : (n : ℕ) → nat_eq n n ≡ true
    itself n = eq-eqb n n refl

    here : Some f ≡ Some flush → f ≡ flush
    here e = cc

    later : (b : Bool) → is_none (find (is_flush_of flush.ino) fs) ≡ false → is_none (if b then Some f else find (is_flush_of flush.ino) fs) ≡ false
    later true e = refl
    later false e = e

    by : (b : Bool) → (if b then Some f else find test fs) ≡ Some flush → (find test fs ≡ Some flush → IsFlush flush × (is_none (find (is_flush_of flush.ino) fs) ≡ false)) → IsFlush flush × (is_none (find (is_flush_of flush.ino) (f ∷ fs)) ≡ false)
    by true e rest =
        let found = here e in
        (subst IsFlush found (All-head IsFlush f fs all), subst (λ g. is_none (find (is_flush_of g.ino) (f ∷ fs)) ≡ false) found (ap (λ b. is_none (if b then Some f else find (is_flush_of f.ino) fs)) (itself f.ino.0)))
    by false e rest = ((rest e).0, later (nat_eq f.ino.0 flush.ino.0) (rest e).1)

-- the flush that a Flushed ends is of a file of which nothing is unflushed
pub flush-fits : (m : Memory) (number : ℕ) → IsSound m → FitsFlushed m.known (flush_numbered m.known number)
flush-fits m number is = by (flush_numbered m.known number) refl
  where
    clean : (ino : Ino) (b : Bool) → (inode_at m.known ino).file.unflushed ≡ b → is_settled m.known ino ≡ false → b ≡ false
    clean ino false e busy = refl
    clean ino true e busy = (let free = is.tidy ino e in absurd (cc))

    by : (o : Option FlushRecord) → flush_numbered m.known number ≡ o → FitsFlushed m.known o
    by None e = record {}
    by (Some flush) e =
        let found = found-flush (is_numbered number) m.known.flushes flush e is.known.flushes in
        let idle : (inode_at m.known flush.ino).file.unflushed ≡ false = clean flush.ino (inode_at m.known flush.ino).file.unflushed refl found.1 in
        record { within = subst (λ n. flush.ino.0 < n) (sym is.known.inodes) found.0.ino; flushed_is = idle; clear = idle-marks m.known flush.ino is.known idle }

-- the items of a Grant that is spelled and comes clean fit
items-fit : (known : Known) (items : List GrantItem) → length known.inodes ≡ inodes → All IsGrantItem items → ComeClean known items → FitItems known items
unfolding ComeClean FitItems
items-fit known [] count all clean = record {}
items-fit known (item ∷ items) count all clean =
    ((subst (λ n. item.ino.0 < n) (sym count) (All-head IsGrantItem item items all).ino, clean.0), items-fit (item_in known item) items ((item-keeps known item).count ∙ count) (All-tail IsGrantItem item items all) clean.1)

-- what comes to a client fits it
pub turn-fits : (v : ClientValue) (turn : Turn) → IsClient v → HasSpelling turn → MayCome v turn → FitsTurn v turn
turn-fits v Idles is spelled comes = record {}
turn-fits v (Starts call) is spelled comes = record {}
turn-fits v (WritesBack fd) is spelled comes =
    λ ino e. subst (λ n. ino.0 < n) (sym is.sound.known.inodes) (below-at inodes (file_if_any (opened v.memory.known.table fd)) ino (table-below always v.memory.known.table fd is.sound.known.open_files) e)
turn-fits v (Takes (Acquire number want)) is spelled comes = record {}
turn-fits v (Takes (Grant number items)) is spelled comes = items-fit v.memory.known items is.sound.known.inodes spelled.1.each comes
turn-fits v (Takes (Refuse number free needed)) is spelled comes = record {}
turn-fits v (Takes (Change number call)) is spelled comes = record {}
turn-fits v (Takes (Done number reply)) is spelled comes = record {}
turn-fits v (Takes (Flush flush)) is spelled comes = record {}
turn-fits v (Takes (Flushed number)) is spelled comes = record {
  ready = flush-fits v.memory number is.sound;
  rising = each-of IsRemembered (λ revoke. classes_rise 0 revoke.items ≡ true) (λ revoke spelled. spelled.1.rising) v.memory.remembered is.sound.remembered;
}
turn-fits v (Takes (Revoke revoke)) is spelled comes = record {
  within = subst (λ n. revoke.ino.0 < n) (sym is.sound.known.inodes) spelled.0;
  rising = spelled.1.rising;
  clear = idle-marks v.memory.known revoke.ino is.sound.known;
}
turn-fits v (Takes (Release release)) is spelled comes = record {}
turn-fits v (Takes Ask) is spelled comes = record {}
turn-fits v (Takes (Piece piece)) is spelled comes = record {}
turn-fits v (Takes (Wait number client)) is spelled comes = record {}
turn-fits v (Takes Admit) is spelled comes = record {}
