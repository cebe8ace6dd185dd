-- What stands at all times of what a client knows is kept by each change of it.
use Rattle.std.proofs.Common.{◌≡◌, ◌≢◌, ◌+◌, ◌<◌, ◌≤◌, ◌^◌, ◌++◌, ◌∷◌, ℕ, zero, suc, ◌-◌, is_none, cond, if◌then◌else◌, Bool, true, false, not, nat_eq, List, [], length, Option, Some, None, All, filter, find, map, get_or, slice_set, refl, sym, ap, subst, ◌∙◌, arith, inl, inr, Result, Ok, Err, option_map, IfSome}
use Rattle.std.specs.List.{AllPairs}
use Rattle.std.proofs.lemmas.Bool.{cases_lt, eq-eqb, true≢false}
use Rattle.std.proofs.lemmas.List.{get_or-map, get_or_past, length-map, length-set}
use Rattle.std.proofs.lemmas.List.Elements.{All-filter, All-get_or, All-map, All-nil, All-push, All-replicate, All-set}
use Rattle.std.proofs.lemmas.List.Kept.{AllPairs-filter}
use Rattle.std.proofs.lemmas.List.Quantifiers.{all_pairs_push}
use Rattle.std.specs.Cmp.Lexicographic.{pointwise}
use Rattle.cal_base.specs.declared.directory_entry.DirectoryEntry.{DirectoryEntry}
use Rattle.cal_base.specs.declared.directory_entry.EntryKind.{EntryKind}
use Rattle.cal_base.specs.declared.directory_entry.EntryKind.TheVariants.{File as IsFile, Directory as IsDirectory}
use Rattle.cal_base.specs.declared.identity.Ino.{Ino}
use Rattle.tree_law.specs.Part.{Place, found_in, looked_up_in, place_of, resolved_in, root_place, stepped_in, walked_in}
use Rattle.tree_law.specs.declared.reply.Why.{Why}
use Rattle.tree_law.specs.Entries.{AreEntries}
use Rattle.delayed_write.specs.Delayed.{Delayed, IsDelayed, clean}
use Rattle.delayed_write.proofs.TurnLemmas.{clean_is}
use Rattle.token_kind.specs.Flush.{IsFlush}
use Rattle.token_kind.specs.Hold.{hold_number, lesser_of}
use Rattle.token_kind.specs.Token.{may_hold}
use Rattle.token_kind.specs.declared.«class».Class.{Class}
use Rattle.token_kind.specs.declared.«class».Class.TheVariants.{Names, Data, Attr, Open}
use Rattle.token_kind.specs.declared.content.Content.{Content}
use Rattle.token_kind.specs.declared.content.Content.TheVariants.{Nothing as Empty, Names as Entries, Bytes, Size}
use Rattle.token_kind.specs.declared.flush.Flush.{Flush}
use Rattle.token_kind.specs.declared.grant_item.GrantItem.{GrantItem}
use Rattle.token_kind.specs.declared.hold.Hold.{Hold}
use Rattle.token_kind.specs.declared.hold.Hold.TheVariants.{None as Nothing, Read, Write}
use Rattle.tree_law.specs.declared.descriptor.Descriptor.{Descriptor}
use Rattle.client_cache.specs.declared.cached_inode.CachedInode.{CachedInode}
use Rattle.client_cache.specs.declared.flushes.Left.{Left}
use Rattle.client_cache.specs.AfterAnswer.{with_descriptor, with_file}
use Rattle.client_cache.specs.Changes.{IsContent, after_lower, after_start, after_take, cleaned, flush_left, flush_numbered, flushed_inode, forgotten, granted, holding, is_numbered, leaving, left_of, left_with, lowered, raised, with_content}
use Rattle.client_cache.specs.Holds.{hold_in, is_held}
use Rattle.client_cache.specs.IsKnown.{IsCached, IsKnown, IsLater, IsOpenFile, IsPlace}
use Rattle.client_cache.specs.Known.{Known, first_known, flush_at, inode_at, is_flush_of, is_settled, known_if, nothing_known, part_of}
use Rattle.client_cache.proofs.NameOrder.{none_ascend}

clean_cached : (bytes : List ℕ) → length bytes ≤ 262144 → IsDelayed (clean bytes)
clean_cached bytes within = clean_is (clean bytes) within refl

none_listed : AreEntries []
none_listed = record { names = All-nil _; order = none_ascend; inodes = All-nil _ }

-- what a hold of a class is by its number
abbrev pub IsHoldOf : Class → Hold → Type 0
IsHoldOf Names hold = hold_number hold ≤ 1
IsHoldOf Data hold = Unit {0}
IsHoldOf Attr hold = Unit {0}
IsHoldOf Open hold = hold_number hold ≤ 1

is_hold_of : (cls : Class) (hold : Hold) → may_hold cls hold ≡ true → IsHoldOf cls hold
is_hold_of Names Nothing may = omega arith
is_hold_of Names Read may = omega arith
is_hold_of Names Write may = absurd (true≢false (sym may))
is_hold_of Data hold may = tt
is_hold_of Attr hold may = tt
is_hold_of Open Nothing may = omega arith
is_hold_of Open Read may = omega arith
is_hold_of Open Write may = absurd (true≢false (sym may))

held_cached : (cls : Class) (hold : Hold) (inode : CachedInode) → IsHoldOf cls hold → IsCached inode → IsCached (holding inode cls hold)
held_cached Names hold inode may is = record { names = may; «open» = is.«open»; entries = is.entries; file = is.file; size = is.size }
held_cached Data hold inode may is = record { names = is.names; «open» = is.«open»; entries = is.entries; file = is.file; size = is.size }
held_cached Attr hold inode may is = record { names = is.names; «open» = is.«open»; entries = is.entries; file = is.file; size = is.size }
held_cached Open hold inode may is = record { names = is.names; «open» = may; entries = is.entries; file = is.file; size = is.size }

content_cached : (content : Content) (inode : CachedInode) → IsContent content → IsCached inode → IsCached (with_content inode content)
content_cached Empty inode may is = is
content_cached (Entries entries) inode may is = record { names = is.names; «open» = is.«open»; entries = may; file = is.file; size = is.size }
content_cached (Bytes bytes) inode may is = record { names = is.names; «open» = is.«open»; entries = is.entries; file = clean_cached bytes may; size = is.size }
content_cached (Size size) inode may is = record { names = is.names; «open» = is.«open»; entries = is.entries; file = is.file; size = may }

forgotten_cached : (cls : Class) (inode : CachedInode) → IsCached inode → IsCached (forgotten cls inode)
forgotten_cached Names inode is = record { names = is.names; «open» = is.«open»; entries = none_listed; file = is.file; size = is.size }
forgotten_cached Data inode is = record { names = is.names; «open» = is.«open»; entries = is.entries; file = clean_cached [] (omega arith); size = is.size }
forgotten_cached Attr inode is = record { names = is.names; «open» = is.«open»; entries = is.entries; file = is.file; size = omega arith }
forgotten_cached Open inode is = is

left_cached : (cls : Class) (hold : Hold) (inode : CachedInode) → IsHoldOf cls hold → IsCached inode → IsCached (left_with cls hold inode)
left_cached cls Nothing inode may is = forgotten_cached cls (holding inode cls Nothing) (held_cached cls Nothing inode may is)
left_cached cls Read inode may is = held_cached cls Read inode may is
left_cached cls Write inode may is = held_cached cls Write inode may is

lesser_below : (a b : Hold) (n : ℕ) → hold_number a ≤ n → hold_number (lesser_of a b) ≤ n
lesser_below Nothing b n p = p
lesser_below Read Nothing n p = omega arith
lesser_below Read Read n p = p
lesser_below Read Write n p = p
lesser_below Write Nothing n p = omega arith
lesser_below Write Read n p = omega arith
lesser_below Write Write n p = p

lesser_may : (cls : Class) (to : Hold) (inode : CachedInode) → IsCached inode → IsHoldOf cls (lesser_of (hold_in inode.holds cls) to)
lesser_may Names to inode is = lesser_below inode.holds.names to 1 is.names
lesser_may Data to inode is = tt
lesser_may Attr to inode is = tt
lesser_may Open to inode is = lesser_below inode.holds.«open» to 1 is.«open»

nothing_cached : IsCached nothing_known
nothing_cached = record { names = omega arith; «open» = omega arith; entries = none_listed; file = clean_cached [] (omega arith); size = omega arith }

-- each inode is one
pub cached_at : (known : Known) (ino : Ino) → IsKnown known → IsCached (inode_at known ino)
cached_at known ino is = elim (cases_lt ino.0 (length known.inodes)) as (λ _. IsCached (inode_at known ino)) [
  | inl below ↦ All-get_or IsCached known.inodes ino.0 nothing_known below is.cached
  | inr past ↦ subst IsCached (sym (get_or_past known.inodes ino.0 nothing_known past)) nothing_cached
]

-- another inode that is one keeps it
pub put_known : (known : Known) (place : ℕ) (inode : CachedInode) → IsCached inode → IsKnown known
    → IsKnown (record { inodes = slice_set known.inodes place inode; table = known.table; flushes = known.flushes; last_flush = known.last_flush })
put_known known place inode cached is = record {
  inodes = length-set known.inodes place inode ∙ is.inodes;
  table = is.table;
  cached = All-set IsCached known.inodes place inode cached is.cached;
  open_files = is.open_files;
  flushes = is.flushes;
  order = is.order;
  started = is.started;
  last = is.last;
}

-- a flush keeps its number and its file, whatever it is made to leave
raised_number : (b : Bool) (cls : Class) (hold : Hold) (flush : Flush) → (if b then leaving cls hold flush else flush).number ≡ flush.number
raised_number false cls hold flush = refl
raised_number true Names hold flush = refl
raised_number true Data hold flush = refl
raised_number true Attr hold flush = refl
raised_number true Open hold flush = refl

raised_file : (b : Bool) (cls : Class) (hold : Hold) (flush : Flush) → (if b then leaving cls hold flush else flush).ino.0 ≡ flush.ino.0
raised_file false cls hold flush = refl
raised_file true Names hold flush = refl
raised_file true Data hold flush = refl
raised_file true Attr hold flush = refl
raised_file true Open hold flush = refl

raised_is : (b : Bool) (cls : Class) (hold : Hold) (flush : Flush) → hold_number hold ≤ 1 → IsFlush flush → IsFlush (if b then leaving cls hold flush else flush)
raised_is false cls hold flush may is = is
raised_is true Names hold flush may is = is
raised_is true Data hold flush may is = record { number = is.number; fits = is.fits; ino = is.ino; size = is.size; cut = is.cut; leave_data = may; leave_attr = is.leave_attr; few = is.few; rising = is.rising; whole = is.whole }
raised_is true Attr hold flush may is = record { number = is.number; fits = is.fits; ino = is.ino; size = is.size; cut = is.cut; leave_data = is.leave_data; leave_attr = may; few = is.few; rising = is.rising; whole = is.whole }
raised_is true Open hold flush may is = is

at_most_read : (hold : Hold) → hold_number (lesser_of hold Read) ≤ 1
at_most_read Nothing = omega arith
at_most_read Read = omega arith
at_most_read Write = omega arith

-- what holds of each of a list holds of each made from it
All-made : {X : Type 0} (P : X → Type 0) (f : X → X) → ((x : X) → P x → P (f x)) → (xs : List X) → All P xs → All P (map f xs)
All-made P f keeps xs all = All-map P f xs (λ i d within. keeps (get_or xs i d) (all i d within))

pub raise_known : (known : Known) (ino : Ino) (cls : Class) (hold : Hold) → hold_number hold ≤ 1 → IsKnown known
    → IsKnown (record { inodes = known.inodes; table = known.table; flushes = map (raised ino cls hold) known.flushes; last_flush = known.last_flush })
raise_known known ino cls hold may is = record {
  inodes = is.inodes;
  table = is.table;
  cached = is.cached;
  open_files = is.open_files;
  flushes = All-made IsFlush (raised ino cls hold) (λ flush each. raised_is (nat_eq flush.ino.0 ino.0) cls hold flush may each) known.flushes is.flushes;
  order = λ i j d lower within.
      (let inside : j < length known.flushes = omega (arith, length-map known.flushes (raised ino cls hold), within) in
      let low : get_or (map (raised ino cls hold) known.flushes) i d ≡ raised ino cls hold (get_or known.flushes i d) = get_or-map (raised ino cls hold) known.flushes i d d (omega arith) in
      let high : get_or (map (raised ino cls hold) known.flushes) j d ≡ raised ino cls hold (get_or known.flushes j d) = get_or-map (raised ino cls hold) known.flushes j d d inside in
      let later : IsLater (get_or known.flushes i d) (get_or known.flushes j d) = is.order i j d lower inside in
      rw (low, high) (raised_later ino cls hold (get_or known.flushes i d) (get_or known.flushes j d) later));
  started = All-made (λ flush. flush.number ≤ known.last_flush) (raised ino cls hold) (λ flush each. rw (raised_number (nat_eq flush.ino.0 ino.0) cls hold flush) each) known.flushes is.started;
  last = is.last;
}
  where
    raised_later : (ino : Ino) (cls : Class) (hold : Hold) (a b : Flush) → IsLater a b → IsLater (raised ino cls hold a) (raised ino cls hold b)
    raised_later ino cls hold a b later = record {
      number = rw (raised_number (nat_eq a.ino.0 ino.0) cls hold a, raised_number (nat_eq b.ino.0 ino.0) cls hold b) later.number;
      file = λ same. later.file (sym (raised_file (nat_eq a.ino.0 ino.0) cls hold a) ∙ same ∙ raised_file (nat_eq b.ino.0 ino.0) cls hold b);
    }

-- where no flush of a file is found, each flush is of another
none_of : (flushes : List Flush) (ino : Ino) → find (is_flush_of ino) flushes ≡ None → (k : ℕ) (d : Flush) → k < length flushes → (get_or flushes k d).ino.0 ≢ ino.0
none_of [] ino none k d within = absurd (omega (arith, within))
none_of (flush ∷ flushes) ino none k d within = by (nat_eq flush.ino.0 ino.0) refl none (λ none k within. none_of flushes ino none k d within) k within
  where
    by : (b : Bool) → nat_eq flush.ino.0 ino.0 ≡ b → cond b (Some flush) (find (is_flush_of ino) flushes) ≡ None
        → (find (is_flush_of ino) flushes ≡ None → (k : ℕ) → k < length flushes → (get_or flushes k d).ino.0 ≢ ino.0) → (k : ℕ) → k < suc (length flushes) → (get_or (flush ∷ flushes) k d).ino.0 ≢ ino.0
    by true e none others k within = absurd (cc)
    by false e none others zero within = λ same. absurd (true≢false (sym (eq-eqb flush.ino.0 ino.0 same) ∙ e))
    by false e none others (suc k) within = others none k (omega (arith, within))

cleaned_cached : (inode : CachedInode) → IsCached inode → IsCached (cleaned inode)
cleaned_cached inode is = record { names = is.names; «open» = is.«open»; entries = is.entries; file = clean_cached inode.file.contents is.file.size; size = is.size }

push_known : (known : Known) (flush : Flush) → IsFlush flush → flush.number ≡ known.last_flush + 1 → known.last_flush < 2 ^ 64 - 1 → is_settled known flush.ino ≡ true → IsKnown known
    → IsKnown (record { inodes = known.inodes; table = known.table; flushes = known.flushes ++ flush ∷ []; last_flush = known.last_flush + 1 })
push_known known flush grammar number more settled is = record {
  inodes = is.inodes;
  table = is.table;
  cached = is.cached;
  open_files = is.open_files;
  flushes = All-push IsFlush known.flushes flush is.flushes grammar;
  order = all_pairs_push IsLater known.flushes flush is.order (λ k d within. record {
    number = (let before : (get_or known.flushes k d).number ≤ known.last_flush = is.started k d within in omega arith);
    file = none_of known.flushes flush.ino (none_from (flush_at known flush.ino) settled) k d within;
  });
  started = All-push (λ other. other.number ≤ known.last_flush + 1) known.flushes flush (λ k d within. (let before : (get_or known.flushes k d).number ≤ known.last_flush = is.started k d within in omega arith)) (omega (arith, number));
  last = omega arith;
}
  where
    none_from : (o : Option Flush) → is_none o ≡ true → o ≡ None
    none_from None e = refl
    none_from (Some flush) e = absurd (cc)

fewer_known : (known : Known) (number : ℕ) → IsKnown known
    → IsKnown (record { inodes = known.inodes; table = known.table; flushes = filter (λ flush. not (is_numbered number flush)) known.flushes; last_flush = known.last_flush })
fewer_known known number is = record {
  inodes = is.inodes;
  table = is.table;
  cached = is.cached;
  open_files = is.open_files;
  flushes = All-filter (λ flush. not (is_numbered number flush)) IsFlush known.flushes is.flushes;
  order = AllPairs-filter IsLater (λ flush. not (is_numbered number flush)) known.flushes is.order;
  started = All-filter (λ flush. not (is_numbered number flush)) (λ flush. flush.number ≤ known.last_flush) known.flushes is.started;
  last = is.last;
}

-- something else at a descriptor
pub descriptor_known : (known : Known) (fd : ℕ) (descriptor : Option Descriptor) → IsOpenFile descriptor → IsKnown known → IsKnown (with_descriptor known fd descriptor)
descriptor_known known fd descriptor may is = record {
  inodes = is.inodes;
  table = length-set known.table fd descriptor ∙ is.table;
  cached = is.cached;
  open_files = All-set IsOpenFile known.table fd descriptor may is.open_files;
  flushes = is.flushes;
  order = is.order;
  started = is.started;
  last = is.last;
}

-- another file of an inode
pub file_known : (known : Known) (ino : Ino) (file : Delayed) → IsDelayed file → IsKnown known
    → IsKnown (record { inodes = slice_set known.inodes ino.0 (with_file (inode_at known ino) file); table = known.table; flushes = known.flushes; last_flush = known.last_flush })
file_known known ino file delayed is =
    let cached = cached_at known ino is in
    put_known known ino.0 (with_file (inode_at known ino) file) (record { names = cached.names; «open» = cached.«open»; entries = cached.entries; file = delayed; size = delayed.size }) is

pub first_is : IsKnown first_known
unfolding first_known
first_is = record {
  inodes = refl;
  table = refl;
  cached = All-replicate IsCached 512 nothing_known nothing_cached;
  open_files = All-replicate IsOpenFile 32 None tt;
  flushes = All-nil _;
  order = λ i j d lower within. absurd (omega (arith, within));
  started = All-nil _;
  last = omega arith;
}

-- what a name names among entries of the volume is of the volume
found_inside : (test : DirectoryEntry → Bool) (entries : List DirectoryEntry) → All (λ entry. entry.ino.0 < 512) entries → IsPlace (Some (place_of (find test entries)))
found_inside test [] all = tt
found_inside test (entry ∷ entries) all = by (test entry) (found_inside test entries (λ i d within. all (suc i) d (omega (arith, within))))
  where
    by : (b : Bool) → IsPlace (Some (place_of (find test entries))) → IsPlace (Some (place_of (cond b (Some entry) (find test entries))))
    by true others = all 0 entry (omega arith)
    by false others = others

-- each step of resolving ends at an inode of the volume, or nowhere
found_among : (b : Bool) (entries : List DirectoryEntry) (name : List ℕ) → All (λ entry. entry.ino.0 < 512) entries → IsPlace (option_map (λ entries. found_in entries name) (known_if b entries))
found_among true entries name all = found_inside (λ entry. pointwise nat_eq entry.name name) entries all
found_among false entries name all = tt

look_inside : (known : Known) (ino : Ino) (kind : EntryKind) (name : List ℕ) → IsKnown known → IsPlace (looked_up_in (part_of known) ino kind name)
look_inside known ino IsDirectory name is = found_among (is_held (inode_at known ino).holds.names) (inode_at known ino).entries name (cached_at known ino is).entries.inodes
look_inside known ino IsFile name is = tt

step_inside : (known : Known) (at : Option (Result Place Why)) (name : List ℕ) → IsKnown known → IsPlace at → IsPlace (stepped_in (part_of known) at name)
step_inside known (Some (Ok place)) name is inside = look_inside known place.0 place.1 name is
step_inside known (Some (Err why)) name is inside = tt
step_inside known None name is inside = tt

walk_inside : (known : Known) (at : Option (Result Place Why)) (names : List (List ℕ)) → IsKnown known → IsPlace at → IsPlace (walked_in (part_of known) at names)
walk_inside known at [] is inside = inside
walk_inside known at (name ∷ names) is inside = walk_inside known (stepped_in (part_of known) at name) names is (step_inside known at name is inside)

-- so does resolving
pub resolve_inside : (known : Known) (path : List (List ℕ)) → IsKnown known → IsPlace (resolved_in (part_of known) path)
resolve_inside known path is = walk_inside known root_place path is (omega arith)

-- a descriptor that is open stands for an inode of the volume
pub open_inside : (known : Known) (fd : ℕ) → IsKnown known → IsOpenFile (get_or known.table fd None)
open_inside known fd is = elim (cases_lt fd (length known.table)) as (λ _. IsOpenFile (get_or known.table fd None)) [
  | inl below ↦ All-get_or IsOpenFile known.table fd None below is.open_files
  | inr past ↦ subst IsOpenFile (sym (get_or_past known.table fd None past)) tt
]

-- what an outstanding flush leaves is of the volume
numbered_inside : (test : Flush → Bool) (flushes : List Flush) → All IsFlush flushes → IfSome (option_map left_of (find test flushes)) (λ left. left.ino.0 < 512)
numbered_inside test [] all = tt
numbered_inside test (flush ∷ flushes) all = by (test flush) (numbered_inside test flushes (λ i d within. all (suc i) d (omega (arith, within))))
  where
    by : (b : Bool) → IfSome (option_map left_of (find test flushes)) (λ left. left.ino.0 < 512) → IfSome (option_map left_of (cond b (Some flush) (find test flushes))) (λ left. left.ino.0 < 512)
    by true others = (all 0 flush (omega arith)).ino
    by false others = others

pub left_inside : (known : Known) (number : ℕ) → IsKnown known → IfSome (option_map left_of (flush_numbered known number)) (λ left. left.ino.0 < 512)
left_inside known number is = numbered_inside (is_numbered number) known.flushes is.flushes

pub numbered_bound : (known : Known) (number : ℕ) (left : Left) → Some left ≡ option_map left_of (flush_numbered known number) → IsKnown known → left.ino.0 < 512
numbered_bound known number left e is = subst (λ (o : Option Left). IfSome o (λ left. left.ino.0 < 512)) (sym e) (left_inside known number is)

pub resolve_inside_at : (known : Known) (path : List (List ℕ)) (at : Option (Result Place Why)) → at ≡ resolved_in (part_of known) path → IsKnown known → IsPlace at
resolve_inside_at known path at e is = subst IsPlace (sym e) (resolve_inside known path is)

-- an inode with another file, as a call makes it
pub written_cached : (old new : CachedInode) → new ≡ with_file old new.file → IsDelayed new.file → IsCached old → IsCached new
written_cached old new e delayed is =
    subst (λ (inode : CachedInode). IsCached inode) (sym e) (record { names = is.names; «open» = is.«open»; entries = is.entries; file = delayed; size = delayed.size })

-- an inode that a call changed and that stays one keeps it
pub put_changed : (known : Known) (place : ℕ) (old new : CachedInode) → place < 512 → old ≡ get_or known.inodes place old → (IsCached old → IsCached new) → IsKnown known
    → IsKnown (record { inodes = slice_set known.inodes place new; table = known.table; flushes = known.flushes; last_flush = known.last_flush })
put_changed known place old new below stands keeps is =
    let within : place < length known.inodes = omega (arith, is.inodes) in
    let was : IsCached old = subst (λ (inode : CachedInode). IsCached inode) (sym stands) (All-get_or IsCached known.inodes place old within is.cached) in
    put_known known place new (keeps was) is

pub lowered_cached : (cls : Class) (to : Hold) (old new : CachedInode) → new ≡ lowered cls to old → IsCached old → IsCached new
lowered_cached cls to old new e is =
    subst (λ (inode : CachedInode). IsCached inode) (sym e) (left_cached cls (lesser_of (hold_in old.holds cls) to) old (lesser_may cls to old is) is)

-- an item is taken, step by step
pub take_steps : (known : Known) (item : GrantItem) (old new : CachedInode) (left : Hold) (flushes : List Flush) → item.ino.0 < 512 → old ≡ get_or known.inodes item.ino.0 old
    → new ≡ granted old item.«class» item.hold item.content → left ≡ lesser_of item.hold Read → flushes ≡ map (raised item.ino item.«class» left) known.flushes → may_hold item.«class» item.hold ≡ true
    → IsContent item.content → IsKnown known → IsKnown (record { inodes = slice_set known.inodes item.ino.0 new; table = known.table; flushes = flushes; last_flush = known.last_flush })
take_steps known item old new left flushes below stands made lesser raised_all may content is =
    let low : hold_number left ≤ 1 = subst (λ (hold : Hold). hold_number hold ≤ 1) (sym lesser) (at_most_read item.hold) in
    let raised_known : IsKnown (record { inodes = known.inodes; table = known.table; flushes = flushes; last_flush = known.last_flush })
    = subst (λ (fs : List Flush). IsKnown (record { inodes = known.inodes; table = known.table; flushes = fs; last_flush = known.last_flush })) (sym raised_all) (raise_known known item.ino item.«class» left low is) in
    put_changed (record { inodes = known.inodes; table = known.table; flushes = flushes; last_flush = known.last_flush }) item.ino.0 old new below stands
    (λ was. subst (λ (inode : CachedInode). IsCached inode) (sym made) (held_cached item.«class» item.hold (with_content old item.content) (is_hold_of item.«class» item.hold may) (content_cached item.content old content was))) raised_known

-- a flush is dropped, and the holds are what it left, step by step
pub left_steps : (known : Known) (number : ℕ) (left : Left) (old new : CachedInode) (flushes : List Flush) → left.ino.0 < 512 → old ≡ get_or known.inodes left.ino.0 old
    → new ≡ flushed_inode left.leave_data left.leave_attr old → flushes ≡ filter (λ flush. not (is_numbered number flush)) known.flushes → IsKnown known
    → IsKnown (record { inodes = slice_set known.inodes left.ino.0 new; table = known.table; flushes = flushes; last_flush = known.last_flush })
left_steps known number left old new flushes below stands made dropped is =
    let fewer : IsKnown (record { inodes = known.inodes; table = known.table; flushes = flushes; last_flush = known.last_flush })
    = subst (λ (fs : List Flush). IsKnown (record { inodes = known.inodes; table = known.table; flushes = fs; last_flush = known.last_flush })) (sym dropped) (fewer_known known number is) in
    put_changed (record { inodes = known.inodes; table = known.table; flushes = flushes; last_flush = known.last_flush }) left.ino.0 old new below stands
    (λ was. subst (λ (inode : CachedInode). IsCached inode) (sym made) (left_cached Attr left.leave_attr (left_with Data left.leave_data old) tt (left_cached Data left.leave_data old tt was))) fewer

-- a flush starts, step by step
pub start_steps : (known : Known) (flush : Flush) (ino : Ino) (old new : CachedInode) (flushes : List Flush) (number : ℕ) → flush.ino ≡ ino → ino.0 < 512 → old ≡ get_or known.inodes ino.0 old → new ≡ cleaned old
    → flushes ≡ known.flushes ++ flush ∷ [] → number ≡ known.last_flush + 1 → flush.number ≡ number → known.last_flush < 2 ^ 64 - 1 → is_settled known ino ≡ true → IsFlush flush → IsKnown known
    → IsKnown (record { inodes = slice_set known.inodes ino.0 new; table = known.table; flushes = flushes; last_flush = number })
start_steps known flush ino old new flushes number same below stands made pushed next numbered more settled grammar is =
    let last : flush.number ≡ known.last_flush + 1 = numbered ∙ next in
    let alone : is_settled known flush.ino ≡ true = ap (is_settled known) same ∙ settled in
    let one_more : IsKnown (record { inodes = known.inodes; table = known.table; flushes = known.flushes ++ flush ∷ []; last_flush = known.last_flush + 1 }) = push_known known flush grammar last more alone is in
    let begun : IsKnown (record { inodes = known.inodes; table = known.table; flushes = flushes; last_flush = number })
    = subst (λ (n : ℕ). IsKnown (record { inodes = known.inodes; table = known.table; flushes = flushes; last_flush = n })) (sym next)
    (subst (λ (fs : List Flush). IsKnown (record { inodes = known.inodes; table = known.table; flushes = fs; last_flush = known.last_flush + 1 })) (sym pushed) one_more) in
    put_changed (record { inodes = known.inodes; table = known.table; flushes = flushes; last_flush = number }) ino.0 old new below stands
    (λ was. subst (λ (inode : CachedInode). IsCached inode) (sym made) (cleaned_cached old was)) begun
