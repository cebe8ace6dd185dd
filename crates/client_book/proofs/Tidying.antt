-- Nothing of a file is unflushed while a flush of it is under way: so it stays with each change of what is known.
use Rattle.std.proofs.Common.{◌≡◌, ◌++◌, ◌∷◌, ◌+◌, ◌<◌, [], ℕ, Bool, true, false, cond, not, if◌then◌else◌, List, Option, Some, None, Result, Ok, Err, is_none, length, nat_eq, map, filter, find, slice_set, slice_index_or, ap, refl, sym, subst, ◌∙◌, inl, inr}
use Rattle.std.proofs.lemmas.Bool.{and_parts, cases_lt, eq-eqb, eqb-true}
use Rattle.std.proofs.lemmas.List.{get_or_past, set_past}
use Rattle.cal_base.specs.declared.identity.Ino.{Ino}
use Rattle.client_cache.proofs.NextLemmas.{answers, next_flushes, of_answers}
use Rattle.client_cache.specs.AfterAnswer.{after_answer, with_change, with_open}
use Rattle.client_cache.specs.Changes.{after_flushed, after_lower, after_start, after_take, cleaned, flush_numbered, flushed_inode, granted, is_expected, is_numbered, leaving, left_with, lowered, new_flush, raised, with_content, without_flush}
use Rattle.client_cache.specs.Covered.{are_met, is_answerable, target_of}
use Rattle.client_cache.specs.Known.{Known, inode_at, is_flush_of, is_settled, nothing_known, part_of}
use Rattle.client_cache.specs.Next.{next_of as next_known}
use Rattle.client_cache.specs.declared.cached_inode.CachedInode.{CachedInode}
use Rattle.client_cache.specs.declared.next_step.Next.{Next}
use Rattle.client_cache.specs.declared.next_step.Next.TheVariants.{Flushes as StartsFlush}
use Rattle.delayed_write.specs.Delayed.{Delayed, after_truncate, after_write}
use Rattle.token_kind.specs.Hold.{lesser_of}
use Rattle.token_kind.specs.declared.«class».Class.{Class}
use Rattle.token_kind.specs.declared.«class».Class.TheVariants.{Names, Data, Attr, Open}
use Rattle.token_kind.specs.declared.content.Content.{Content}
use Rattle.token_kind.specs.declared.content.Content.TheVariants.{Nothing as Empty, Names as Entries, Bytes, Size}
use Rattle.token_kind.specs.declared.flush.Flush.{Flush}
use Rattle.token_kind.specs.declared.grant_item.GrantItem.{GrantItem}
use Rattle.token_kind.specs.declared.hold.Hold.{Hold}
use Rattle.token_kind.specs.declared.hold.Hold.TheVariants.{None as Nothing, Read, Write}
use Rattle.token_kind.specs.declared.revoke.Revoke.{Revoke}
use Rattle.tree_law.specs.Descriptors.{within_limit, writable}
use Rattle.tree_law.specs.Needs.{want_write}
use Rattle.tree_law.specs.Part.{needs_of_want_in, resolved_in}
use Rattle.tree_law.specs.Tree.{least_unused}
use Rattle.tree_law.specs.declared.call.Call.{Call}
use Rattle.tree_law.specs.declared.call.Call.TheVariants.{Create, Mkdir, Unlink, Rmdir, Rename, Open as OpenCall, Close, Read as ReadCall, Write as WriteCall, Truncate, Stat, Readdir, Fsync}
use Rattle.tree_law.specs.declared.descriptor.Descriptor.{Descriptor}
use Rattle.tree_law.specs.declared.mode.Mode.{Mode}
use Rattle.tree_law.specs.declared.reply.Why.{Why}
use Rattle.cluster_law.specs.Book.{Lowering, Ignores, Remembers, Flushes, Lowers}
use Rattle.cluster_law.specs.Lists.{is_empty}
use Rattle.client_book.specs.Client.{lower_open}
use Rattle.client_book.specs.Memory.{Memory, above_in, after_flush_in, flushed_in, is_behind, item_in, items_in, lower_all, lowered_in, lowering_in, revoked_all_in, revoked_in, written_back_in}
use Rattle.client_book.specs.Sound.{IsTidy}
use Rattle.client_book.proofs.Stating.{put-at}

-- what holds of an inode that is put, and of each that was there, holds of each
pub put-keeps : (P : CachedInode → Type 0) (known : Known) (at i : Ino) (inode : CachedInode) → (nat_eq i.0 at.0 ≡ true → P inode) → P (inode_at known i) → P (slice_index_or (slice_set known.inodes at.0 inode) i.0 nothing_known)
put-keeps P known at i inode here there = elim (cases_lt at.0 (length known.inodes)) as (λ _. P (slice_index_or (slice_set known.inodes at.0 inode) i.0 nothing_known)) [
  | inl below ↦ subst P (sym (put-at known at i inode below)) (by (nat_eq i.0 at.0) refl)
  | inr past ↦ subst (λ (xs : List CachedInode). P (slice_index_or xs i.0 nothing_known)) (sym (set_past known.inodes at.0 inode past)) there
]
  where
    by : (b : Bool) → nat_eq i.0 at.0 ≡ b → P (if b then inode else inode_at known i)
    by true e = here e
    by false e = there

-- nothing is both
pub apart : {X : Type 0} → false ≡ true → X
apart e = absurd (cc)

-- numbers differ either way round
other-way : (a b : ℕ) → nat_eq a b ≡ false → nat_eq b a ≡ false
other-way a b e = by (nat_eq b a) refl
  where
    by : (c : Bool) → nat_eq b a ≡ c → c ≡ false
    by false d = refl
    by true d = apart (sym e ∙ eq-eqb a b (sym (eqb-true b a d)))

-- inodes of one number are settled alike
same-settled : (known : Known) (at i : Ino) → nat_eq i.0 at.0 ≡ true → is_settled known at ≡ true → is_settled known i ≡ true
same-settled known at i e settled = subst (λ (n : ℕ). is_none (find (is_flush_of (record { 0 = n })) known.flushes) ≡ true) (sym (eqb-true i.0 at.0 e)) settled

-- a file of which something is unflushed is of the volume
pub unflushed-inside : (known : Known) (ino : Ino) → (inode_at known ino).file.unflushed ≡ true → ino.0 < length known.inodes
unflushed-inside known ino e = elim (cases_lt ino.0 (length known.inodes)) as (λ _. ino.0 < length known.inodes) [
  | inl below ↦ below
  | inr past ↦ apart (sym (ap (λ (x : CachedInode). x.file.unflushed) (get_or_past known.inodes ino.0 nothing_known past)) ∙ e)
]

-- files that had no flush under way have none
abbrev SettlesAs : Known → List Flush → Type 0
SettlesAs known flushes = (i : Ino) → is_settled known i ≡ true → is_none (find (is_flush_of i) flushes) ≡ true

-- an inode is put that is unflushed only where no flush of it is under way
tidy-put : (known : Known) (at : Ino) (inode : CachedInode) (table : List (Option Descriptor)) (flushes : List Flush) (last : ℕ) → (inode.file.unflushed ≡ true → is_settled known at ≡ true) → SettlesAs known flushes → IsTidy known
    → IsTidy (record { inodes = slice_set known.inodes at.0 inode; table = table; flushes = flushes; last_flush = last })
tidy-put known at inode table flushes last settles as_was tidy =
    λ i. put-keeps (λ x. x.file.unflushed ≡ true → is_none (find (is_flush_of i) flushes) ≡ true) known at i inode
    (λ e u. as_was i (same-settled known at i e (settles u)))
    (λ u. as_was i (tidy i u))

-- what is found is found in front, or behind
in-front : {X : Type 0} (a : Bool) (x y : X) (o p : Option X) → is_none (cond a (Some x) o) ≡ true → (is_none o ≡ true → is_none p ≡ true) → is_none (cond a (Some y) p) ≡ true
in-front true x y o p e rest = e
in-front false x y o p e rest = rest e

-- where none is found, none is found behind the first
none-behind : {X : Type 0} (a : Bool) (x : X) (o : Option X) → is_none (cond a (Some x) o) ≡ true → is_none o ≡ true
none-behind true x o e = apart e
none-behind false x o e = e

-- a flush that leaves another hold is of the same file
raised-file : (b : Bool) (cls : Class) (hold : Hold) (flush : Flush) → (if b then leaving cls hold flush else flush).ino.0 ≡ flush.ino.0
raised-file false cls hold flush = refl
raised-file true Names hold flush = refl
raised-file true Data hold flush = refl
raised-file true Attr hold flush = refl
raised-file true Open hold flush = refl

-- where a file has no flush under way, it has none after flushes were made to leave other holds
settles-raised : (ino : Ino) (cls : Class) (hold : Hold) (flushes : List Flush) (i : Ino) → is_none (find (is_flush_of i) flushes) ≡ true → is_none (find (is_flush_of i) (map (raised ino cls hold) flushes)) ≡ true
settles-raised ino cls hold [] i e = refl
settles-raised ino cls hold (flush ∷ flushes) i e =
    in-front (nat_eq (raised ino cls hold flush).ino.0 i.0) flush (raised ino cls hold flush) (find (is_flush_of i) flushes) (find (is_flush_of i) (map (raised ino cls hold) flushes))
    (subst (λ (n : ℕ). is_none (cond (nat_eq n i.0) (Some flush) (find (is_flush_of i) flushes)) ≡ true) (sym (raised-file (nat_eq flush.ino.0 ino.0) cls hold flush)) e)
    (settles-raised ino cls hold flushes i)

-- where no flush is found, none is among fewer
settles-fewer : {X : Type 0} (p q : X → Bool) (xs : List X) → is_none (find p xs) ≡ true → is_none (find p (filter q xs)) ≡ true
settles-fewer p q [] e = refl
settles-fewer p q (x ∷ xs) e = by (q x) (settles-fewer p q xs)
  where
    by : (b : Bool) → (is_none (find p xs) ≡ true → is_none (find p (filter q xs)) ≡ true) → is_none (find p (cond b (x ∷ filter q xs) (filter q xs))) ≡ true
    by true rest = in-front (p x) x x (find p xs) (find p (filter q xs)) e rest
    by false rest = rest (none-behind (p x) x (find p xs) e)

-- nor with one more, of another file
settles-more : {X : Type 0} (p : X → Bool) (xs : List X) (x : X) → is_none (find p xs) ≡ true → p x ≡ false → is_none (find p (xs ++ x ∷ [])) ≡ true
settles-more p [] x e f = subst (λ (b : Bool). is_none (cond b (Some x) None) ≡ true) (sym f) refl
settles-more p (y ∷ xs) x e f = in-front (p y) y y (find p xs) (find p (xs ++ x ∷ [])) e (λ rest. settles-more p xs x rest f)

-- a flush of an unflushed file starts
pub tidy-started : (known : Known) (flush : Flush) → (inode_at known flush.ino).file.unflushed ≡ true → IsTidy known → IsTidy (after_start known flush)
tidy-started known flush unflushed tidy i e = by (nat_eq i.0 flush.ino.0) refl (sym (ap (λ (x : CachedInode). x.file.unflushed) (put-at known flush.ino i (cleaned (inode_at known flush.ino)) (unflushed-inside known flush.ino unflushed))) ∙ e)
  where
    by : (b : Bool) → nat_eq i.0 flush.ino.0 ≡ b → (if b then cleaned (inode_at known flush.ino) else inode_at known i).file.unflushed ≡ true → is_none (find (is_flush_of i) (known.flushes ++ flush ∷ [])) ≡ true
    by true same u = apart u
    by false same u = settles-more (is_flush_of i) known.flushes flush (tidy i u) (other-way i.0 flush.ino.0 same)

-- what is unflushed of a file was so before its hold became less
pub left-unflushed : (cls : Class) (hold : Hold) (inode : CachedInode) → (left_with cls hold inode).file.unflushed ≡ true → inode.file.unflushed ≡ true
left-unflushed Names Nothing inode e = e
left-unflushed Data Nothing inode e = apart e
left-unflushed Attr Nothing inode e = e
left-unflushed Open Nothing inode e = e
left-unflushed cls Read inode e = e
left-unflushed cls Write inode e = e

-- what is unflushed of a file was so before content came with a Grant
content-unflushed : (content : Content) (inode : CachedInode) → (with_content inode content).file.unflushed ≡ true → inode.file.unflushed ≡ true
content-unflushed Empty inode e = e
content-unflushed (Entries entries) inode e = e
content-unflushed (Bytes bytes) inode e = apart e
content-unflushed (Size size) inode e = e

-- a hold is lowered
pub tidy-lowered : (known : Known) (ino : Ino) (cls : Class) (to : Hold) → IsTidy known → IsTidy (after_lower known ino cls to)
tidy-lowered known ino cls to tidy =
    tidy-put known ino (lowered cls to (inode_at known ino)) known.table known.flushes known.last_flush
    (λ u. tidy ino (left-unflushed cls _ (inode_at known ino) u)) (λ i settled. settled) tidy

-- holds are lowered, one after the other
pub tidy-all-lowered : (known : Known) (ino : Ino) (items : List (Class × Hold)) → IsTidy known → IsTidy (lower_all known ino items)
unfolding lower_all
tidy-all-lowered known ino [] tidy = tidy
tidy-all-lowered known ino (item ∷ items) tidy = tidy-all-lowered (after_lower known ino item.0 item.1) ino items (tidy-lowered known ino item.0 item.1 tidy)

-- an item of a Grant is taken
pub tidy-taken : (known : Known) (item : GrantItem) → IsTidy known → IsTidy (after_take known item)
tidy-taken known item tidy =
    tidy-put known item.ino (granted (inode_at known item.ino) item.«class» item.hold item.content) known.table (map (raised item.ino item.«class» (lesser_of item.hold Read)) known.flushes) known.last_flush
    (λ u. tidy item.ino (content-unflushed item.content (inode_at known item.ino) u))
    (λ i settled. settles-raised item.ino item.«class» (lesser_of item.hold Read) known.flushes i settled) tidy

-- the items of a Grant are taken
pub tidy-items : (known : Known) (items : List GrantItem) → IsTidy known → IsTidy (items_in known items)
unfolding items_in
tidy-items known [] tidy = tidy
tidy-items known (item ∷ items) tidy = tidy-items (item_in known item) items (by (is_expected (inode_at known item.ino) item.«class» item.content))
  where
    by : (b : Bool) → IsTidy (if b then after_take known item else known)
    by true = tidy-taken known item tidy
    by false = tidy

-- a flush is done
pub tidy-flushed : (known : Known) (number : ℕ) → IsTidy known → IsTidy (after_flushed known number)
tidy-flushed known number tidy = by (flush_numbered known number)
  where
    by : (o : Option Flush) → IsTidy (without_flush known number o)
    by None = tidy
    by (Some flush) =
        tidy-put known flush.ino (flushed_inode flush.leave_data flush.leave_attr (inode_at known flush.ino)) known.table (filter (λ flush. not (is_numbered number flush)) known.flushes) known.last_flush
        (λ u. tidy flush.ino (left-unflushed Data flush.leave_data (inode_at known flush.ino) (left-unflushed Attr flush.leave_attr (left_with Data flush.leave_data (inode_at known flush.ino)) u)))
        (λ i settled. settles-fewer (is_flush_of i) (λ flush. not (is_numbered number flush)) known.flushes settled) tidy

-- a Revoke starts a flush only where something is unflushed
flushes-where : (known : Known) (ino : Ino) (asked : List (Class × Hold)) → lowering_in known ino asked ≡ Flushes → (inode_at known ino).file.unflushed ≡ true
flushes-where known ino asked e = by (is_empty (above_in known ino asked)) (is_settled known ino) (inode_at known ino).file.unflushed e
  where
    by : (a b c : Bool) → (if a then Ignores else if not b then Remembers else if c then Flushes else Lowers) ≡ Flushes → c ≡ true
    by true b c e = absurd (cc)
    by false false c e = absurd (cc)
    by false true true e = refl
    by false true false e = absurd (cc)

-- a Revoke is taken
pub tidy-revoked : (m : Memory) (ino : Ino) (asked : List (Class × Hold)) → IsTidy m.known → IsTidy (revoked_in m ino asked).known
tidy-revoked m ino asked tidy = by (lowering_in m.known ino asked) refl
  where
    by : (l : Lowering) → lowering_in m.known ino asked ≡ l → IsTidy (lowered_in l m ino (above_in m.known ino asked)).known
    by Ignores e = tidy
    by Remembers e = tidy
    by Flushes e = tidy-started m.known (new_flush m.known ino _ _) (flushes-where m.known ino asked e) tidy
    by Lowers e = tidy-all-lowered m.known ino (above_in m.known ino asked) tidy

-- Revokes are taken, one after the other
pub tidy-all-revoked : (m : Memory) (list : List Revoke) → IsTidy m.known → IsTidy (revoked_all_in m list).known
unfolding revoked_all_in
tidy-all-revoked m [] tidy = tidy
tidy-all-revoked m (revoke ∷ list) tidy = tidy-all-revoked (revoked_in m revoke.ino revoke.items) list (tidy-revoked m revoke.ino revoke.items tidy)

-- a Flushed is taken
pub tidy-done : (m : Memory) (number : ℕ) → IsTidy m.known → IsTidy (flushed_in m number).known
tidy-done m number tidy = by (flush_numbered m.known number)
  where
    by : (o : Option Flush) → IsTidy (after_flush_in m number o).known
    by None = tidy
    by (Some flush) =
        tidy-all-revoked (record { known = after_flushed m.known number; remembered = filter (λ revoke. not (is_behind flush.ino revoke)) m.remembered }) (filter (is_behind flush.ino) m.remembered)
        (tidy-flushed m.known number tidy)

-- a file is written back
pub tidy-written-back : (m : Memory) (file : Option Ino) → IsTidy m.known → IsTidy (written_back_in m file).known
tidy-written-back m None tidy = tidy
tidy-written-back m (Some ino) tidy = by (inode_at m.known ino).file.unflushed (is_settled m.known ino) refl
  where
    by : (a b : Bool) → (inode_at m.known ino).file.unflushed ≡ a → IsTidy (if a then (if b then record { known = after_start m.known (new_flush m.known ino Read Read); remembered = m.remembered } else m) else m).known
    by false b e = tidy
    by true false e = tidy
    by true true e = tidy-started m.known (new_flush m.known ino Read Read) e tidy

-- Open is given back
pub tidy-open : (known : Known) (file : Option Ino) → IsTidy known → IsTidy (lower_open known file)
tidy-open known None tidy = tidy
tidy-open known (Some ino) tidy = tidy-lowered known ino Open Nothing tidy

-- a write or truncate is answered where what it needs is met
tidy-changed : (known : Known) (change : Delayed → Delayed) (file : Result Ino Why) → are_met known (needs_of_want_in (part_of known) (want_write file)) ≡ true → IsTidy known → IsTidy (with_change known change file)
tidy-changed known change (Err why) met tidy = tidy
tidy-changed known change (Ok ino) met tidy =
    tidy-put known ino _ known.table known.flushes known.last_flush
    (λ u. (and_parts _ _ (and_parts _ _ met).0).1) (λ i settled. settled) tidy

-- `open` alters the descriptors alone
tidy-opened : (known : Known) (mode : Mode) (fd : Option ℕ) (file : Option Ino) → IsTidy known → IsTidy (with_open known mode fd file)
tidy-opened known mode (Some fd) (Some ino) tidy = tidy
tidy-opened known mode (Some fd) None tidy = tidy
tidy-opened known mode None file tidy = tidy

-- a call is answered
pub tidy-answered : (known : Known) (call : Call) → is_answerable known call ≡ true → IsTidy known → IsTidy (after_answer known call)
tidy-answered known (Create path) may tidy = tidy
tidy-answered known (Mkdir path) may tidy = tidy
tidy-answered known (Unlink path) may tidy = tidy
tidy-answered known (Rmdir path) may tidy = tidy
tidy-answered known (Rename path goal) may tidy = tidy
tidy-answered known (OpenCall path mode) may tidy = tidy-opened known mode (least_unused known.table) (target_of (resolved_in (part_of known) path)) tidy
tidy-answered known (Close fd) may tidy = tidy
tidy-answered known (ReadCall fd offset len) may tidy = tidy
tidy-answered known (WriteCall fd offset bytes) may tidy =
    tidy-changed known (λ file. after_write file offset bytes) (within_limit (offset + length bytes) (writable known.table fd)) (and_parts _ _ may).0 tidy
tidy-answered known (Truncate fd size) may tidy =
    tidy-changed known (λ file. after_truncate file size) (within_limit size (writable known.table fd)) (and_parts _ _ may).0 tidy
tidy-answered known (Stat path) may tidy = tidy
tidy-answered known (Readdir path) may tidy = tidy
tidy-answered known (Fsync fd) may tidy = tidy

-- so is a call that the client goes on to answer, also where it gives Open back
pub tidy-own : (known : Known) (call : Call) (next : Next) → next_known known call ≡ next → answers next ≡ true → IsTidy known → IsTidy (after_answer known call)
tidy-own known call next e own tidy = tidy-answered known call (of_answers known call (ap answers e ∙ own)) tidy

-- a flush that comes before a call starts
pub tidy-first : (known : Known) (call : Call) (ino : Ino) → next_known known call ≡ StartsFlush ino → IsTidy known → IsTidy (after_start known (new_flush known ino Read Read))
tidy-first known call ino e tidy = tidy-started known (new_flush known ino Read Read) (next_flushes known call (next_known known call) refl ino e).1 tidy
