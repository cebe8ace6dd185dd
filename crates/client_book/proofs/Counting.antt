-- A step of a client starts two flushes at most, and one call.
use Rattle.std.proofs.Common.{◌≡◌, ◌+◌, ◌≤◌, ◌∷◌, [], ℕ, Bool, true, false, cond, not, if◌then◌else◌, List, Option, Some, None, Result, Ok, Err, length, nat_eq, filter, find, is_none, ap, refl, sym, subst, ◌∙◌, arith}
use Rattle.std.proofs.lemmas.Bool.{eq-eqb, eqb-true}
use Rattle.cal_base.specs.declared.identity.Ino.{Ino}
use Rattle.client_cache.specs.AfterAnswer.{after_answer, with_change, with_open}
use Rattle.client_cache.specs.Changes.{after_flushed, after_lower, after_start, after_take, flush_numbered, flushed_inode, is_expected, left_with, lowered, new_flush, without_flush}
use Rattle.client_cache.specs.Covered.{target_of}
use Rattle.client_cache.specs.Known.{Known, inode_at, is_flush_of, is_settled, part_of}
use Rattle.client_cache.specs.Next.{next_of as next_known}
use Rattle.client_cache.specs.declared.next_step.Next.{Next}
use Rattle.client_cache.specs.declared.next_step.Next.TheVariants.{Answer, LastClose, Waits, Flushes as StartsFlush, Asks}
use Rattle.message.specs.declared.message.Message.TheVariants.{Acquire, Grant, Refuse, Change, Done, Flush, Flushed, Revoke, Release, Ask, Piece, Wait, Admit}
use Rattle.delayed_write.specs.Delayed.{Delayed, after_truncate, after_write}
use Rattle.token_kind.specs.declared.«class».Class.{Class}
use Rattle.token_kind.specs.declared.«class».Class.TheVariants.{Data, Attr}
use Rattle.token_kind.specs.declared.flush.Flush.{Flush as FlushRecord}
use Rattle.token_kind.specs.declared.grant_item.GrantItem.{GrantItem}
use Rattle.token_kind.specs.declared.hold.Hold.{Hold}
use Rattle.token_kind.specs.declared.hold.Hold.TheVariants.{Read}
use Rattle.token_kind.specs.declared.revoke.Revoke.{Revoke as Revoked}
use Rattle.tree_law.specs.Descriptors.{opened, within_limit, writable}
use Rattle.tree_law.specs.Part.{resolved_in}
use Rattle.tree_law.specs.Tree.{least_unused}
use Rattle.tree_law.specs.declared.call.Call.{Call}
use Rattle.tree_law.specs.declared.call.Call.TheVariants.{Create, Mkdir, Unlink, Rmdir, Rename, Open as OpenCall, Close, Read as ReadCall, Write as WriteCall, Truncate, Stat, Readdir, Fsync}
use Rattle.tree_law.specs.declared.mode.Mode.{Mode}
use Rattle.tree_law.specs.declared.reply.Reply.{Reply}
use Rattle.tree_law.specs.declared.reply.Why.{Why}
use Rattle.cluster_law.specs.Book.{Lowering, Ignores, Remembers, Flushes, Lowers}
use Rattle.cluster_law.specs.ClientState.{Turn, Idles, Starts, WritesBack, Takes, is_about, is_try, told}
use Rattle.cluster_law.specs.Lists.{is_empty}
use Rattle.cluster_law.specs.Sight.{closed, file_if_any}
use Rattle.client_book.specs.Booked.{sight_of}
use Rattle.client_book.specs.Client.{ClientValue, goes_on_in, hears_in, lower_open, state_of, tried_in, value_after, with_known, without_request_in}
use Rattle.client_book.specs.Memory.{Memory, above_in, after_flush_in, flushed_in, is_behind, item_in, items_in, lower_all, lowered_in, lowering_in, revoked_all_in, revoked_in, written_back_in}
use Rattle.client_book.specs.Sound.{IsClient, IsTidy}
use Rattle.client_book.proofs.Hearing.{left-flushed}
use Rattle.client_book.proofs.Sounding.{heard-calls}
use Rattle.client_book.proofs.Tidying.{apart, put-keeps}

-- lowering holds starts no flush
last-lowered : (known : Known) (ino : Ino) (items : List (Class × Hold)) → (lower_all known ino items).last_flush ≡ known.last_flush
unfolding lower_all
last-lowered known ino [] = refl
last-lowered known ino (item ∷ items) = last-lowered (after_lower known ino item.0 item.1) ino items

-- the items of a Grant start no flush
last-items : (known : Known) (items : List GrantItem) → (items_in known items).last_flush ≡ known.last_flush
unfolding items_in
last-items known [] = refl
last-items known (item ∷ items) = last-items (item_in known item) items ∙ by (is_expected (inode_at known item.ino) item.«class» item.content)
  where
    by : (b : Bool) → (if b then after_take known item else known).last_flush ≡ known.last_flush
    by true = refl
    by false = refl

-- nor does the end of one
pub last-flushed : (known : Known) (number : ℕ) → (after_flushed known number).last_flush ≡ known.last_flush
last-flushed known number = by (flush_numbered known number)
  where
    by : (o : Option FlushRecord) → (without_flush known number o).last_flush ≡ known.last_flush
    by None = refl
    by (Some flush) = refl

-- nor does Open that is given back
last-open : (known : Known) (file : Option Ino) → (lower_open known file).last_flush ≡ known.last_flush
last-open known None = refl
last-open known (Some ino) = refl

-- nor does `open`
last-with-open : (known : Known) (mode : Mode) (fd : Option ℕ) (file : Option Ino) → (with_open known mode fd file).last_flush ≡ known.last_flush
last-with-open known mode (Some fd) (Some ino) = refl
last-with-open known mode (Some fd) None = refl
last-with-open known mode None file = refl

-- nor does a write or truncate
last-changed : (known : Known) (change : Delayed → Delayed) (file : Result Ino Why) → (with_change known change file).last_flush ≡ known.last_flush
last-changed known change (Ok ino) = refl
last-changed known change (Err why) = refl

-- nor does any call that is answered
last-answered : (known : Known) (call : Call) → (after_answer known call).last_flush ≡ known.last_flush
last-answered known (Create path) = refl
last-answered known (Mkdir path) = refl
last-answered known (Unlink path) = refl
last-answered known (Rmdir path) = refl
last-answered known (Rename path goal) = refl
last-answered known (OpenCall path mode) = last-with-open known mode (least_unused known.table) (target_of (resolved_in (part_of known) path))
last-answered known (Close fd) = refl
last-answered known (ReadCall fd offset len) = refl
last-answered known (WriteCall fd offset bytes) = last-changed known (λ file. after_write file offset bytes) (within_limit (offset + length bytes) (writable known.table fd))
last-answered known (Truncate fd size) = last-changed known (λ file. after_truncate file size) (within_limit size (writable known.table fd))
last-answered known (Stat path) = refl
last-answered known (Readdir path) = refl
last-answered known (Fsync fd) = refl

-- a Revoke starts one flush at most
pub last-revoked : (m : Memory) (ino : Ino) (asked : List (Class × Hold)) → (revoked_in m ino asked).known.last_flush ≤ m.known.last_flush + 1
last-revoked m ino asked = by (lowering_in m.known ino asked)
  where
    by : (l : Lowering) → (lowered_in l m ino (above_in m.known ino asked)).known.last_flush ≤ m.known.last_flush + 1
    by Ignores = omega arith
    by Remembers = omega arith
    by Flushes = omega arith
    by Lowers = let same = last-lowered m.known ino (above_in m.known ino asked) in omega (arith, same)

-- nothing of a file is unflushed
abbrev IsClean : Known → Ino → Type 0
IsClean known ino = (inode_at known ino).file.unflushed ≡ false

-- and none where nothing of its file is unflushed
last-clean : (m : Memory) (ino : Ino) (asked : List (Class × Hold)) → IsClean m.known ino → (revoked_in m ino asked).known.last_flush ≡ m.known.last_flush
last-clean m ino asked clean = by (is_empty (above_in m.known ino asked)) (is_settled m.known ino) (inode_at m.known ino).file.unflushed clean
  where
    by : (a b c : Bool) → c ≡ false → (lowered_in (if a then Ignores else if not b then Remembers else if c then Flushes else Lowers) m ino (above_in m.known ino asked)).known.last_flush ≡ m.known.last_flush
    by a b true e = absurd (cc)
    by true b false e = refl
    by false false false e = refl
    by false true false e = last-lowered m.known ino (above_in m.known ino asked)

-- inodes of one number are clean alike
same-inode : (known : Known) (at i : Ino) → nat_eq i.0 at.0 ≡ true → IsClean known i → IsClean known at
same-inode known at i e clean = subst (λ (n : ℕ). IsClean known (record { 0 = n })) (eqb-true i.0 at.0 e) clean

-- a clean file stays so where a hold is lowered
lowered-clean : (known : Known) (at i : Ino) (cls : Class) (to : Hold) → IsClean known i → IsClean (after_lower known at cls to) i
lowered-clean known at i cls to clean =
    put-keeps (λ x. x.file.unflushed ≡ false) known at i (lowered cls to (inode_at known at)) (λ e. left-flushed cls _ (inode_at known at) (same-inode known at i e clean)) clean

-- and where holds are lowered one after the other
all-clean : (known : Known) (at i : Ino) (items : List (Class × Hold)) → IsClean known i → IsClean (lower_all known at items) i
unfolding lower_all
all-clean known at i [] clean = clean
all-clean known at i (item ∷ items) clean = all-clean (after_lower known at item.0 item.1) at i items (lowered-clean known at i item.0 item.1 clean)

-- and where a Revoke is taken
revoked-clean : (m : Memory) (at i : Ino) (asked : List (Class × Hold)) → IsClean m.known i → IsClean (revoked_in m at asked).known i
revoked-clean m at i asked clean = by (lowering_in m.known at asked)
  where
    by : (l : Lowering) → IsClean (lowered_in l m at (above_in m.known at asked)).known i
    by Ignores = clean
    by Remembers = clean
    by Flushes = put-keeps (λ x. x.file.unflushed ≡ false) m.known at i _ (λ e. refl) clean
    by Lowers = all-clean m.known at i (above_in m.known at asked) clean

-- and where a flush is done
flushed-clean : (known : Known) (number : ℕ) (i : Ino) → IsClean known i → IsClean (after_flushed known number) i
flushed-clean known number i clean = by (flush_numbered known number)
  where
    by : (o : Option FlushRecord) → IsClean (without_flush known number o) i
    by None = clean
    by (Some flush) =
        put-keeps (λ x. x.file.unflushed ≡ false) known flush.ino i (flushed_inode flush.leave_data flush.leave_attr (inode_at known flush.ino))
        (λ e. left-flushed Attr flush.leave_attr (left_with Data flush.leave_data (inode_at known flush.ino)) (left-flushed Data flush.leave_data (inode_at known flush.ino) (same-inode known flush.ino i e clean))) clean

-- the Revokes behind a flush of a clean file start none
last-behind : (m : Memory) (ino : Ino) (list : List Revoked) → IsClean m.known ino → (revoked_all_in m (filter (is_behind ino) list)).known.last_flush ≡ m.known.last_flush
unfolding revoked_all_in
last-behind m ino [] clean = refl
last-behind m ino (revoke ∷ list) clean = by (is_behind ino revoke) refl (λ next still. last-behind next ino list still)
  where
    by : (b : Bool) → is_behind ino revoke ≡ b → ((next : Memory) → IsClean next.known ino → (revoked_all_in next (filter (is_behind ino) list)).known.last_flush ≡ next.known.last_flush)
        → (revoked_all_in m (cond b (revoke ∷ filter (is_behind ino) list) (filter (is_behind ino) list))).known.last_flush ≡ m.known.last_flush
    by true e rest =
        rest (revoked_in m revoke.ino revoke.items) (revoked-clean m revoke.ino ino revoke.items clean)
        ∙ last-clean m revoke.ino revoke.items (subst (λ (n : ℕ). IsClean m.known (record { 0 = n })) (sym (eqb-true revoke.ino.0 ino.0 e)) clean)
    by false e rest = rest m clean

-- a flush that is found is of its file
found-file : (test : FlushRecord → Bool) (flushes : List FlushRecord) (flush : FlushRecord) → find test flushes ≡ Some flush → is_none (find (is_flush_of flush.ino) flushes) ≡ false
found-file test [] flush e = absurd (cc)
found-file test (other ∷ flushes) flush e = by (test other) e (found-file test flushes flush)
  where
    own : (a : Bool) (o : Option FlushRecord) → a ≡ true → is_none (cond a (Some other) o) ≡ false
    own true o e = refl
    own false o e = absurd (cc)

    behind : (a : Bool) (o : Option FlushRecord) → is_none o ≡ false → is_none (cond a (Some other) o) ≡ false
    behind true o e = refl
    behind false o e = e

    by : (b : Bool) → cond b (Some other) (find test flushes) ≡ Some flush → (find test flushes ≡ Some flush → is_none (find (is_flush_of flush.ino) flushes) ≡ false)
        → is_none (cond (nat_eq other.ino.0 flush.ino.0) (Some other) (find (is_flush_of flush.ino) flushes)) ≡ false
    by true e rest = own (nat_eq other.ino.0 flush.ino.0) _ (eq-eqb other.ino.0 flush.ino.0 (let same : other ≡ flush = cc in ap (λ (f : FlushRecord). f.ino.0) same))
    by false e rest = behind (nat_eq other.ino.0 flush.ino.0) _ (rest e)

-- so nothing of it is unflushed
found-clean : (known : Known) (number : ℕ) (flush : FlushRecord) → flush_numbered known number ≡ Some flush → IsTidy known → IsClean known flush.ino
found-clean known number flush e tidy = by (inode_at known flush.ino).file.unflushed refl
  where
    by : (b : Bool) → (inode_at known flush.ino).file.unflushed ≡ b → b ≡ false
    by false u = refl
    by true u = apart (sym (found-file _ known.flushes flush e) ∙ tidy flush.ino u)

-- a Flushed starts none
last-done : (m : Memory) (number : ℕ) → IsTidy m.known → (flushed_in m number).known.last_flush ≡ m.known.last_flush
last-done m number tidy = by (flush_numbered m.known number) refl
  where
    by : (o : Option FlushRecord) → flush_numbered m.known number ≡ o → (after_flush_in m number o).known.last_flush ≡ m.known.last_flush
    by None e = refl
    by (Some flush) e =
        last-behind (record { known = after_flushed m.known number; remembered = filter (λ revoke. not (is_behind flush.ino revoke)) m.remembered }) flush.ino m.remembered
        (flushed-clean m.known number flush.ino (found-clean m.known number flush e tidy))
        ∙ last-flushed m.known number

-- a file that is written back starts one flush at most
last-written : (m : Memory) (file : Option Ino) → (written_back_in m file).known.last_flush ≤ m.known.last_flush + 1
last-written m None = omega arith
last-written m (Some ino) = by (inode_at m.known ino).file.unflushed (is_settled m.known ino)
  where
    by : (a b : Bool) → (if a then (if b then record { known = after_start m.known (new_flush m.known ino Read Read); remembered = m.remembered } else m) else m).known.last_flush ≤ m.known.last_flush + 1
    by false b = omega arith
    by true false = omega arith
    by true true = omega arith

-- a client that took items knows what they made known
last-dropped : (b : Bool) (v : ClientValue) (known : Known) → (with_known (without_request_in b v) known).memory.known.last_flush ≡ known.last_flush
last-dropped true v known = refl
last-dropped false v known = refl

-- a client that hears starts one flush at most
pub last-heard : (v : ClientValue) (turn : Turn) → IsTidy v.memory.known → (hears_in v turn).memory.known.last_flush ≤ v.memory.known.last_flush + 1
unfolding hears_in
last-heard v Idles tidy = omega arith
last-heard v (Starts call) tidy = omega arith
last-heard v (WritesBack fd) tidy = last-written v.memory (file_if_any (opened v.memory.known.table fd))
last-heard v (Takes (Acquire number want)) tidy = omega arith
last-heard v (Takes (Grant number items)) tidy =
    let same = last-dropped (is_about false number (state_of v) v.call) v (items_in v.memory.known items) in
    let kept = last-items v.memory.known items in omega (arith, same, kept)
last-heard v (Takes (Refuse number free needed)) tidy = omega arith
last-heard v (Takes (Change number call)) tidy = omega arith
last-heard v (Takes (Done number reply)) tidy = omega arith
last-heard v (Takes (Flush flush)) tidy = omega arith
last-heard v (Takes (Flushed number)) tidy = let same = last-done v.memory number tidy in omega (arith, same)
last-heard v (Takes (Revoke revoke)) tidy = last-revoked v.memory revoke.ino revoke.items
last-heard v (Takes (Release release)) tidy = omega arith
last-heard v (Takes Ask) tidy = omega arith
last-heard v (Takes (Piece piece)) tidy = omega arith
last-heard v (Takes (Wait number client)) tidy = omega arith
last-heard v (Takes Admit) tidy = omega arith

-- a call that goes on starts one at most
last-tried : (v : ClientValue) (call : Call) (next : Next) → (tried_in v call next).memory.known.last_flush ≤ v.memory.known.last_flush + 1
last-tried v call Answer =
    let given = last-open (after_answer v.memory.known call) (closed (sight_of v.memory.known) call) in
    let same = last-answered v.memory.known call in omega (arith, given, same)
last-tried v call (LastClose ino) =
    let given = last-open (after_answer v.memory.known call) (closed (sight_of v.memory.known) call) in
    let same = last-answered v.memory.known call in omega (arith, given, same)
last-tried v call Waits = omega arith
last-tried v call (StartsFlush ino) = omega arith
last-tried v call Asks = omega arith

-- so does a client that goes on with its call
last-went-on : (try : Bool) (reply : Option Reply) (v : ClientValue) (o : Option Call) → (goes_on_in try reply v o).memory.known.last_flush ≤ v.memory.known.last_flush + 1
last-went-on try reply v None = omega arith
last-went-on try (Some reply) v (Some call) = omega arith
last-went-on true None v (Some call) = last-tried v call (next_known v.memory.known call)
last-went-on false None v (Some call) = omega arith

-- a step starts two flushes at most
pub last-stepped : (v : ClientValue) (turn : Turn) → IsClient v → (value_after v turn).memory.known.last_flush ≤ v.memory.known.last_flush + 2
unfolding value_after
last-stepped v turn is =
    let first = last-heard v turn is.sound.tidy in
    let later = last-went-on (is_try turn) (told (state_of (hears_in v turn)) turn) (hears_in v turn) (hears_in v turn).call in
    omega (arith, first, later)

-- a client that goes on with its call starts none
went-on-calls : (try : Bool) (reply : Option Reply) (v : ClientValue) (o : Option Call) → (goes_on_in try reply v o).calls ≡ v.calls
went-on-calls try reply v None = refl
went-on-calls try (Some reply) v (Some call) = refl
went-on-calls true None v (Some call) = by (next_known v.memory.known call)
  where
    by : (next : Next) → (tried_in v call next).calls ≡ v.calls
    by Answer = refl
    by (LastClose ino) = refl
    by Waits = refl
    by (StartsFlush ino) = refl
    by Asks = refl
went-on-calls false None v (Some call) = refl

-- a step starts one call at most
pub calls-stepped : (v : ClientValue) (turn : Turn) → (value_after v turn).calls ≤ v.calls + 1
unfolding value_after
calls-stepped v turn =
    let first = heard-calls v turn in
    let same = went-on-calls (is_try turn) (told (state_of (hears_in v turn)) turn) (hears_in v turn) (hears_in v turn).call in
    omega (arith, first, same)
