-- What stands of a client goes on to stand.
use Rattle.std.proofs.Common.{◌≡◌, ◌+◌, ◌<◌, ◌≤◌, ◌^◌, ◌∷◌, [], ℕ, Bool, true, false, not, if◌then◌else◌, List, Option, Some, None, All, IfSome, length, filter, refl, sym, subst, arith}
use Rattle.std.specs.Option.{option_or}
use Rattle.std.proofs.lemmas.List.Elements.{All-filter, All-push, All-head, All-tail}
use Rattle.std.proofs.lemmas.List.Sums.{count_by-le-length, length-filter}
use Rattle.cal_base.specs.declared.identity.Ino.{Ino}
use Rattle.client_cache.specs.Changes.{after_flushed, after_start, flush_numbered, new_flush}
use Rattle.client_cache.specs.AfterAnswer.{after_answer}
use Rattle.client_cache.specs.IsKnown.{IsKnown}
use Rattle.client_cache.specs.Known.{Known, inode_at, is_settled}
use Rattle.client_cache.specs.Next.{next_of as next_known}
use Rattle.client_cache.specs.declared.next_step.Next.{Next}
use Rattle.client_cache.specs.declared.next_step.Next.TheVariants.{Answer, LastClose, Waits, Flushes as StartsFlush, Asks}
use Rattle.message.specs.declared.message.Message.{Message}
use Rattle.message.specs.declared.message.Message.TheVariants.{Acquire, Grant, Refuse, Change, Done, Flush, Flushed, Revoke, Release, Ask, Piece, Wait, Admit}
use Rattle.token_kind.specs.Hold.{hold_number}
use Rattle.token_kind.specs.Kept.{IsRevoke, most_left}
use Rattle.token_kind.specs.declared.«class».Class.{Class}
use Rattle.token_kind.specs.declared.«class».Class.TheVariants.{Open}
use Rattle.token_kind.specs.declared.flush.Flush.{Flush as FlushRecord}
use Rattle.token_kind.specs.declared.hold.Hold.{Hold}
use Rattle.token_kind.specs.declared.hold.Hold.TheVariants.{Read}
use Rattle.token_kind.specs.declared.revoke.Revoke.{Revoke as Revoked}
use Rattle.tree_law.specs.Descriptors.{opened}
use Rattle.tree_law.specs.declared.call.Call.{Call}
use Rattle.tree_law.specs.declared.reply.Reply.{Reply}
use Rattle.cluster_law.specs.Book.{Lowering, Ignores, Remembers, Flushes, Lowers}
use Rattle.cluster_law.specs.ClientState.{Turn, Idles, Starts, WritesBack, Takes, is_about, is_try, request_of, told}
use Rattle.cluster_law.specs.Lists.{is_empty}
use Rattle.cluster_law.specs.Sight.{closed, file_if_any}
use Rattle.client_book.specs.Booked.{sight_of}
use Rattle.client_book.specs.Client.{ClientValue, finished_in, goes_on_in, hears_in, state_of, tried_in, value_after, value_then, with_known, without_request_in}
use Rattle.client_book.specs.Memory.{Memory, above_in, after_flush_in, flushed_in, is_behind, items_in, lowered_in, lowering_in, revoked_all_in, revoked_in, written_back_in}
use Rattle.client_book.specs.Sound.{HasSpelling, IsCalling, IsClient, IsFree, IsRemembered, IsRequestOf, IsTidy}
use Rattle.client_book.proofs.Hearing.{rise-filter}
use Rattle.client_book.proofs.Requesting.{request-spelled}
use Rattle.client_book.proofs.Tidying.{tidy-done, tidy-first, tidy-items, tidy-open, tidy-own, tidy-revoked, tidy-written-back}

-- some of a list that aren't none are one at least
pub some-of : {X : Type 0} (xs : List X) → is_empty xs ≡ false → 1 ≤ length xs
some-of [] e = absurd (cc)
some-of (x ∷ xs) e = omega arith

-- where a Revoke is remembered, some class is held above what it asks
remembers-some : (known : Known) (ino : Ino) (asked : List (Class × Hold)) → lowering_in known ino asked ≡ Remembers → is_empty (above_in known ino asked) ≡ false
remembers-some known ino asked e = by (is_empty (above_in known ino asked)) (is_settled known ino) (inode_at known ino).file.unflushed e
  where
    by : (a b c : Bool) → (if a then Ignores else if not b then Remembers else if c then Flushes else Lowers) ≡ Remembers → a ≡ false
    by true b c e = absurd (cc)
    by false b c e = refl

-- some of what a Revoke asks is a Revoke too
pub revoke-fewer : (test : Class × Hold → Bool) (revoke : Revoked) → 1 ≤ length (filter test revoke.items) → IsRevoke revoke → IsRevoke (record { ino = revoke.ino; items = filter test revoke.items })
revoke-fewer test revoke some is = record {
  some = some;
  few = (let fewer = count_by-le-length test revoke.items in let same = length-filter test revoke.items in let most = is.few in omega (arith, fewer, same, most));
  rising = rise-filter test 0 revoke.items is.rising;
  closed = All-filter test (λ item. ¬ (item.0 ≡ Open)) revoke.items is.closed;
  modes = All-filter test (λ item. hold_number item.1 ≤ most_left item.0) revoke.items is.modes;
}

-- a Revoke that is taken may be remembered
pub revoked-remembered : (m : Memory) (revoke : Revoked) → IsRemembered revoke → All IsRemembered m.remembered → All IsRemembered (revoked_in m revoke.ino revoke.items).remembered
revoked-remembered m revoke is each = by (lowering_in m.known revoke.ino revoke.items) refl
  where
    by : (l : Lowering) → lowering_in m.known revoke.ino revoke.items ≡ l → All IsRemembered (lowered_in l m revoke.ino (above_in m.known revoke.ino revoke.items)).remembered
    by Ignores e = each
    by Remembers e =
        All-push IsRemembered m.remembered (record { ino = revoke.ino; items = above_in m.known revoke.ino revoke.items }) each
        (is.0, revoke-fewer _ revoke (some-of (above_in m.known revoke.ino revoke.items) (remembers-some m.known revoke.ino revoke.items e)) is.1)
    by Flushes e = each
    by Lowers e = each

-- so it is with Revokes that are taken one after the other
all-remembered : (m : Memory) (list : List Revoked) → All IsRemembered list → All IsRemembered m.remembered → All IsRemembered (revoked_all_in m list).remembered
unfolding revoked_all_in
all-remembered m [] is each = each
all-remembered m (revoke ∷ list) is each =
    all-remembered (revoked_in m revoke.ino revoke.items) list (All-tail IsRemembered revoke list is) (revoked-remembered m revoke (All-head IsRemembered revoke list is) each)

-- what waited behind a flush that is done may be remembered again
done-remembered : (m : Memory) (number : ℕ) → All IsRemembered m.remembered → All IsRemembered (flushed_in m number).remembered
done-remembered m number each = by (flush_numbered m.known number)
  where
    by : (o : Option FlushRecord) → All IsRemembered (after_flush_in m number o).remembered
    by None = each
    by (Some flush) =
        all-remembered (record { known = after_flushed m.known number; remembered = filter (λ revoke. not (is_behind flush.ino revoke)) m.remembered }) (filter (is_behind flush.ino) m.remembered)
        (All-filter (is_behind flush.ino) IsRemembered m.remembered each)
        (All-filter (λ revoke. not (is_behind flush.ino revoke)) IsRemembered m.remembered each)

-- a file that is written back leaves what is remembered
written-remembered : (m : Memory) (file : Option Ino) → All IsRemembered m.remembered → All IsRemembered (written_back_in m file).remembered
written-remembered m None each = each
written-remembered m (Some ino) each = by (inode_at m.known ino).file.unflushed (is_settled m.known ino)
  where
    by : (a b : Bool) → All IsRemembered (if a then (if b then record { known = after_start m.known (new_flush m.known ino Read Read); remembered = m.remembered } else m) else m).remembered
    by false b = each
    by true false = each
    by true true = each

-- what stands of a client beside what its cache's own type says
record Stands (v : ClientValue) : Type 0 where
  tidy : IsTidy v.memory.known
  remembered : All IsRemembered v.memory.remembered
  call : IfSome v.call (IsCalling v.calls)
  request : IfSome v.request (IsRequestOf v.calls)
  asks : v.call ≡ None → v.request ≡ None

-- it stands of a client
stands-from : (v : ClientValue) → IsClient v → Stands v
stands-from v is = record { tidy = is.sound.tidy; remembered = is.sound.remembered; call = is.call; request = is.request; asks = is.asks }

-- a request is that of the outstanding call where there is none
no-request : (number : ℕ) (request : Option Message) → request ≡ None → IfSome request (IsRequestOf number)
no-request number request e = subst (λ (o : Option Message). IfSome o (IsRequestOf number)) (sym e) tt

-- a client that took items
granted-stands : (b : Bool) (v : ClientValue) (known : Known) → IsTidy known → Stands v → Stands (with_known (without_request_in b v) known)
granted-stands true v known tidy s = record { tidy = tidy; remembered = s.remembered; call = s.call; request = tt; asks = λ e. refl }
granted-stands false v known tidy s = record { tidy = tidy; remembered = s.remembered; call = s.call; request = s.request; asks = s.asks }

-- a client that has heard what comes
heard-stands : (v : ClientValue) (turn : Turn) → HasSpelling turn → IsFree v turn → Stands v → Stands (hears_in v turn)
unfolding hears_in
heard-stands v Idles spelled free s = s
heard-stands v (Starts call) spelled free s = record {
  tidy = s.tidy;
  remembered = s.remembered;
  call = record { from_one = omega arith; spelled = spelled };
  request = no-request (v.calls + 1) v.request (s.asks free);
  asks = λ e. absurd (cc);
}
heard-stands v (WritesBack fd) spelled free s = record {
  tidy = tidy-written-back v.memory (file_if_any (opened v.memory.known.table fd)) s.tidy;
  remembered = written-remembered v.memory (file_if_any (opened v.memory.known.table fd)) s.remembered;
  call = s.call;
  request = s.request;
  asks = s.asks;
}
heard-stands v (Takes (Acquire number want)) spelled free s = s
heard-stands v (Takes (Grant number items)) spelled free s = granted-stands (is_about false number (state_of v) v.call) v (items_in v.memory.known items) (tidy-items v.memory.known items s.tidy) s
heard-stands v (Takes (Refuse number free needed)) spelled none s = s
heard-stands v (Takes (Change number call)) spelled free s = s
heard-stands v (Takes (Done number reply)) spelled free s = s
heard-stands v (Takes (Flush flush)) spelled free s = s
heard-stands v (Takes (Flushed number)) spelled free s = record {
  tidy = tidy-done v.memory number s.tidy;
  remembered = done-remembered v.memory number s.remembered;
  call = s.call;
  request = s.request;
  asks = s.asks;
}
heard-stands v (Takes (Revoke revoke)) spelled free s = record {
  tidy = tidy-revoked v.memory revoke.ino revoke.items s.tidy;
  remembered = revoked-remembered v.memory revoke spelled s.remembered;
  call = s.call;
  request = s.request;
  asks = s.asks;
}
heard-stands v (Takes (Release release)) spelled free s = s
heard-stands v (Takes Ask) spelled free s = record { tidy = s.tidy; remembered = s.remembered; call = s.call; request = s.request; asks = s.asks }
heard-stands v (Takes (Piece piece)) spelled free s = s
heard-stands v (Takes (Wait number client)) spelled free s = record { tidy = s.tidy; remembered = s.remembered; call = s.call; request = s.request; asks = s.asks }
heard-stands v (Takes Admit) spelled free s = record { tidy = s.tidy; remembered = s.remembered; call = s.call; request = s.request; asks = s.asks }

-- the outstanding call of a client that has heard what comes has a number and a spelling
pub heard-calling : (v : ClientValue) (turn : Turn) → IsClient v → HasSpelling turn → IsFree v turn → IfSome (hears_in v turn).call (IsCalling (hears_in v turn).calls)
heard-calling v turn is spelled free = (heard-stands v turn spelled free (stands-from v is)).call

-- items that are taken start no call
drops-calls : (b : Bool) (v : ClientValue) (known : Known) → (with_known (without_request_in b v) known).calls ≡ v.calls
drops-calls true v known = refl
drops-calls false v known = refl

-- a client that hears starts one call at most
pub heard-calls : (v : ClientValue) (turn : Turn) → (hears_in v turn).calls ≤ v.calls + 1
unfolding hears_in
heard-calls v Idles = omega arith
heard-calls v (Starts call) = omega arith
heard-calls v (WritesBack fd) = omega arith
heard-calls v (Takes (Acquire number want)) = omega arith
heard-calls v (Takes (Grant number items)) = (let same = drops-calls (is_about false number (state_of v) v.call) v (items_in v.memory.known items) in omega (arith, same))
heard-calls v (Takes (Refuse number free needed)) = omega arith
heard-calls v (Takes (Change number call)) = omega arith
heard-calls v (Takes (Done number reply)) = omega arith
heard-calls v (Takes (Flush flush)) = omega arith
heard-calls v (Takes (Flushed number)) = omega arith
heard-calls v (Takes (Revoke revoke)) = omega arith
heard-calls v (Takes (Release release)) = omega arith
heard-calls v (Takes Ask) = omega arith
heard-calls v (Takes (Piece piece)) = omega arith
heard-calls v (Takes (Wait number client)) = omega arith
heard-calls v (Takes Admit) = omega arith

-- a client that has finished its call
finished-stands : (v : ClientValue) (known : Known) → IsTidy known → Stands v → Stands (with_known (finished_in v) known)
finished-stands v known tidy s = record { tidy = tidy; remembered = s.remembered; call = tt; request = tt; asks = λ e. refl }

-- a request that is made, or was
asked-stands : (known : Known) (number : ℕ) (call : Call) (old made : Option Message) → request_of (sight_of known) number call ≡ made → IsKnown known → IsCalling number call → number < 2 ^ 64 → IfSome old (IsRequestOf number) → IfSome (option_or old made) (IsRequestOf number)
asked-stands known number call (Some request) made e is calling fits was = was
asked-stands known number call None None e is calling fits was = tt
asked-stands known number call None (Some message) e is calling fits was = request-spelled known number call message is calling fits e

-- a client that has tried its call
tried-stands : (v : ClientValue) (call : Call) (next : Next) → next_known v.memory.known call ≡ next → v.call ≡ Some call → IsCalling v.calls call → v.calls < 2 ^ 64 → IsKnown (tried_in v call next).memory.known → Stands v → Stands (tried_in v call next)
tried-stands v call Answer e out calling fits is s =
    finished-stands v _ (tidy-open (after_answer v.memory.known call) (closed (sight_of v.memory.known) call) (tidy-own v.memory.known call Answer e refl s.tidy)) s
tried-stands v call (LastClose ino) e out calling fits is s =
    finished-stands v _ (tidy-open (after_answer v.memory.known call) (closed (sight_of v.memory.known) call) (tidy-own v.memory.known call (LastClose ino) e refl s.tidy)) s
tried-stands v call Waits e out calling fits is s = s
tried-stands v call (StartsFlush ino) e out calling fits is s = record {
  tidy = tidy-first v.memory.known call ino e s.tidy;
  remembered = s.remembered;
  call = s.call;
  request = s.request;
  asks = s.asks;
}
tried-stands v call Asks e out calling fits is s = record {
  tidy = s.tidy;
  remembered = s.remembered;
  call = s.call;
  request = asked-stands v.memory.known v.calls call v.request _ refl is calling fits s.request;
  asks = λ none. absurd (cc);
}

-- the outstanding call is answered, or tried
went-on-stands : (try : Bool) (reply : Option Reply) (v : ClientValue) (o : Option Call) → v.call ≡ o → v.calls < 2 ^ 64 → IsKnown (goes_on_in try reply v o).memory.known → Stands v → Stands (goes_on_in try reply v o)
went-on-stands try reply v None e fits is s = s
went-on-stands try (Some reply) v (Some call) e fits is s = finished-stands v v.memory.known s.tidy s
went-on-stands true None v (Some call) e fits is s =
    tried-stands v call (next_known v.memory.known call) refl e (subst (λ (o : Option Call). IfSome o (IsCalling v.calls)) e s.call) fits is s
went-on-stands false None v (Some call) e fits is s = s

-- what stands of a client stands after each step
pub stays-sound : (v : ClientValue) (turn : Turn) → IsClient v → HasSpelling turn → IsFree v turn → v.calls < 2 ^ 63 → IsKnown (value_after v turn).memory.known → IsClient (value_after v turn)
unfolding value_after
stays-sound v turn is spelled free fits known =
    let heard : Stands (hears_in v turn) = heard-stands v turn spelled free (stands-from v is) in
    let few : (hears_in v turn).calls < 2 ^ 64 = (let more = heard-calls v turn in omega (arith, more)) in
    let s : Stands (value_then (hears_in v turn) turn) = went-on-stands (is_try turn) (told (state_of (hears_in v turn)) turn) (hears_in v turn) (hears_in v turn).call refl few known heard in
    record { sound = record { known = known; tidy = s.tidy; remembered = s.remembered }; call = s.call; request = s.request; asks = s.asks }
