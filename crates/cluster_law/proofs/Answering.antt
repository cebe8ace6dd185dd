-- What a client answers, and what it sends.
use Rattle.std.proofs.Common.{◌≡◌, ◌⊎◌, inl, inr, ◌+◌, [], ℕ, Bool, true, false, if◌then◌else◌, IsTrue, Option, Some, None, List, refl, sym, ap, subst, rules, is_none}
use Rattle.std.specs.Prelude.{IsSome}
use Rattle.cal_base.specs.declared.identity.Ino.{Ino}
use Rattle.client_cache.specs.declared.next_step.Next.{Next}
use Rattle.client_cache.specs.declared.next_step.Next.TheVariants.{Answer as Answers_it, LastClose, Waits, Flushes, Asks}
use Rattle.message.specs.declared.message.Message.{Message}
use Rattle.tree_law.specs.declared.call.Call.{Call}
use Rattle.tree_law.specs.declared.call.Call.TheVariants.{Create, Mkdir, Unlink, Rmdir, Rename, Open, Close, Read, Write, Truncate, Stat, Readdir, Fsync}
use Rattle.tree_law.specs.declared.entry.Entry.{Entry}
use Rattle.tree_law.specs.declared.reply.Reply.{Reply}
use Rattle.cluster_law.specs.declared.step.Answer.{Answer}
use Rattle.cluster_law.specs.Book.{Book, has_room, is_flushing}
use Rattle.cluster_law.specs.ClientRules.{Answers, answer_with}
use Rattle.cluster_law.specs.ClientState.{ClientState, Turn, Starts, hears, is_try, own_reply, reply_in, reply_to, request_of, told}
use Rattle.cluster_law.specs.Coverage.{acquiring, awaits_one, is_covered, is_synced, making_room, next_of, syncing, uncovered}
use Rattle.cluster_law.specs.Owed.{asking, owed, sendable, trying}
use Rattle.cluster_law.specs.Sight.{Sight, closed, synced, altered}

-- a client's own reply comes of a next step that answers
settles : (sight : Sight) (call : Call) (next : Next) (reply : Reply) → own_reply sight call next ≡ Some reply → (next ≡ Answers_it) ⊎ ((ino : Ino) × (next ≡ LastClose ino))
settles sight call Answers_it reply e = inl refl
settles sight call (LastClose ino) reply e = inr (ino, refl)
settles sight call Waits reply e = cc
settles sight call (Flushes ino) reply e = cc
settles sight call Asks reply e = cc

-- a next step answers the call
abbrev pub Settled : Next → Type 0
Settled next = (next ≡ Answers_it) ⊎ ((ino : Ino) × (next ≡ LastClose ino))

acquires : (sight : Sight) (book : Book) (call : Call) → Settled (acquiring sight book call) → ⊥
acquires sight book call e = by (awaits_one book (sight.needed call)) refl (has_room sight book call (altered sight call)) refl (altered sight call) refl e
  where
    room : (o : Option Ino) → (making_room sight o ≡ Answers_it) ⊎ ((ino : Ino) × (making_room sight o ≡ LastClose ino)) → ⊥
    room None (inl e) = cc
    room None (inr e) = let f = e.1 in cc
    room (Some ino) e = chosen (sight.unflushed ino) ino e
      where
        chosen : (b : Bool) (ino : Ino) → ((if b then Flushes ino else Asks) ≡ Answers_it) ⊎ ((i : Ino) × ((if b then Flushes ino else Asks) ≡ LastClose i)) → ⊥
        chosen true ino (inl e) = cc
        chosen true ino (inr e) = let f = e.1 in cc
        chosen false ino (inl e) = cc
        chosen false ino (inr e) = let f = e.1 in cc

    by : (a : Bool) → awaits_one book (sight.needed call) ≡ a → (b : Bool) → has_room sight book call (altered sight call) ≡ b → (o : Option Ino) → altered sight call ≡ o
        → ((if a then Waits else if b then Asks else making_room sight (altered sight call)) ≡ Answers_it) ⊎ ((ino : Ino) × ((if a then Waits else if b then Asks else making_room sight (altered sight call)) ≡ LastClose ino)) → ⊥
    by true ea b eb o eo (inl e) = cc
    by true ea b eb o eo (inr e) = let f = e.1 in cc
    by false ea true eb o eo (inl e) = cc
    by false ea true eb o eo (inr e) = let f = e.1 in cc
    by false ea false eb o eo e = room (altered sight call) e

syncs : (sight : Sight) (book : Book) (o : Option Ino) → is_synced sight book o ≡ false → Settled (syncing book o) → ⊥
syncs sight book None e s = cc
syncs sight book (Some ino) e s = by (is_flushing book ino) s
  where
    by : (b : Bool) → Settled (if b then Waits else Flushes ino) → ⊥
    by true (inl e) = cc
    by true (inr e) = let f = e.1 in cc
    by false (inl e) = cc
    by false (inr e) = let f = e.1 in cc

closes : (o : Option Ino) → is_none o ≡ false → IsSome o
closes None e = cc
closes (Some ino) e = search rules

-- of a call that isn't covered only a last `close` is answered
ends : (sight : Sight) (book : Book) (call : Call) → is_covered sight book call ≡ false → Settled (uncovered sight book call) → IsSome (closed sight call)
unfolding is_covered
ends sight book (Create path) e s = absurd (acquires sight book (Create path) s)
ends sight book (Mkdir path) e s = absurd (acquires sight book (Mkdir path) s)
ends sight book (Unlink path) e s = absurd (acquires sight book (Unlink path) s)
ends sight book (Rmdir path) e s = absurd (acquires sight book (Rmdir path) s)
ends sight book (Rename path goal) e s = absurd (acquires sight book (Rename path goal) s)
ends sight book (Open path mode) e s = absurd (acquires sight book (Open path mode) s)
ends sight book (Close fd) e s = closes (closed sight (Close fd)) e
ends sight book (Read fd offset len) e s = absurd (acquires sight book (Read fd offset len) s)
ends sight book (Write fd offset bytes) e s = absurd (acquires sight book (Write fd offset bytes) s)
ends sight book (Truncate fd size) e s = absurd (acquires sight book (Truncate fd size) s)
ends sight book (Stat path) e s = absurd (acquires sight book (Stat path) s)
ends sight book (Readdir path) e s = absurd (acquires sight book (Readdir path) s)
ends sight book (Fsync fd) e s = absurd (syncs sight book (synced sight (Fsync fd)) e s)

answered-how : (sight : Sight) (book : Book) (call : Call) (reply : Reply) → own_reply sight call (next_of sight book call) ≡ Some reply → IsTrue (is_covered sight book call) ⊎ IsSome (closed sight call)
unfolding next_of
answered-how sight book call reply e = by (is_covered sight book call) refl (settles sight call (next_of sight book call) reply e)
  where
    by : (b : Bool) → is_covered sight book call ≡ b → Settled (next_of sight book call) → IsTrue (is_covered sight book call) ⊎ IsSome (closed sight call)
    by true t s = inl (search rules)
    by false t s = inr (ends sight book call t (subst (λ b. Settled (if b then Answers_it else uncovered sight book call)) t s))

-- a reply that isn't told is the client's own
own-of : (try : Bool) (sight : Sight) (c : ClientState) (call : Call) (reply : Reply) → reply_to try None sight c (Some call) ≡ Some reply → IsTrue try × (IsTrue (is_covered sight c.book call) ⊎ IsSome (closed sight call))
own-of true sight c call reply e = (search rules, answered-how sight c.book call reply e)
own-of false sight c call reply e = cc

with-answer : (number : ℕ) (o : Option Reply) (a : Answer) → Some a ≡ answer_with number o → (reply : Reply) × (o ≡ Some reply)
with-answer number None a e = cc
with-answer number (Some reply) a e = (reply, refl)

pub own-answer : (before after : Sight) (client : ℕ) (old : ClientState) (turn : Turn) (answer : Answer) (entries : List Entry) (call : Call) → Answers before after client old turn (Some answer) entries → (hears before old turn).call ≡ Some call → told (hears before old turn) turn ≡ None
    → IsTrue (is_try turn) × (IsTrue (is_covered after (hears before old turn).book call) ⊎ IsSome (closed after call))
unfolding reply_in
own-answer before after client old turn answer entries call a outstanding untold =
    let given = with-answer _ (reply_in before after old turn) answer a.answer_is in
    let shown : reply_to (is_try turn) None after (hears before old turn) (Some call) ≡ Some given.0 = subst (λ o. reply_to (is_try turn) o after (hears before old turn) (Some call) ≡ Some given.0) untold (subst (λ o. reply_to (is_try turn) (told (hears before old turn) turn) after (hears before old turn) o ≡ Some given.0) outstanding given.1) in
    own-of (is_try turn) after (hears before old turn) call given.0 shown

-- a covered call is next to be answered
covered-next : (sight : Sight) (book : Book) (call : Call) → IsTrue (is_covered sight book call) → next_of sight book call ≡ Answers_it
unfolding next_of
covered-next sight book call covered = by (is_covered sight book call) (search rules)
  where
    by : (b : Bool) → b ≡ true → (if b then Answers_it else uncovered sight book call) ≡ Answers_it
    by true e = refl
    by false e = cc

sendable-none : (moving : Bool) → sendable moving [] ≡ []
sendable-none true = refl
sendable-none false = refl

pub covered-silent : (before after : Sight) (c : ClientState) (call : Call) → IsTrue (is_covered after c.book call) → owed before after c (Starts call) ≡ []
unfolding owed hears
covered-silent before after c call covered =
    let next = covered-next after c.book call covered in
    subst (λ n. sendable c.moving (trying after (record c { calls = c.calls + 1; call = Some call }) call n) ≡ []) (sym next) (sendable-none c.moving)

pub one-request : (sight : Sight) (c : ClientState) (call : Call) (request : Message) → c.request ≡ Some request → trying sight c call Asks ≡ []
one-request sight c call request outstanding = ap (λ o. asking o (request_of sight c.calls call)) outstanding
