-- How many messages a client makes in a step, beside those of Revokes that waited.
use Rattle.std.proofs.Common.{◌≡◌, ◌≢◌, ◌+◌, ◌<◌, ◌≤◌, ◌||◌, ◌++◌, ◌∷◌, [], ℕ, zero, suc, Bool, true, false, not, eqb, if◌then◌else◌, List, Option, Some, None, All, length, map, filter, option_to_list, ap, refl, arith}
use Rattle.std.specs.List.{AllByRecursion, AllPairs, IsDistinct, list_any}
use Rattle.std.proofs.lemmas.Bool.{eqb-true}
use Rattle.std.proofs.lemmas.List.{length-append, length-map}
use Rattle.std.proofs.lemmas.List.Elements.{All-head, All-tail}
use Rattle.std.proofs.lemmas.List.Filters.{length-filter_both}
use Rattle.std.proofs.lemmas.List.Sums.{count_by-le-length, length-filter}
use Rattle.std.proofs.lemmas.Map.Steps.{length-le_from_distinct_below}
use Rattle.cal_base.specs.declared.identity.Ino.{Ino}
use Rattle.client_cache.proofs.Listed.{is_report}
use Rattle.client_cache.specs.Changes.{after_flushed, after_start, flush_numbered, new_flush}
use Rattle.client_cache.specs.IsKnown.{IsKnown, IsLater}
use Rattle.client_cache.specs.Known.{Known, inode_at, is_settled}
use Rattle.client_cache.specs.Next.{next_of as next_known}
use Rattle.client_cache.specs.Reports.{reports}
use Rattle.client_cache.specs.declared.next_step.Next.{Next}
use Rattle.client_cache.specs.declared.next_step.Next.TheVariants.{Answer, LastClose, Waits, Flushes as StartsFlush, Asks}
use Rattle.message.specs.declared.message.Message.{Message}
use Rattle.message.specs.declared.message.Message.TheVariants.{Acquire, Grant, Refuse, Change, Done, Flush, Flushed, Revoke, Release, Ask, Piece, Wait, Admit}
use Rattle.report.specs.Report.{full_count, full_piece, full_pieces, pieces_of}
use Rattle.token_kind.specs.Flush.{IsFlush}
use Rattle.token_kind.specs.declared.«class».Class.{Class}
use Rattle.token_kind.specs.declared.flush.Flush.{Flush as FlushRecord}
use Rattle.token_kind.specs.declared.hold.Hold.{Hold}
use Rattle.token_kind.specs.declared.hold.Hold.TheVariants.{Read}
use Rattle.token_kind.specs.declared.piece.Piece.{Piece as PieceRecord}
use Rattle.token_kind.specs.declared.reported.Reported.{Reported}
use Rattle.token_kind.specs.declared.revoke.Revoke.{Revoke as Revoked}
use Rattle.tree_law.specs.Descriptors.{opened}
use Rattle.tree_law.specs.declared.call.Call.{Call}
use Rattle.tree_law.specs.declared.reply.Reply.{Reply}
use Rattle.cluster_law.specs.Book.{Lowering, Ignores, Remembers, Flushes, Lowers}
use Rattle.cluster_law.specs.ClientState.{Turn, Idles, Starts, WritesBack, Takes, is_about, is_try, request_of, told}
use Rattle.cluster_law.specs.Sight.{file_if_any}
use Rattle.client_book.specs.Booked.{sight_of}
use Rattle.client_book.specs.Client.{ClientValue, goes_on_in, hears_in, state_of, tried_in, value_after, with_known, without_request_in}
use Rattle.client_book.specs.Made.{asking_in, flush_message, hearing_in, is_kept_back, lowered_messages, messages_in, piece_message, revoking_all_in, revoking_behind_in, revoking_in, sendable_in, trying_if_in, trying_in, writing_back_in}
use Rattle.client_book.specs.Memory.{Memory, above_in, after_flush_in, is_behind, items_in, lowered_in, lowering_in, revoked_all_in, revoked_in, written_back_in}
use Rattle.client_book.specs.Sound.{IsClient}

-- an option is one at most
one-at-most : {X : Type 0} (o : Option X) → length (option_to_list o) ≤ 1
one-at-most None = omega arith
one-at-most (Some x) = omega arith

-- so is an option under a condition
one-if : {X : Type 0} (b : Bool) (o : Option X) → length (if b then option_to_list o else []) ≤ 1
one-if true o = one-at-most o
one-if false o = omega arith

-- a Revoke makes one message at most, or is remembered
revoking-amount : (m : Memory) (ino : Ino) (asked : List (Class × Hold)) → length (revoking_in m.known ino asked) + length (revoked_in m ino asked).remembered ≤ length m.remembered + 1
revoking-amount m ino asked = by (lowering_in m.known ino asked)
  where
    by : (l : Lowering) → length (lowered_messages l m.known ino (above_in m.known ino asked)) + length (lowered_in l m ino (above_in m.known ino asked)).remembered ≤ length m.remembered + 1
    by Ignores = omega arith
    by Remembers = let more = length-append m.remembered (record { ino = ino; items = above_in m.known ino asked } ∷ []) in omega (arith, more)
    by Flushes = omega arith
    by Lowers = omega arith

-- so it is with each of many Revokes
revoking-all-amount : (m : Memory) (list : List Revoked) → length (revoking_all_in m list) + length (revoked_all_in m list).remembered ≤ length m.remembered + length list
unfolding revoking_all_in revoked_all_in
revoking-all-amount m [] = omega arith
revoking-all-amount m (revoke ∷ list) =
    let one = revoking-amount m revoke.ino revoke.items in
    let others = revoking-all-amount (revoked_in m revoke.ino revoke.items) list in
    let both = length-append (revoking_in m.known revoke.ino revoke.items) (revoking_all_in (revoked_in m revoke.ino revoke.items) list) in
    omega (arith, one, others, both)

-- so do those behind a flush
behind-amount : (m : Memory) (number : ℕ) (o : Option FlushRecord) → length (revoking_behind_in m number o) + length (after_flush_in m number o).remembered ≤ length m.remembered
behind-amount m number None = omega arith
behind-amount m number (Some flush) =
    let all = revoking-all-amount (record { known = after_flushed m.known number; remembered = filter (λ revoke. not (is_behind flush.ino revoke)) m.remembered }) (filter (is_behind flush.ino) m.remembered) in
    let both = length-filter_both (is_behind flush.ino) (λ revoke. not (is_behind flush.ino revoke)) (λ revoke. refl) m.remembered in
    omega (arith, all, both)

-- a file that is written back makes one
written-amount : (m : Memory) (file : Option Ino) → length (writing_back_in m.known file) + length (written_back_in m file).remembered ≤ length m.remembered + 1
written-amount m None = omega arith
written-amount m (Some ino) = by (inode_at m.known ino).file.unflushed (is_settled m.known ino)
  where
    by : (a b : Bool) → length (if a then (if b then Flush (new_flush m.known ino Read Read) ∷ [] else []) else []) + length (if a then (if b then record { known = after_start m.known (new_flush m.known ino Read Read); remembered = m.remembered } else m) else m).remembered ≤ length m.remembered + 1
    by false b = omega arith
    by true false = omega arith
    by true true = omega arith

-- items that are taken leave what is remembered
remembered-dropped : (b : Bool) (v : ClientValue) (known : Known) → (with_known (without_request_in b v) known).memory.remembered ≡ v.memory.remembered
remembered-dropped true v known = refl
remembered-dropped false v known = refl

-- what comes makes one message at most, beside those of Revokes that waited
heard-amount : (v : ClientValue) (turn : Turn) → length (hearing_in v.memory turn) + length (hears_in v turn).memory.remembered ≤ length v.memory.remembered + 1
unfolding hears_in
heard-amount v Idles = omega arith
heard-amount v (Starts call) = omega arith
heard-amount v (WritesBack fd) = written-amount v.memory (file_if_any (opened v.memory.known.table fd))
heard-amount v (Takes (Acquire number want)) = omega arith
heard-amount v (Takes (Grant number items)) =
    let same = ap (λ (list : List Revoked). length list) (remembered-dropped (is_about false number (state_of v) v.call) v (items_in v.memory.known items)) in omega (arith, same)
heard-amount v (Takes (Refuse number free needed)) = omega arith
heard-amount v (Takes (Change number call)) = omega arith
heard-amount v (Takes (Done number reply)) = omega arith
heard-amount v (Takes (Flush flush)) = omega arith
heard-amount v (Takes (Flushed number)) = let behind = behind-amount v.memory number (flush_numbered v.memory.known number) in omega (arith, behind)
heard-amount v (Takes (Revoke revoke)) = revoking-amount v.memory revoke.ino revoke.items
heard-amount v (Takes (Release release)) = omega arith
heard-amount v (Takes Ask) = omega arith
heard-amount v (Takes (Piece piece)) = omega arith
heard-amount v (Takes (Wait number client)) = omega arith
heard-amount v (Takes Admit) = omega arith

-- a request is made once at most
asked-amount : (old made : Option Message) → length (asking_in old made) ≤ 1
asked-amount None made = one-at-most made
asked-amount (Some request) made = omega arith

-- a call that is tried makes one at most
tried-amount : (v : ClientValue) (call : Call) (next : Next) → length (trying_in v call next) ≤ 1
tried-amount v call Answer = omega arith
tried-amount v call (LastClose ino) = omega arith
tried-amount v call Waits = omega arith
tried-amount v call (StartsFlush ino) = omega arith
tried-amount v call Asks = asked-amount v.request (request_of (sight_of v.memory.known) v.calls call)

-- so it is where there may be none, or it may not be tried
tried-if-amount : (try : Bool) (v : ClientValue) (o : Option Call) → length (trying_if_in try v o) ≤ 1
tried-if-amount false v o = omega arith
tried-if-amount true v None = omega arith
tried-if-amount true v (Some call) = tried-amount v call (next_known v.memory.known call)

-- a call that goes on leaves what is remembered
went-on-remembered : (try : Bool) (reply : Option Reply) (v : ClientValue) (o : Option Call) → (goes_on_in try reply v o).memory.remembered ≡ v.memory.remembered
went-on-remembered try reply v None = refl
went-on-remembered try (Some reply) v (Some call) = refl
went-on-remembered true None v (Some call) = by (next_known v.memory.known call)
  where
    by : (next : Next) → (tried_in v call next).memory.remembered ≡ v.memory.remembered
    by Answer = refl
    by (LastClose ino) = refl
    by Waits = refl
    by (StartsFlush ino) = refl
    by Asks = refl
went-on-remembered false None v (Some call) = refl

-- so a step leaves remembered as many as were once it had heard
after-remembered : (v : ClientValue) (turn : Turn) → length (value_after v turn).memory.remembered ≡ length (hears_in v turn).memory.remembered
unfolding value_after
after-remembered v turn = ap (λ (list : List Revoked). length list) (went-on-remembered (is_try turn) (told (state_of (hears_in v turn)) turn) (hears_in v turn) (hears_in v turn).call)

-- a client that isn't admitted yet makes no more
sendable-amount : (b : Bool) (messages : List Message) → length (sendable_in b messages) ≤ length messages
sendable-amount false messages = omega arith
sendable-amount true messages =
    let most = count_by-le-length (λ message. not (is_kept_back message)) messages in
    let same = length-filter (λ message. not (is_kept_back message)) messages in omega (arith, most, same)

-- a step other than at an Ask or an Admit makes two at most, beside those of Revokes that waited
usual-amount : (v : ClientValue) (turn : Turn) → length (sendable_in v.moving (hearing_in v.memory turn ++ trying_if_in (is_try turn) (hears_in v turn) (hears_in v turn).call)) + length (value_after v turn).memory.remembered ≤ length v.memory.remembered + 513
usual-amount v turn =
    let heard = heard-amount v turn in
    let tried = tried-if-amount (is_try turn) (hears_in v turn) (hears_in v turn).call in
    let both = length-append (hearing_in v.memory turn) (trying_if_in (is_try turn) (hears_in v turn) (hears_in v turn).call) in
    let sent = sendable-amount v.moving (hearing_in v.memory turn ++ trying_if_in (is_try turn) (hears_in v turn) (hears_in v turn).call) in
    let same = after-remembered v turn in
    omega (arith, heard, tried, both, sent, same)

-- there are as many full pieces as are counted
full-amount : (holds : List Reported) (n : ℕ) → length (full_pieces holds n) ≡ n
unfolding full_pieces
full-amount holds zero = refl
full-amount holds (suc n) = let before = full-amount holds n in let both = length-append (full_pieces holds n) (full_piece holds n ∷ []) in omega (arith, before, both)

-- a report of at most 2,048 holds has at most 64 pieces
pieces-amount : (holds : List Reported) → length holds ≤ 2048 → length (pieces_of holds) ≤ 64
pieces-amount holds few =
    let full = full-amount holds (full_count holds) in
    omega (arith, full, length-append {A = PieceRecord})

-- a number that is no file's is none of their numbers
none-same : (n : ℕ) (flushes : List FlushRecord) → All (λ flush. n ≢ flush.ino.0) flushes → AllByRecursion (λ m. eqb n m ≡ false) (map (λ (flush : FlushRecord). flush.ino.0) flushes)
none-same n [] each = tt
none-same n (flush ∷ flushes) each = (by (eqb n flush.ino.0) refl, none-same n flushes (All-tail (λ flush. n ≢ flush.ino.0) flush flushes each))
  where
    by : (b : Bool) → eqb n flush.ino.0 ≡ b → b ≡ false
    by true e = absurd (All-head (λ flush. n ≢ flush.ino.0) flush flushes each (eqb-true n flush.ino.0 e))
    by false e = refl

-- flushes under way are of different files
files-differ : (flushes : List FlushRecord) → AllPairs IsLater flushes → IsDistinct eqb (map (λ (flush : FlushRecord). flush.ino.0) flushes)
unfolding IsDistinct
files-differ [] order = tt
files-differ (flush ∷ flushes) order = (
  none-same flush.ino.0 flushes (λ k d within. (order 0 (suc k) d (omega arith) (omega (arith, within))).file),
  files-differ flushes (λ i j d lower within. order (suc i) (suc j) d (omega (arith, lower)) (omega (arith, within))),
)

-- and of the volume
files-inside : (flushes : List FlushRecord) → All IsFlush flushes → (q : ℕ) → list_any (eqb q) (map (λ (flush : FlushRecord). flush.ino.0) flushes) ≡ true → q < 512
files-inside [] each q e = absurd (cc)
files-inside (flush ∷ flushes) each q e = by (eqb q flush.ino.0) refl e (files-inside flushes (All-tail IsFlush flush flushes each) q)
  where
    by : (b : Bool) → eqb q flush.ino.0 ≡ b → (b || list_any (eqb q) (map (λ (flush : FlushRecord). flush.ino.0) flushes)) ≡ true
        → (list_any (eqb q) (map (λ (flush : FlushRecord). flush.ino.0) flushes) ≡ true → q < 512) → q < 512
    by true same e rest = let one = eqb-true q flush.ino.0 same in let inside = (All-head IsFlush flush flushes each).ino in omega (arith, one, inside)
    by false same e rest = rest e

-- so there are at most 512
flushes-amount : (known : Known) → IsKnown known → length known.flushes ≤ 512
flushes-amount known is =
    let most = length-le_from_distinct_below (map (λ (flush : FlushRecord). flush.ino.0) known.flushes) 512 (files-differ known.flushes is.order) (files-inside known.flushes is.flushes) in
    let same = length-map known.flushes (λ (flush : FlushRecord). flush.ino.0) in omega (arith, most, same)

-- an Ask makes the pieces of a report, and a request
asked-for-amount : (v : ClientValue) → IsKnown v.memory.known → length (map piece_message (pieces_of (reports v.memory.known)) ++ option_to_list v.request) ≤ 513
asked-for-amount v is =
    let few = pieces-amount (reports v.memory.known) (is_report v.memory.known (reports v.memory.known) is refl).few in
    let same = length-map (pieces_of (reports v.memory.known)) piece_message in
    let one = one-at-most v.request in
    let both = length-append (map piece_message (pieces_of (reports v.memory.known))) (option_to_list v.request) in
    omega (arith, few, same, one, both)

-- an Admit makes the flushes under way, and a request
admitted-amount : (v : ClientValue) → IsKnown v.memory.known → length (map flush_message v.memory.known.flushes ++ (if v.waits then option_to_list v.request else [])) ≤ 513
admitted-amount v is =
    let few = flushes-amount v.memory.known is in
    let same = length-map v.memory.known.flushes flush_message in
    let one = one-if v.waits v.request in
    let both = length-append (map flush_message v.memory.known.flushes) (if v.waits then option_to_list v.request else []) in
    omega (arith, few, same, one, both)

-- so a step makes a message for each file and one more at most, beside those of Revokes that waited
pub messages-amount : (v : ClientValue) (turn : Turn) → IsClient v → length (messages_in v turn) + length (value_after v turn).memory.remembered ≤ length v.memory.remembered + 513
unfolding messages_in hears_in
messages-amount v Idles is = usual-amount v Idles
messages-amount v (Starts call) is = usual-amount v (Starts call)
messages-amount v (WritesBack fd) is = usual-amount v (WritesBack fd)
messages-amount v (Takes (Acquire number want)) is = usual-amount v (Takes (Acquire number want))
messages-amount v (Takes (Grant number items)) is = usual-amount v (Takes (Grant number items))
messages-amount v (Takes (Refuse number free needed)) is = usual-amount v (Takes (Refuse number free needed))
messages-amount v (Takes (Change number call)) is = usual-amount v (Takes (Change number call))
messages-amount v (Takes (Done number reply)) is = usual-amount v (Takes (Done number reply))
messages-amount v (Takes (Flush flush)) is = usual-amount v (Takes (Flush flush))
messages-amount v (Takes (Flushed number)) is = usual-amount v (Takes (Flushed number))
messages-amount v (Takes (Revoke revoke)) is = usual-amount v (Takes (Revoke revoke))
messages-amount v (Takes (Release release)) is = usual-amount v (Takes (Release release))
messages-amount v (Takes Ask) is = let few = asked-for-amount v is.sound.known in let same = after-remembered v (Takes Ask) in omega (arith, few, same)
messages-amount v (Takes (Piece piece)) is = usual-amount v (Takes (Piece piece))
messages-amount v (Takes (Wait number client)) is = usual-amount v (Takes (Wait number client))
messages-amount v (Takes Admit) is = let few = admitted-amount v is.sound.known in let same = after-remembered v (Takes Admit) in omega (arith, few, same)
