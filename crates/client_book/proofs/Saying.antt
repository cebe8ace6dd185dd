-- A client says what the law says that it owes, and replies what the law replies.
use Rattle.std.proofs.Common.{◌≡◌, ◌∷◌, [], ◌++◌, ◌&&◌, not, ℕ, Bool, true, false, if◌then◌else◌, List, Option, Some, None, IfSome, ap, refl, sym, subst, ◌∙◌, map, filter, option_map, option_to_list}
use Rattle.std.proofs.lemmas.List.{map-append}
use Rattle.cal_base.specs.declared.identity.Ino.{Ino}
use Rattle.client_cache.specs.Changes.{after_flushed, flush_numbered, new_flush}
use Rattle.client_cache.specs.Known.{inode_at, is_settled}
use Rattle.client_cache.specs.Next.{next_of as next_known}
use Rattle.client_cache.specs.Reports.{reports}
use Rattle.client_cache.specs.declared.next_step.Next.{Next}
use Rattle.client_cache.specs.declared.next_step.Next.TheVariants.{Answer, LastClose, Waits, Flushes, Asks}
use Rattle.message.specs.declared.message.Message.{Message}
use Rattle.message.specs.declared.message.Message.TheVariants.{Acquire, Grant, Refuse, Change, Done, Flush, Flushed, Revoke, Release, Ask, Piece, Wait, Admit}
use Rattle.report.specs.Report.{pieces_of}
use Rattle.token_kind.specs.declared.«class».Class.{Class}
use Rattle.token_kind.specs.declared.flush.Flush.{Flush as FlushRecord}
use Rattle.token_kind.specs.declared.hold.Hold.{Hold}
use Rattle.token_kind.specs.declared.hold.Hold.TheVariants.{Read}
use Rattle.token_kind.specs.declared.piece.Piece.{Piece as PieceRecord}
use Rattle.token_kind.specs.declared.revoke.Revoke.{Revoke as RevokeRecord}
use Rattle.tree_law.specs.Change.{is_change}
use Rattle.tree_law.specs.Descriptors.{opened}
use Rattle.tree_law.specs.Needs.{want_of}
use Rattle.tree_law.specs.declared.call.Call.{Call}
use Rattle.tree_law.specs.declared.reply.Reply.{Reply}
use Rattle.tree_law.specs.declared.request.Want.{Want}
use Rattle.cluster_law.specs.Asking.{is_request}
use Rattle.cluster_law.specs.Book.{Lowering, Ignores, Remembers, Flushes as FlushesFirst, Lowers, flush_numbered as flush_booked, is_flushing, next_flush}
use Rattle.cluster_law.specs.ClientRules.{answer_with, own_entry}
use Rattle.cluster_law.specs.ClientState.{Turn, Idles, Starts, WritesBack, Takes, acquire_of, hears, is_try, own_reply, reply_after, reply_in, reply_to, request_of, told}
use Rattle.cluster_law.specs.Owed.{Tale, Says, Sends, as_piece, asking, hearing, is_said, listed, lowered, owed, report, revoking, revoking_all, revoking_behind, sendable, tale_of, trying, trying_if, waiting, writing_back}
use Rattle.cluster_law.specs.Sight.{Sight, file_if_any}
use Rattle.client_book.specs.Booked.{flushing_of, sight_of}
use Rattle.client_book.specs.Client.{ClientValue, FitsFlush, FitsTurn, hears_in, state_of, value_after}
use Rattle.client_book.specs.Made.{asking_in, flush_message, hearing_in, is_kept_back, lowered_messages, messages_in, piece_message, reply_at, reply_to_in, revoking_all_in, revoking_behind_in, revoking_in, sendable_in, trying_if_in, trying_in, writing_back_in}
use Rattle.client_book.specs.Memory.{FitsFlushed, Memory, above_in, book_in, is_behind, lowering_in, revoked_in}
use Rattle.client_book.specs.Sound.{HasSpelling, IsClient, IsRequestOf, KeepsLaw, MayCome}
use Rattle.client_book.proofs.Covering.{settled}
use Rattle.client_book.proofs.Going.{goes}
use Rattle.client_book.proofs.Answering.{done}
use Rattle.client_book.proofs.Fitting.{calls-fit, turn-fits}
use Rattle.client_book.proofs.Hearing.{AreReady, all-ready, behind-ready, found-number, found-same, lowering-same, ready-flushed, revokes}
use Rattle.client_book.proofs.Reporting.{reports-booked}
use Rattle.client_book.proofs.Stepping.{heard, steps}

-- what is said of a list joined to another
tales : (xs ys : List Message) (front back : List Tale) → map tale_of xs ≡ front → map tale_of ys ≡ back → map tale_of (xs ++ ys) ≡ front ++ back
tales xs ys front back e f = map-append tale_of xs ys ∙ (λ i. e i ++ f i)

-- what is said where a Revoke is carried out in one of the four ways
lowered-tales : (l : Lowering) (m : Memory) (ino : Ino) (asked : List (Class × Hold)) → map tale_of (lowered_messages l m.known ino asked) ≡ lowered l (book_in m) ino asked
lowered-tales Ignores m ino asked = refl
lowered-tales Remembers m ino asked = refl
lowered-tales FlushesFirst m ino asked = refl
lowered-tales Lowers m ino asked = refl

-- what is said of one Revoke
revoking-tales : (m : Memory) (sight : Sight) (ino : Ino) (asked : List (Class × Hold)) → sight.unflushed ino ≡ (inode_at m.known ino).file.unflushed → map tale_of (revoking_in m.known ino asked) ≡ revoking sight (book_in m) ino asked
revoking-tales m sight ino asked same =
    lowered-tales (lowering_in m.known ino asked) m ino (above_in m.known ino asked)
    ∙ sym (ap (λ l. lowered l (book_in m) ino (above_in m.known ino asked)) (lowering-same m sight ino asked same))

-- what is said of Revokes that may be carried out one after the other
revoking-all : (m : Memory) (sight : Sight) (list : List RevokeRecord) → AreReady m.known sight list → map tale_of (revoking_all_in m list) ≡ revoking_all sight (book_in m) list
unfolding revoking_all_in revoking_all
revoking-all m sight [] each = refl
revoking-all m sight (revoke ∷ list) each =
    let ready = each.0.0 in
    let same = each.0.1 ∙ sym ready.flushed_is in
    tales (revoking_in m.known revoke.ino revoke.items) (revoking_all_in (revoked_in m revoke.ino revoke.items) list) _ _
    (revoking-tales m sight revoke.ino revoke.items same)
    (revoking-all (revoked_in m revoke.ino revoke.items) sight list (all-ready m sight revoke.ino revoke.items list ready each.1)
    ∙ ap (λ b. revoking_all sight b list) (revokes m sight revoke.ino revoke.items ready.within each.0.2 same (λ e. ready.clear)))

-- what is said where a file is written back
back-tales : (m : Memory) (file : Option Ino) → map tale_of (writing_back_in m.known file) ≡ writing_back (sight_of m.known) (book_in m) file
back-tales m None = refl
back-tales m (Some ino) = chosen (inode_at m.known ino).file.unflushed (is_settled m.known ino) (is_flushing (book_in m) ino) (settled m.known m.remembered ino)
  where
    chosen : (a b c : Bool) → c ≡ not b → map tale_of (if a then (if b then Flush (new_flush m.known ino Read Read) ∷ [] else []) else []) ≡ (if a && not c then Sends (next_flush (book_in m) ino Read Read) ∷ [] else [])
    chosen true true false e = refl
    chosen true false true e = refl
    chosen false b c e = refl
    chosen true true true e = cc
    chosen true false false e = cc

-- a request is said as it is
request-tale : (number : ℕ) (message : Message) → is_request number message ≡ true → tale_of message ≡ Says message
request-tale number (Acquire n want) e = refl
request-tale number (Grant n items) e = refl
request-tale number (Refuse n free needed) e = refl
request-tale number (Change n call) e = refl
request-tale number (Done n reply) e = refl
request-tale number (Flush flush) e = cc
request-tale number (Flushed n) e = refl
request-tale number (Revoke revoke) e = refl
request-tale number (Release release) e = refl
request-tale number Ask e = refl
request-tale number (Piece piece) e = refl
request-tale number (Wait n client) e = refl
request-tale number Admit e = refl

-- the request for a call is said as it is
new-tale : (sight : Sight) (number : ℕ) (call : Call) → map tale_of (option_to_list (request_of sight number call)) ≡ listed (request_of sight number call)
new-tale sight number call = by (is_change call) (want_of sight.table call)
  where
    by : (b : Bool) (want : Option Want) → map tale_of (option_to_list (if b then Some (Change number call) else option_map (acquire_of number) want)) ≡ listed (if b then Some (Change number call) else option_map (acquire_of number) want)
    by true want = refl
    by false None = refl
    by false (Some want) = refl

-- the request that is unanswered
old-tale : (v : ClientValue) → IsClient v → map tale_of (option_to_list v.request) ≡ listed v.request
old-tale v is = by v.request is.request
  where
    by : (o : Option Message) → IfSome o (IsRequestOf v.calls) → map tale_of (option_to_list o) ≡ listed o
    by None request = refl
    by (Some message) request = ap (λ tale. tale ∷ []) (request-tale v.calls message request.numbered)

-- a request goes out where none is unanswered
asking-tales : (old : Option Message) (request : Option Message) → map tale_of (option_to_list request) ≡ listed request → map tale_of (asking_in old request) ≡ asking old request
asking-tales None request e = e
asking-tales (Some outstanding) request e = refl

-- what is said of a call that is tried
trying-tales : (v : ClientValue) (call : Call) (next : Next) → map tale_of (trying_in v call next) ≡ trying (sight_of v.memory.known) (state_of v) call next
trying-tales v call Answer = refl
trying-tales v call (LastClose ino) = refl
trying-tales v call Waits = refl
trying-tales v call (Flushes ino) = refl
trying-tales v call Asks = asking-tales v.request (request_of (sight_of v.memory.known) v.calls call) (new-tale (sight_of v.memory.known) v.calls call)

-- a call is tried where it has to be
trying-if-tales : (try : Bool) (v : ClientValue) (o : Option Call) → map tale_of (trying_if_in try v o) ≡ trying_if try (sight_of v.memory.known) (state_of v) o
trying-if-tales false v o = refl
trying-if-tales true v None = refl
trying-if-tales true v (Some call) =
    trying-tales v call (next_known v.memory.known call) ∙ ap (trying (sight_of v.memory.known) (state_of v) call) (goes v.memory.known v.memory.remembered call)

-- a client that isn't admitted keeps its flushes back
kept-back : (message : Message) → is_said (tale_of message) ≡ not (is_kept_back message)
kept-back (Acquire n want) = refl
kept-back (Grant n items) = refl
kept-back (Refuse n free needed) = refl
kept-back (Change n call) = refl
kept-back (Done n reply) = refl
kept-back (Flush flush) = refl
kept-back (Flushed n) = refl
kept-back (Revoke revoke) = refl
kept-back (Release release) = refl
kept-back Ask = refl
kept-back (Piece piece) = refl
kept-back (Wait n client) = refl
kept-back Admit = refl

-- of a list what is no flush is said
said-tales : (messages : List Message) → map tale_of (filter (λ message. not (is_kept_back message)) messages) ≡ filter is_said (map tale_of messages)
said-tales [] = refl
said-tales (message ∷ messages) =
    by (not (is_kept_back message)) (said-tales messages)
    ∙ ap (λ b. if b then tale_of message ∷ filter is_said (map tale_of messages) else filter is_said (map tale_of messages)) (sym (kept-back message))
  where
    rest : List Message
    rest = filter (λ message. not (is_kept_back message)) messages

    by : (b : Bool) → map tale_of rest ≡ filter is_said (map tale_of messages)
        → map tale_of (if b then message ∷ rest else rest) ≡ (if b then tale_of message ∷ filter is_said (map tale_of messages) else filter is_said (map tale_of messages))
    by true e = ap (λ xs. tale_of message ∷ xs) e
    by false e = e

-- what goes out of a step
sendable-tales : (moving : Bool) (messages : List Message) (said : List Tale) → map tale_of messages ≡ said → map tale_of (sendable_in moving messages) ≡ sendable moving said
sendable-tales false messages said e = e
sendable-tales true messages said e = said-tales messages ∙ ap (filter is_said) e

-- the Revokes behind a flush that is done are carried out
behind-tales : (m : Memory) (number : ℕ) → FitsFlush m number → map tale_of (revoking_behind_in m number (flush_numbered m.known number)) ≡ revoking_behind (sight_of m.known) (book_in m) (flush_booked (book_in m) number)
behind-tales m number fits = by (flush_numbered m.known number) refl fits.ready
  where
    shown : flush_booked (book_in m) number ≡ option_map flushing_of (flush_numbered m.known number)
    shown = found-same number m.known.flushes

    by : (o : Option FlushRecord) → flush_numbered m.known number ≡ o → FitsFlushed m.known o
        → map tale_of (revoking_behind_in m number (flush_numbered m.known number)) ≡ revoking_behind (sight_of m.known) (book_in m) (flush_booked (book_in m) number)
    by None e ready =
        ap (λ o. map tale_of (revoking_behind_in m number o)) e ∙ sym (ap (revoking_behind (sight_of m.known) (book_in m)) (shown ∙ ap (option_map flushing_of) e))
    by (Some flush) e ready =
        let same = found-number number m.known.flushes flush e in
        let found : flush_numbered m.known flush.number ≡ Some flush = subst (λ n. flush_numbered m.known n ≡ Some flush) (sym same) e in
        let left : Memory = record { known = after_flushed m.known flush.number; remembered = filter (λ revoke. not (is_behind flush.ino revoke)) m.remembered } in
        ap (λ o. map tale_of (revoking_behind_in m number o)) e
        ∙ ap (λ n. map tale_of (revoking_behind_in m n (Some flush))) (sym same)
        ∙ revoking-all left (sight_of m.known) (filter (is_behind flush.ino) m.remembered) (behind-ready left.known (sight_of m.known) flush.ino m.remembered (ready-flushed m.known flush ready found) ready.flushed_is fits.rising)
        ∙ ap (λ b. revoking_all (sight_of m.known) b (filter (is_behind flush.ino) m.remembered)) (done m.known m.remembered flush found ready.within ready.clear)
        ∙ sym (ap (revoking_behind (sight_of m.known) (book_in m)) (shown ∙ ap (option_map flushing_of) e))

-- what is started or given up as the client hears what comes
hearing-tales : (v : ClientValue) (turn : Turn) → FitsTurn v turn → map tale_of (hearing_in v.memory turn) ≡ hearing (sight_of v.memory.known) (book_in v.memory) turn
hearing-tales v Idles fits = refl
hearing-tales v (Starts call) fits = refl
hearing-tales v (WritesBack fd) fits = back-tales v.memory (file_if_any (opened v.memory.known.table fd))
hearing-tales v (Takes (Acquire number want)) fits = refl
hearing-tales v (Takes (Grant number items)) fits = refl
hearing-tales v (Takes (Refuse number free needed)) fits = refl
hearing-tales v (Takes (Change number call)) fits = refl
hearing-tales v (Takes (Done number reply)) fits = refl
hearing-tales v (Takes (Flush flush)) fits = refl
hearing-tales v (Takes (Flushed number)) fits = behind-tales v.memory number fits
hearing-tales v (Takes (Revoke revoke)) fits = revoking-tales v.memory (sight_of v.memory.known) revoke.ino revoke.items refl
hearing-tales v (Takes (Release release)) fits = refl
hearing-tales v (Takes Ask) fits = refl
hearing-tales v (Takes (Piece piece)) fits = refl
hearing-tales v (Takes (Wait number client)) fits = refl
hearing-tales v (Takes Admit) fits = refl

-- the pieces of a report are said as they are
piece-tales : (pieces : List PieceRecord) → map tale_of (map piece_message pieces) ≡ map as_piece pieces
piece-tales [] = refl
piece-tales (piece ∷ pieces) = ap (λ xs. as_piece piece ∷ xs) (piece-tales pieces)

-- flushes under way, as they are sent
flush-tales : (flushes : List FlushRecord) → map tale_of (map flush_message flushes) ≡ map (λ flush. Sends flush) (map flushing_of flushes)
flush-tales [] = refl
flush-tales (flush ∷ flushes) = ap (λ xs. Sends (flushing_of flush) ∷ xs) (flush-tales flushes)

-- what is reported
report-tales : (v : ClientValue) → map tale_of (map piece_message (pieces_of (reports v.memory.known))) ≡ map as_piece (pieces_of (report (book_in v.memory)))
report-tales v = piece-tales (pieces_of (reports v.memory.known)) ∙ ap (λ held. map as_piece (pieces_of held)) (reports-booked v.memory.known v.memory.remembered)

-- a request that had to wait
waiting-tales : (v : ClientValue) → IsClient v → map tale_of (if v.waits then option_to_list v.request else []) ≡ waiting (state_of v)
waiting-tales v is = by v.waits
  where
    by : (b : Bool) → map tale_of (if b then option_to_list v.request else []) ≡ (if b then listed v.request else [])
    by true = old-tale v is
    by false = refl

-- the messages of a step that is neither Ask nor Admit
plain : (v : ClientValue) (turn : Turn) → FitsTurn v turn
    → map tale_of (sendable_in v.moving (hearing_in v.memory turn ++ trying_if_in (is_try turn) (hears_in v turn) (hears_in v turn).call))
    ≡ sendable v.moving (hearing (sight_of v.memory.known) (book_in v.memory) turn ++ trying_if (is_try turn) (sight_of (hears_in v turn).memory.known) (hears (sight_of v.memory.known) (state_of v) turn) (hears (sight_of v.memory.known) (state_of v) turn).call)
plain v turn fits =
    let h = hears_in v turn in
    sendable-tales v.moving (hearing_in v.memory turn ++ trying_if_in (is_try turn) h h.call) _
    (tales (hearing_in v.memory turn) (trying_if_in (is_try turn) h h.call) _ _
    (hearing-tales v turn fits)
    (trying-if-tales (is_try turn) h h.call ∙ ap (λ c. trying_if (is_try turn) (sight_of h.memory.known) c c.call) (heard v turn fits)))

-- the messages of a step are those that are owed, where what comes fits
pub says-owed : (v : ClientValue) (turn : Turn) → IsClient v → FitsTurn v turn → map tale_of (messages_in v turn) ≡ owed (sight_of v.memory.known) (sight_of (hears_in v turn).memory.known) (state_of v) turn
unfolding messages_in owed
says-owed v Idles is fits = plain v Idles fits
says-owed v (Starts call) is fits = plain v (Starts call) fits
says-owed v (WritesBack fd) is fits = plain v (WritesBack fd) fits
says-owed v (Takes (Acquire number want)) is fits = plain v (Takes (Acquire number want)) fits
says-owed v (Takes (Grant number items)) is fits = plain v (Takes (Grant number items)) fits
says-owed v (Takes (Refuse number free needed)) is fits = plain v (Takes (Refuse number free needed)) fits
says-owed v (Takes (Change number call)) is fits = plain v (Takes (Change number call)) fits
says-owed v (Takes (Done number reply)) is fits = plain v (Takes (Done number reply)) fits
says-owed v (Takes (Flush flush)) is fits = plain v (Takes (Flush flush)) fits
says-owed v (Takes (Flushed number)) is fits = plain v (Takes (Flushed number)) fits
says-owed v (Takes (Revoke revoke)) is fits = plain v (Takes (Revoke revoke)) fits
says-owed v (Takes (Release release)) is fits = plain v (Takes (Release release)) fits
says-owed v (Takes Ask) is fits = tales (map piece_message (pieces_of (reports v.memory.known))) (option_to_list v.request) _ _ (report-tales v) (old-tale v is)
says-owed v (Takes (Piece piece)) is fits = plain v (Takes (Piece piece)) fits
says-owed v (Takes (Wait number client)) is fits = plain v (Takes (Wait number client)) fits
says-owed v (Takes Admit) is fits = tales (map flush_message v.memory.known.flushes) (if v.waits then option_to_list v.request else []) _ _ (flush-tales v.memory.known.flushes) (waiting-tales v is)

-- the reply to a call that is told or tried
replying : (try : Bool) (reply : Option Reply) (v : ClientValue) (o : Option Call) → reply_to_in try reply v o ≡ reply_to try reply (sight_of v.memory.known) (state_of v) o
replying try reply v None = refl
replying try (Some reply) v (Some call) = refl
replying true None v (Some call) = ap (own_reply (sight_of v.memory.known) call) (goes v.memory.known v.memory.remembered call)
replying false None v (Some call) = refl

-- the reply of a step is the law's, where what comes fits
pub replies-owed : (v : ClientValue) (turn : Turn) → FitsTurn v turn → reply_at v turn ≡ reply_in (sight_of v.memory.known) (sight_of (hears_in v turn).memory.known) (state_of v) turn
unfolding reply_at reply_in
replies-owed v turn fits =
    let h = hears_in v turn in
    replying (is_try turn) (told (state_of h) turn) h h.call
    ∙ ap (λ c. reply_after c (sight_of h.memory.known) turn) (heard v turn fits)

-- the messages of a step are those that are owed
pub says-spelled : (v : ClientValue) (turn : Turn) → IsClient v → HasSpelling turn → MayCome v turn → map tale_of (messages_in v turn) ≡ owed (sight_of v.memory.known) (sight_of (hears_in v turn).memory.known) (state_of v) turn
says-spelled v turn is spelled comes = says-owed v turn is (turn-fits v turn is spelled comes)

-- the reply of a step is the law's
pub replies-spelled : (v : ClientValue) (turn : Turn) → IsClient v → HasSpelling turn → MayCome v turn → reply_at v turn ≡ reply_in (sight_of v.memory.known) (sight_of (hears_in v turn).memory.known) (state_of v) turn
replies-spelled v turn is spelled comes = replies-owed v turn (turn-fits v turn is spelled comes)

-- the state, the messages and the answer of a step are the law's
pub keeps-law : (client : ℕ) (v : ClientValue) (turn : Turn) → IsClient v → HasSpelling turn → MayCome v turn
    → KeepsLaw client v (value_after v turn) turn (messages_in v turn) (answer_with (value_after v turn).calls (reply_at v turn)) (own_entry client (value_after v turn).calls (hears_in v turn).call (reply_at v turn))
keeps-law client v turn is spelled comes =
    let fits = turn-fits v turn is spelled comes in
    let state = steps v turn fits (calls-fit v turn is) in
    let replied = replies-owed v turn fits in
    record {
      state = state;
      says = says-owed v turn is fits;
      answers = record {
        answer_is = λ i. answer_with (state i).calls (replied i);
        entry_is = λ i. own_entry client (state i).calls (heard v turn fits i).call (replied i);
      };
    }
