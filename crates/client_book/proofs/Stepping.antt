-- A client at its own values steps as the law says.
use Rattle.std.proofs.Common.{◌≡◌, Bool, true, false, List, Option, Some, None, ap, refl, sym, ◌∙◌}
use Rattle.cal_base.specs.declared.identity.Ino.{Ino}
use Rattle.client_cache.specs.AfterAnswer.{after_answer}
use Rattle.client_cache.specs.Changes.{new_flush}
use Rattle.client_cache.specs.Known.{Known}
use Rattle.client_cache.specs.Next.{next_of as next_known}
use Rattle.client_cache.specs.declared.next_step.Next.{Next}
use Rattle.client_cache.specs.declared.next_step.Next.TheVariants.{Answer, LastClose, Waits, Flushes, Asks}
use Rattle.message.specs.declared.message.Message.TheVariants.{Acquire, Grant, Refuse, Change, Done, Flush, Flushed, Revoke, Release, Ask, Piece, Wait, Admit}
use Rattle.token_kind.specs.Hold.{lesser_of}
use Rattle.token_kind.specs.declared.«class».Class.TheVariants.{Open}
use Rattle.token_kind.specs.declared.hold.Hold.{Hold}
use Rattle.token_kind.specs.declared.hold.Hold.TheVariants.{None as Nothing, Read, Write}
use Rattle.token_kind.specs.declared.revoke.Revoke.{Revoke as Revoked}
use Rattle.tree_law.specs.Descriptors.{opened}
use Rattle.tree_law.specs.declared.call.Call.{Call}
use Rattle.tree_law.specs.declared.reply.Reply.{Reply}
use Rattle.cluster_law.specs.Book.{Book, with_answer, with_hold, with_marks, without_open}
use Rattle.cluster_law.specs.ClientState.{ClientState, Turn, Idles, Starts, WritesBack, Takes, client_after, goes_on_with, hears, is_about, is_try, state_after, told, tried, without_request}
use Rattle.cluster_law.specs.Sight.{altered, closed, file_if_any}
use Rattle.client_book.specs.Booked.{book_of, sight_of}
use Rattle.client_book.specs.Client.{ClientValue, FitsCall, FitsCalls, FitsTurn, goes_on_in, hears_in, lower_open, state_of, tried_in, value_after, with_known, without_request_in}
use Rattle.client_book.specs.Memory.{items_in}
use Rattle.client_book.proofs.Answering.{answers}
use Rattle.client_book.proofs.Going.{goes}
use Rattle.client_book.proofs.Hearing.{flushes-end, items-taken, revokes, writes-back}
use Rattle.client_book.proofs.Stating.{lower-to, start}

-- the state with another book
abbrev with_book_of : ClientState → Book → ClientState
with_book_of c book = record c { book = book }

dropped : (b : Bool) (v : ClientValue) (known : Known) → state_of (with_known (without_request_in b v) known) ≡ with_book_of (without_request b (state_of v)) (book_of known v.memory.remembered)
dropped true v known = refl
dropped false v known = refl

pub heard : (v : ClientValue) (turn : Turn) → FitsTurn v turn → state_of (hears_in v turn) ≡ hears (sight_of v.memory.known) (state_of v) turn
unfolding hears_in hears
heard v Idles fits = refl
heard v (Starts call) fits = refl
heard v (WritesBack fd) fits = ap (with_book_of (state_of v)) (writes-back v.memory (file_if_any (opened v.memory.known.table fd)) fits)
heard v (Takes (Acquire number want)) fits = refl
heard v (Takes (Grant number items)) fits =
    dropped (is_about false number (state_of v) v.call) v (items_in v.memory.known items)
    ∙ ap (with_book_of (without_request (is_about false number (state_of v) v.call) (state_of v))) (items-taken v.memory.known v.memory.remembered items fits)
heard v (Takes (Refuse number free needed)) fits = refl
heard v (Takes (Change number call)) fits = refl
heard v (Takes (Done number reply)) fits = refl
heard v (Takes (Flush flush)) fits = refl
heard v (Takes (Flushed number)) fits = ap (with_book_of (state_of v)) (flushes-end v.memory number fits.ready fits.rising)
heard v (Takes (Revoke revoke)) fits = ap (with_book_of (state_of v)) (revokes v.memory (sight_of v.memory.known) revoke.ino revoke.items fits.within fits.rising refl fits.clear)
heard v (Takes (Release release)) fits = refl
heard v (Takes Ask) fits = refl
heard v (Takes (Piece piece)) fits = refl
heard v (Takes (Wait number client)) fits = refl
heard v (Takes Admit) fits = refl

lesser-none : (hold : Hold) → lesser_of hold Nothing ≡ Nothing
lesser-none Nothing = refl
lesser-none Read = refl
lesser-none Write = refl

-- an answered call, with the Open that goes with it
answered-book : (known : Known) (remembered : List Revoked) (call : Call) → FitsCall known call → book_of (lower_open (after_answer known call) (closed (sight_of known) call)) remembered ≡ with_answer (sight_of known) (book_of known remembered) call
answered-book known remembered call fits = by (closed (sight_of known) call) refl
  where
    marked : book_of (after_answer known call) remembered ≡ with_marks (sight_of known) (book_of known remembered) call (altered (sight_of known) call)
    marked = answers known remembered call fits.alters

    by : (o : Option Ino) → closed (sight_of known) call ≡ o → book_of (lower_open (after_answer known call) (closed (sight_of known) call)) remembered ≡ with_answer (sight_of known) (book_of known remembered) call
    by None e =
        ap (λ o. book_of (lower_open (after_answer known call) o) remembered) e
        ∙ marked
        ∙ sym (ap (λ o. without_open (with_marks (sight_of known) (book_of known remembered) call (altered (sight_of known) call)) o) e)
    by (Some ino) e =
        ap (λ o. book_of (lower_open (after_answer known call) o) remembered) e
        ∙ lower-to (after_answer known call) remembered ino Open Nothing (fits.closes ino e) (record {}) (lesser-none _)
        ∙ ap (λ (b : Book). record b { holds = with_hold b.holds ino Open Nothing }) marked
        ∙ sym (ap (λ o. without_open (with_marks (sight_of known) (book_of known remembered) call (altered (sight_of known) call)) o) e)

-- a tried call
trying : (v : ClientValue) (call : Call) (next : Next) → next_known v.memory.known call ≡ next → FitsCall v.memory.known call → state_of (tried_in v call next) ≡ tried (sight_of v.memory.known) (state_of v) call next
trying v call Answer e fits = ap (λ b. with_book_of (state_of (record v { call = None; request = None; waits = false })) b) (answered-book v.memory.known v.memory.remembered call fits)
trying v call (LastClose ino) e fits = ap (λ b. with_book_of (state_of (record v { call = None; request = None; waits = false })) b) (answered-book v.memory.known v.memory.remembered call fits)
trying v call Waits e fits = refl
trying v call (Flushes ino) e fits = ap (with_book_of (state_of v)) (start v.memory.known v.memory.remembered (new_flush v.memory.known ino Read Read) (fits.flushes ino e) refl)
trying v call Asks e fits = refl

going : (try : Bool) (reply : Option Reply) (v : ClientValue) (o : Option Call) → FitsCalls v.memory.known o → state_of (goes_on_in try reply v o) ≡ goes_on_with try reply (sight_of v.memory.known) (state_of v) o
going try reply v None fits = refl
going try (Some reply) v (Some call) fits = refl
going true None v (Some call) fits =
    trying v call (next_known v.memory.known call) refl fits
    ∙ ap (tried (sight_of v.memory.known) (state_of v) call) (goes v.memory.known v.memory.remembered call)
going false None v (Some call) fits = refl

pub steps : (v : ClientValue) (turn : Turn) → FitsTurn v turn → FitsCalls (hears_in v turn).memory.known (hears_in v turn).call
    → state_of (value_after v turn) ≡ client_after (sight_of v.memory.known) (sight_of (hears_in v turn).memory.known) (state_of v) turn
unfolding value_after client_after
steps v turn fits calls =
    let h = hears_in v turn in
    going (is_try turn) (told (state_of h) turn) h h.call calls
    ∙ ap (λ c. state_after c (sight_of h.memory.known) turn) (heard v turn fits)
