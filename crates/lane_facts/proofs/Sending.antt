-- A session that fits a lane sends what a step has to send there.
use Rattle.std.proofs.Common.{◌≡◌, ◌++◌, ◌+◌, ◌-◌, ◌≤◌, ◌<◌, ◌⊎◌, inl, inr, ℕ, zero, suc, Bool, true, if◌then◌else◌, Option, Some, None, List, [], ◌∷◌, length, take, drop, map, min, refl, sym, ap, ◌∙◌, arith, nat_lt, length-append}
use Rattle.std.proofs.lemmas.Bool.{cases_lt, lt-ltb, le-ltb}
use Rattle.std.proofs.lemmas.List.{drop-append-le, drop-map, length-drop, length-map, length-take, map-append, take-map}
use Rattle.std.proofs.lemmas.Option.{slice_get_past}
use Rattle.std.specs.List.{slice_get}
use Rattle.std.specs.Option.{option_to_list}
use Rattle.cal_base.specs.declared.identity.ServerId.{ServerId}
use Rattle.message.specs.Spelling.{message_bytes}
use Rattle.message.specs.declared.message.Message.{Message}
use Rattle.session.specs.Session.{SessionState, after_send, bare_ack_of, is_of_session, newly_acknowledged, numbered as numbered_by, oldest_packet, opened_packets, packet_of, queued, taken_after, tick_packet}
use Rattle.session.specs.declared.packet.Packet.{Packet}
use Rattle.cluster_law.specs.Delivery.{as_packet, fresh, oldest, oldest_of, packet_on}
use Rattle.cluster_law.specs.Ends.{SessionFits, hearer, hearing, making, speaker}
use Rattle.cluster_law.specs.Lanes.{Lane, Way, Up, Down, back}
use Rattle.cluster_law.specs.Lists.{numbered}
use Rattle.cluster_law.specs.Noted.{Setting, Noted}
use Rattle.cluster_law.specs.Sessions.{acked_in, counted, heard_in, made_in, made_now, sent_in, taken_in}
use Rattle.cluster_law.specs.Trace.{server_of}
use Rattle.lane_facts.specs.Speaking.{opened_by, packets_with}
use Rattle.lane_facts.proofs.Hearing.{of-session}
use Rattle.lane_facts.proofs.Numbering.{alike, from-numbering, numbering, numbering-both, packed-bodies, with-numbering}
use Rattle.lane_facts.proofs.Waiting.{drop-twice, let-out}

-- a lane's packet, by the nodes of its two ends
packet-ends : (way : Way) (server : ServerId) (lane : Lane) (seq ack : ℕ) (body : List ℕ) → packet_on way server lane seq ack body ≡ record { from = speaker way lane.client server; to = hearer way lane.client server; view = record { 0 = lane.view }; seq = seq; ack = ack; body = body }
packet-ends Up server lane seq ack body = refl
packet-ends Down server lane seq ack body = refl

-- a step's packet of a lane is the session's, with the count of what is taken after the step
pub as-sessions : (w : Setting) (lane : Lane) (s : Noted) (earlier : List Noted) (session : SessionState) → server_of lane.view (s ∷ earlier) ≡ server_of lane.view earlier → SessionFits w earlier lane session
    → (n : ℕ) (body : List ℕ) → as_packet w lane s earlier n body ≡ packet_of session (counted session.taken (heard_in w (back lane) earlier s)) n body
unfolding taken_in
as-sessions w lane s earlier session same fits n body =
    let from = ap (speaker lane.way lane.client) same ∙ sym fits.me in
    let to = ap (hearer lane.way lane.client) same ∙ sym fits.peer in
    let view = sym fits.view in
    let ack = ap (λ t. counted t (heard_in w (back lane) earlier s)) (sym fits.taken) in
    packet-ends lane.way (server_of lane.view (s ∷ earlier)) lane n (taken_in w (back lane) (s ∷ earlier)) body
    ∙ (λ i. record { from = from i; to = to i; view = record { 0 = view i }; seq = n; ack = ack i; body = body })

-- a session that has heard makes the same packets, with its count of what is taken
heard-packet : (s : SessionState) (o : Option Packet) (n : ℕ) (body : List ℕ) → packet_of s (counted s.taken o) n body ≡ packet_of (hearing s o) (hearing s o).taken n body
heard-packet s None n body = refl
heard-packet s (Some p) n body = refl

-- a bare acknowledgement is the one of the session that has heard
pub bare-sent : (w : Setting) (lane : Lane) (s : Noted) (earlier : List Noted) (session : SessionState) → server_of lane.view (s ∷ earlier) ≡ server_of lane.view earlier → SessionFits w earlier lane session
    → as_packet w lane s earlier 0 [] ≡ bare_ack_of (hearing session (heard_in w (back lane) earlier s))
bare-sent w lane s earlier session same fits = as-sessions w lane s earlier session same fits 0 [] ∙ heard-packet session (heard_in w (back lane) earlier s) 0 []

-- the oldest message is the first of those that are left
first-left : (f : ℕ → List ℕ → Packet) (s : SessionState) (a : ℕ) (ms : List Message) → ((n : ℕ) (body : List ℕ) → f n body ≡ packet_of s s.taken n body) → oldest_of f (s.acknowledged + 1) (slice_get ms a) ≡ option_to_list (oldest_packet s (map message_bytes (drop a ms)))
first-left f s zero [] is = refl
first-left f s (suc a) [] is = refl
first-left f s zero (m ∷ ms) is = ap (λ p. p ∷ []) (is (s.acknowledged + 1) (message_bytes m))
first-left f s (suc a) (m ∷ ms) is = first-left f s a ms is

-- where all is acknowledged there is no such message
is-left : (f : ℕ → List ℕ → Packet) (a number : ℕ) (ms : List Message) → (if nat_lt a (min (length ms) (a + 8)) then oldest_of f number (slice_get ms a) else []) ≡ oldest_of f number (slice_get ms a)
is-left f a number ms = one (cases_lt a (length ms))
  where
    one : (a < length ms) ⊎ (length ms ≤ a) → (if nat_lt a (min (length ms) (a + 8)) then oldest_of f number (slice_get ms a) else []) ≡ oldest_of f number (slice_get ms a)
    one (inl low) = ap (λ (b : Bool). if b then oldest_of f number (slice_get ms a) else []) (lt-ltb a (min (length ms) (a + 8)) (omega arith))
    one (inr high) = ap (λ (b : Bool). if b then oldest_of f number (slice_get ms a) else []) (le-ltb a (min (length ms) (a + 8)) (omega arith)) ∙ ap (oldest_of f number) (sym (slice_get_past ms a high))

-- messages are numbered from 1
at-number : (ms : List Message) (a : ℕ) → numbered ms (a + 1) ≡ slice_get ms a
at-number ms a = ap (numbered ms) (let e : a + 1 ≡ suc a = omega arith in e)

-- the oldest message of a lane that isn't acknowledged is what the session sends at a tick
pub oldest-sent : (w : Setting) (lane : Lane) (s : Noted) (earlier : List Noted) (session : SessionState) → server_of lane.view (s ∷ earlier) ≡ server_of lane.view earlier → SessionFits w earlier lane session
    → heard_in w (back lane) earlier s ≡ None → oldest w lane s earlier ≡ option_to_list (tick_packet session)
unfolding sent_in
oldest-sent w lane s earlier session same fits nothing =
    let f = as_packet w lane s earlier in
    let a = acked_in w lane earlier in
    let made = made_in lane earlier in
    let is : (n : ℕ) (body : List ℕ) → f n body ≡ packet_of session session.taken n body = λ n body. as-sessions w lane s earlier session same fits n body ∙ ap (λ o. packet_of session (counted session.taken o) n body) nothing in
    ap (λ o. if nat_lt a (min (length made) (a + 8)) then oldest_of f (a + 1) o else []) (at-number made a)
    ∙ is-left f a (a + 1) made
    ∙ ap (λ n. oldest_of f (n + 1) (slice_get made a)) (sym fits.acknowledged)
    ∙ first-left f session a made is
    ∙ ap (λ bodies. option_to_list (oldest_packet session bodies)) (sym fits.bodies)

-- what a heard packet newly acknowledges
abbrev newly : SessionState → Option Packet → ℕ
newly s None = 0
newly s (Some p) = newly_acknowledged s p

-- that is at most eight, and no more than wait
newly-few : (s : SessionState) (o : Option Packet) → newly s o ≤ min 8 (length s.bodies)
newly-few s None = omega arith
newly-few s (Some p) = let e = length-take 8 s.bodies in omega arith

-- what a session counts as acknowledged, and the bodies that wait, after it has heard
heard-acks : (s : SessionState) (o : Option Packet) → (hearing s o).acknowledged ≡ s.acknowledged + newly s o
heard-acks s None = omega arith
heard-acks s (Some p) = refl

heard-bodies : (s : SessionState) (o : Option Packet) → (hearing s o).bodies ≡ drop (newly s o) s.bodies
heard-bodies s None = refl
heard-bodies s (Some p) = refl

-- bodies that are handed to a session alter nothing of what it counts as acknowledged
made-acks : (s : SessionState) (bodies : List (List ℕ)) → (making s bodies).acknowledged ≡ s.acknowledged
made-acks s [] = refl
made-acks s (body ∷ bodies) = made-acks (after_send s body) bodies

-- what a heard packet lets out is numbered on from what was sent
opened-numbering : (f : ℕ → List ℕ → Packet) (s : SessionState) (o : Option Packet) → ((n : ℕ) (body : List ℕ) → f n body ≡ packet_of s (counted s.taken o) n body) → ((p : Packet) → o ≡ Some p → is_of_session s p ≡ true)
    → opened_by s o ≡ numbering f (numbered_by s) (take (newly s o) (queued s))
opened-numbering f s None is of = refl
opened-numbering f s (Some p) is of =
    ap (λ (b : Bool). if b then opened_packets s p else []) (of p refl)
    ∙ from-numbering f s (taken_after s p) (numbered_by s) (take (newly_acknowledged s p) (queued s)) is

-- a session lets out its queue and then the new bodies, numbered on from what was sent
session-numbering : (f : ℕ → List ℕ → Packet) (s : SessionState) (o : Option Packet) (made : List (List ℕ)) → ((n : ℕ) (body : List ℕ) → f n body ≡ packet_of s (counted s.taken o) n body) → ((p : Packet) → o ≡ Some p → is_of_session s p ≡ true)
    → numbering f (numbered_by s) (take (newly s o) (queued s) ++ take (8 - (length s.bodies - newly s o)) made) ≡ opened_by s o ++ packets_with (hearing s o) made
session-numbering f s o made is of =
    let heard = hearing s o in
    let front = take (newly s o) (queued s) in
    let few = newly-few s o in
    let acks = heard-acks s o in
    let left : length heard.bodies ≡ length s.bodies - newly s o = ap length (heard-bodies s o) ∙ length-drop (newly s o) s.bodies in
    let sent = length-take 8 s.bodies in
    let queue = length-drop 8 s.bodies in
    let out = length-take (newly s o) (queued s) in
    let from : 0 < 8 - length heard.bodies → numbered_by s + length front ≡ heard.acknowledged + length heard.bodies = λ room. omega arith in
    numbering-both f (numbered_by s) front (take (8 - (length s.bodies - newly s o)) made)
    ∙ ap (λ ps. ps ++ numbering f (numbered_by s + length front) (take (8 - (length s.bodies - newly s o)) made)) (sym (opened-numbering f s o is of))
    ∙ ap (λ ps. opened_by s o ++ ps)
    (ap (λ n. numbering f (numbered_by s + length front) (take (8 - n) made)) (sym left)
    ∙ alike f (numbered_by s + length front) (heard.acknowledged + length heard.bodies) (8 - length heard.bodies) made from
    ∙ sym (with-numbering f heard made (λ n body. is n body ∙ heard-packet s o n body)))

-- of the messages, those that a step lets out are those that the session does
messages-out : (f : Message → List ℕ) (a sent next : ℕ) (made now : List Message) (bodies : List (List ℕ)) (acked : ℕ) → bodies ≡ map f (drop a made) → a ≤ length made → acked ≤ min 8 (length bodies)
    → sent ≡ min (length made) (a + 8) → next ≡ min (length (made ++ now)) (a + acked + 8)
    → map f (take (next - sent) (drop sent (made ++ now))) ≡ take acked (drop 8 bodies) ++ take (8 - (length bodies - acked)) (map f now)
messages-out f a sent next made now bodies acked fits low few is on =
    let waits : length bodies ≡ length made - a = ap length fits ∙ length-map (drop a made) f ∙ length-drop a made in
    let more = length-append made now in
    let new = length-map now f in
    let count : next - sent ≡ min (length bodies + length (map f now)) (acked + 8) - min (length bodies) 8 = omega arith in
    let from : sent ≡ a + min (length bodies) 8 = omega arith in
    let all : map f (drop a (made ++ now)) ≡ bodies ++ map f now = ap (map f) (drop-append-le a made now low) ∙ map-append f (drop a made) now ∙ ap (λ xs. xs ++ map f now) (sym fits) in
    ap (λ n. map f (take (next - sent) (drop n (made ++ now)))) from
    ∙ ap (λ xs. map f (take (next - sent) xs)) (sym (drop-twice a (min (length bodies) 8) (made ++ now)))
    ∙ sym (take-map f (next - sent) (drop (min (length bodies) 8) (drop a (made ++ now))))
    ∙ ap (take (next - sent)) (sym (drop-map f (min (length bodies) 8) (drop a (made ++ now))) ∙ ap (drop (min (length bodies) 8)) all)
    ∙ ap (λ n. take n (drop (min (length bodies) 8) (bodies ++ map f now))) count
    ∙ let-out acked bodies (map f now) few

-- the messages that a step sends for the first time on a lane are those that the session lets out
pub fresh-sent : (w : Setting) (lane : Lane) (s : Noted) (earlier : List Noted) (session : SessionState) → server_of lane.view (s ∷ earlier) ≡ server_of lane.view earlier → acked_in w lane earlier ≤ length (made_in lane earlier)
    → SessionFits w earlier lane session → SessionFits w (s ∷ earlier) lane (making (hearing session (heard_in w (back lane) earlier s)) (map message_bytes (made_now lane s)))
    → fresh w lane s earlier ≡ opened_by session (heard_in w (back lane) earlier s) ++ packets_with (hearing session (heard_in w (back lane) earlier s)) (map message_bytes (made_now lane s))
unfolding sent_in made_in
fresh-sent w lane s earlier session same low fits next =
    let f = as_packet w lane s earlier in
    let o = heard_in w (back lane) earlier s in
    let made = made_in lane earlier in
    let now = made_now lane s in
    let a = acked_in w lane earlier in
    let few = newly-few session o in
    let acks : acked_in w lane (s ∷ earlier) ≡ a + newly session o = sym next.acknowledged ∙ made-acks (hearing session o) (map message_bytes now) ∙ heard-acks session o ∙ ap (λ n. n + newly session o) fits.acknowledged in
    let waits : length session.bodies ≡ length made - a = ap length fits.bodies ∙ length-map (drop a made) message_bytes ∙ length-drop a made in
    let is = fits.acknowledged in
    let out = length-take 8 session.bodies in
    let from : sent_in w lane earlier ≡ numbered_by session = omega arith in
    let on : sent_in w lane (s ∷ earlier) ≡ min (length (made ++ now)) (a + newly session o + 8) = ap (λ n. min (length (made ++ now)) (n + 8)) acks in
    packed-bodies f (sent_in w lane earlier) (take (sent_in w lane (s ∷ earlier) - sent_in w lane earlier) (drop (sent_in w lane earlier) (made ++ now)))
    ∙ ap (numbering f (sent_in w lane earlier)) (messages-out message_bytes a (sent_in w lane earlier) (sent_in w lane (s ∷ earlier)) made now session.bodies (newly session o) fits.bodies low few refl on)
    ∙ ap (λ n. numbering f n (take (newly session o) (queued session) ++ take (8 - (length session.bodies - newly session o)) (map message_bytes now))) from
    ∙ session-numbering f session o (map message_bytes now) (as-sessions w lane s earlier session same fits) (λ p e. of-session w lane s earlier session p fits e)
