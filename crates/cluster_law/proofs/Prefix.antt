-- What is taken of a lane was sent in it.
use Rattle.std.proofs.Common.{◌≡◌, ◌++◌, ◌+◌, ◌-◌, ◌≤◌, ℕ, Bool, true, false, IsTrue, Option, Some, None, List, [], ◌∷◌, if◌then◌else◌, length, take, refl, sym, ◌∙◌, arith, subst, nat_eq}
use Rattle.std.proofs.Math.Nat.{min-le_left}
use Rattle.std.proofs.lemmas.Bool.{leb-true, eqb-true}
use Rattle.std.proofs.lemmas.List.{length-take}
use Rattle.cal_base.specs.declared.identity.ServerId.{ServerId}
use Rattle.message.specs.Spelling.{message_bytes}
use Rattle.message.specs.declared.message.Message.{Message}
use Rattle.session.specs.declared.packet.Packet.{Packet}
use Rattle.cluster_law.specs.Delivery.{KeepsDelivery, Communicates, speaks, sent_on, again, fresh, bare, packed, as_packet, let_out, packet_on}
use Rattle.cluster_law.specs.Lists.{Each}
use Rattle.cluster_law.specs.Lanes.{Lane, Way, Up, Down, back}
use Rattle.cluster_law.specs.Noted.{Setting, Noted, halts}
use Rattle.cluster_law.specs.Sessions.{made_in, acked_in, sent_in, taken_in, counted, heard, heard_in, goes_on, lane_of}
use Rattle.cluster_law.specs.Trace.{packets, server_of}
use Rattle.cluster_law.proofs.Counts.{sent-grows}
use Rattle.cluster_law.proofs.Packets.{each-append, each-map, each-filtered, each-unfiltered, each-one, both-true, one-lane-of, given-sent, only-if-some}

-- a packet of the lane has a number up to this
abbrev pub Within : Lane → ℕ → Packet → Type 0
Within lane n p = IsTrue (goes_on lane p) → p.seq ≤ n

packed-within : (f : ℕ → List ℕ → Packet) → ((n : ℕ) (body : List ℕ) → (f n body).seq ≡ n) → (from top : ℕ) (ms : List Message) → from + length ms ≤ top → Each (λ p. p.seq ≤ top) (packed f from ms)
packed-within f is from top [] h = tt
packed-within f is from top (m ∷ ms) h = (let e = is (from + 1) (message_bytes m) in omega arith, packed-within f is (from + 1) top ms (omega arith))

pub packet-number : (way : Way) (server : ServerId) (lane : Lane) (seq ack : ℕ) (body : List ℕ) → (packet_on way server lane seq ack body).seq ≡ seq
packet-number Up server lane seq ack body = refl
packet-number Down server lane seq ack body = refl

let-out-short : {X : Type 0} (from top : ℕ) (xs : List X) → from ≤ top → from + length (take (top - from) xs) ≤ top
let-out-short from top xs h = let e = length-take (top - from) xs in let q = min-le_left (top - from) (length xs) in omega arith

-- what a lane's packets of a step have as numbers
step-within : (w : Setting) (lane : Lane) (s : Noted) (earlier : List Noted) → IsTrue (speaks earlier s lane) → halts s ≡ false → KeepsDelivery w s earlier → Each (λ p. p.seq ≤ sent_in w lane (s ∷ earlier)) (sent_on lane s)
step-within w lane s earlier h runs k =
    let P : Packet → Type 0 = λ p. p.seq ≤ sent_in w lane (s ∷ earlier) in
    let grows = sent-grows w lane s earlier in
    let old : Each P (again w lane s earlier) = each-filtered P _ (sent_on lane s) (λ p e. let q = leb-true p.seq (sent_in w lane earlier) (both-true _ _ e).1 in omega arith) in
    let new : Each P (fresh w lane s earlier) = packed-within (as_packet w lane s earlier) (λ n body. packet-number lane.way _ lane n _ body) (sent_in w lane earlier) (sent_in w lane (s ∷ earlier)) (let_out w lane s earlier) (let-out-short _ _ _ grows) in
    let last : Each P (bare w lane s earlier) = each-one P _ _ (let e = packet-number lane.way (server_of lane.view (s ∷ earlier)) lane 0 (taken_in w (back lane) (s ∷ earlier)) [] in omega arith) in
    subst (λ ps. Each P ps) (sym (k.sent lane h runs)) (each-append P (again w lane s earlier ++ fresh w lane s earlier) (bare w lane s earlier) (each-append P (again w lane s earlier) (fresh w lane s earlier) old new) last)

-- all packets of a step, where its node speaks on the lane, and where it doesn't
spoken : (w : Setting) (lane : Lane) (s : Noted) (earlier : List Noted) (h t : Bool) → halts s ≡ h → speaks earlier s lane ≡ t → KeepsDelivery w s earlier → Each (Within lane (sent_in w lane (s ∷ earlier))) s.step.sent
spoken w lane s earlier true t e f k = subst (λ ps. Each (Within lane (sent_in w lane (s ∷ earlier))) ps) (sym (k.halted e)) tt
spoken w lane s earlier false true e f k = each-unfiltered _ (goes_on lane) s.step.sent (step-within w lane s earlier f e k)
spoken w lane s earlier false false e f k = each-map _ _ s.step.sent (λ p o on. let same : o.lane ≡ lane = one-lane-of (lane_of p) o.lane lane o.goes on in let says : speaks earlier s lane ≡ true = subst (λ l. speaks earlier s l ≡ true) same o.speaks_there in let c : true ≡ false = sym says ∙ f in cc) k.no_other

-- each packet of a lane that was sent has the number of a message that was let out
pub sent-within : (w : Setting) (lane : Lane) (trace : List Noted) → Communicates w trace → Each (Within lane (sent_in w lane trace)) (packets trace)
unfolding packets
sent-within w lane [] k = tt
sent-within w lane (s ∷ earlier) k = each-append _ (packets earlier) s.step.sent
    (each-map _ _ (packets earlier) (λ p h on. let a = h on in let g = sent-grows w lane s earlier in omega arith) (sent-within w lane earlier k.0))
    (spoken w lane s earlier (halts s) (speaks earlier s lane) refl refl k.1)

heard-within : (w : Setting) (lane : Lane) (s : Noted) (earlier : List Noted) (p : Packet) → Communicates w earlier → heard_in w lane earlier s ≡ Some p → p.seq ≤ sent_in w lane earlier
unfolding heard_in heard
heard-within w lane s earlier p k h =
    let a = only-if-some (goes_on lane) _ p h in
    let b = only-if-some _ _ p a.0 in
    given-sent (Within lane (sent_in w lane earlier)) (packets earlier) s.step.event p (sent-within w lane earlier k) b.0 a.1

counted-within : (n top : ℕ) (o : Option Packet) → n ≤ top → ((p : Packet) → o ≡ Some p → p.seq ≤ top) → counted n o ≤ top
counted-within n top None h f = h
counted-within n top (Some p) h f = next (nat_eq p.seq (n + 1)) refl
  where
    next : (t : Bool) → nat_eq p.seq (n + 1) ≡ t → (if t then n + 1 else n) ≤ top
    next true e = let q = eqb-true p.seq (n + 1) e in let r = f p refl in omega arith
    next false e = h

pub taken-within : (w : Setting) (lane : Lane) (trace : List Noted) → Communicates w trace → taken_in w lane trace ≤ sent_in w lane trace
unfolding taken_in
taken-within w lane [] k = omega arith
taken-within w lane (s ∷ earlier) k =
    let g = sent-grows w lane s earlier in
    let m = counted-within (taken_in w lane earlier) (sent_in w lane earlier) (heard_in w lane earlier s) (taken-within w lane earlier k.0) (λ p e. heard-within w lane s earlier p k.0 e) in
    omega arith

-- so it is a front part of what was made
pub taken-made : (w : Setting) (lane : Lane) (trace : List Noted) → Communicates w trace → taken_in w lane trace ≤ length (made_in lane trace)
unfolding sent_in
taken-made w lane trace k = let a = taken-within w lane trace k in let b = min-le_left (length (made_in lane trace)) (acked_in w lane trace + 8) in omega arith
