-- What is acknowledged of a lane was taken of it.
use Rattle.std.proofs.Common.{◌≡◌, ◌++◌, ◌+◌, ◌≤◌, ℕ, Bool, true, false, IsTrue, Option, Some, None, List, [], ◌∷◌, length, refl, sym, ◌∙◌, arith, subst, nat_lt}
use Rattle.std.proofs.Math.Nat.{max-le, min-le_left}
use Rattle.cal_base.specs.declared.identity.ServerId.{ServerId}
use Rattle.message.specs.declared.message.Message.{Message}
use Rattle.session.specs.declared.packet.Packet.{Packet}
use Rattle.cluster_law.specs.Delivery.{KeepsDelivery, KeepsResend, Communicates, speaks, sent_on, again, fresh, bare, packed, as_packet, let_out, packet_on, oldest, oldest_of, is_left_out, is_tick}
use Rattle.cluster_law.specs.Lists.{Each, numbered}
use Rattle.cluster_law.specs.Lanes.{Lane, Way, Up, Down, back}
use Rattle.cluster_law.specs.Noted.{Setting, Noted, halts}
use Rattle.cluster_law.specs.Sessions.{made_in, acked_in, acknowledged, sent_in, sent_with, taken_in, heard_in, heard, goes_on, lane_of}
use Rattle.cluster_law.specs.Trace.{packets, server_of}
use Rattle.cluster_law.proofs.Counts.{taken-grows}
use Rattle.cluster_law.proofs.Packets.{each-append, each-map, each-unfiltered, each-one, each-if, one-lane-of, only-if-some, given-sent}

packet-ack : (way : Way) (server : ServerId) (lane : Lane) (seq ack : ℕ) (body : List ℕ) → (packet_on way server lane seq ack body).ack ≡ ack
packet-ack Up server lane seq ack body = refl
packet-ack Down server lane seq ack body = refl

packed-acks : (f : ℕ → List ℕ → Packet) (top : ℕ) → ((n : ℕ) (body : List ℕ) → (f n body).ack ≤ top) → (from : ℕ) (ms : List Message) → Each (λ p. p.ack ≤ top) (packed f from ms)
packed-acks f top is from [] = tt
packed-acks f top is from (m ∷ ms) = (is (from + 1) _, packed-acks f top is (from + 1) ms)

oldest-acks : (f : ℕ → List ℕ → Packet) (top : ℕ) → ((n : ℕ) (body : List ℕ) → (f n body).ack ≤ top) → (number : ℕ) (m : Option Message) → Each (λ p. p.ack ≤ top) (oldest_of f number m)
oldest-acks f top is number None = tt
oldest-acks f top is number (Some m) = (is number _, tt)

-- each packet of a step on a lane acknowledges what its node has taken
step-ack : (w : Setting) (lane : Lane) (s : Noted) (earlier : List Noted) (n : ℕ) (body : List ℕ) → (as_packet w lane s earlier n body).ack ≤ taken_in w (back lane) (s ∷ earlier)
step-ack w lane s earlier n body = let q = packet-ack lane.way (server_of lane.view (s ∷ earlier)) lane n (taken_in w (back lane) (s ∷ earlier)) body in omega arith

-- repeated packets are those of a tick, or none
again-acks : (w : Setting) (lane : Lane) (s : Noted) (earlier : List Noted) (t : Bool) → is_tick s.step.event ≡ t → speaks earlier s lane ≡ true → halts s ≡ false → KeepsDelivery w s earlier → KeepsResend w s earlier → Each (λ p. p.ack ≤ taken_in w (back lane) (s ∷ earlier)) (again w lane s earlier)
again-acks w lane s earlier true e h runs k r =
    let P : Packet → Type 0 = λ p. p.ack ≤ taken_in w (back lane) (s ∷ earlier) in
    let number = acked_in w lane earlier + 1 in
    let one : Each P (oldest_of (as_packet w lane s earlier) number (numbered (made_in lane earlier) number)) = oldest-acks (as_packet w lane s earlier) _ (step-ack w lane s earlier) number (numbered (made_in lane earlier) number) in
    subst (λ ps. Each P ps) (sym (r.resent lane e h runs))
    (each-if P (is_left_out lane.way w lane earlier) [] (oldest w lane s earlier) tt (each-if P (nat_lt (acked_in w lane earlier) (sent_in w lane earlier)) _ [] one tt))
again-acks w lane s earlier false e h runs k r = subst (λ ps. Each (λ p. p.ack ≤ taken_in w (back lane) (s ∷ earlier)) ps) (sym (k.no_repeat lane e)) tt

step-acks : (w : Setting) (lane : Lane) (s : Noted) (earlier : List Noted) → speaks earlier s lane ≡ true → halts s ≡ false → KeepsDelivery w s earlier → KeepsResend w s earlier → Each (λ p. p.ack ≤ taken_in w (back lane) (s ∷ earlier)) (sent_on lane s)
step-acks w lane s earlier h runs k r =
    let P : Packet → Type 0 = λ p. p.ack ≤ taken_in w (back lane) (s ∷ earlier) in
    let old = again-acks w lane s earlier (is_tick s.step.event) refl h runs k r in
    let new : Each P (fresh w lane s earlier) = packed-acks (as_packet w lane s earlier) _ (step-ack w lane s earlier) (sent_in w lane earlier) (let_out w lane s earlier) in
    let last : Each P (bare w lane s earlier) = each-one P _ _ (step-ack w lane s earlier 0 []) in
    subst (λ ps. Each P ps) (sym (k.sent lane h runs)) (each-append P (again w lane s earlier ++ fresh w lane s earlier) (bare w lane s earlier) (each-append P (again w lane s earlier) (fresh w lane s earlier) old new) last)

-- a packet of a lane acknowledges at most this
abbrev pub Acks : Lane → ℕ → Packet → Type 0
Acks lane n p = IsTrue (goes_on lane p) → p.ack ≤ n

spoken-acks : (w : Setting) (lane : Lane) (s : Noted) (earlier : List Noted) (h t : Bool) → halts s ≡ h → speaks earlier s lane ≡ t → KeepsDelivery w s earlier → KeepsResend w s earlier → Each (Acks lane (taken_in w (back lane) (s ∷ earlier))) s.step.sent
spoken-acks w lane s earlier true t e f k r = subst (λ ps. Each (Acks lane (taken_in w (back lane) (s ∷ earlier))) ps) (sym (k.halted e)) tt
spoken-acks w lane s earlier false true e f k r = each-unfiltered _ (goes_on lane) s.step.sent (step-acks w lane s earlier f e k r)
spoken-acks w lane s earlier false false e f k r = each-map _ _ s.step.sent (λ p o on. let same : o.lane ≡ lane = one-lane-of (lane_of p) o.lane lane o.goes on in let says : speaks earlier s lane ≡ true = subst (λ l. speaks earlier s l ≡ true) same o.speaks_there in let c : true ≡ false = sym says ∙ f in cc) k.no_other

pub sent-acks : (w : Setting) (lane : Lane) (trace : List Noted) → Communicates w trace → Each (Acks lane (taken_in w (back lane) trace)) (packets trace)
unfolding packets
sent-acks w lane [] k = tt
sent-acks w lane (s ∷ earlier) k = each-append _ (packets earlier) s.step.sent
    (each-map _ _ (packets earlier) (λ p h on. let a = h on in let g = taken-grows w (back lane) s earlier in omega arith) (sent-acks w lane earlier k.0))
    (spoken-acks w lane s earlier (halts s) (speaks earlier s lane) refl refl k.1 k.2)

same-back : (lane : Lane) → back (back lane) ≡ lane
same-back lane = back-way lane.way
  where
    back-way : (way : Way) → back (back (record lane { way = way })) ≡ record lane { way = way }
    back-way Up = refl
    back-way Down = refl

acknowledged-within : (n sent top : ℕ) (o : Option Packet) → n ≤ top → ((p : Packet) → o ≡ Some p → p.ack ≤ top) → acknowledged n sent o ≤ top
acknowledged-within n sent top None h f = h
acknowledged-within n sent top (Some p) h f = let low = min-le_left p.ack sent in let a = f p refl in max-le h (omega arith)

pub acked-next : (w : Setting) (lane : Lane) (s : Noted) (earlier : List Noted) → Communicates w earlier → acked_in w lane earlier ≤ taken_in w lane earlier → acked_in w lane (s ∷ earlier) ≤ taken_in w lane earlier
unfolding acked_in heard_in heard
acked-next w lane s earlier k before =
    let one : (p : Packet) → heard_in w (back lane) earlier s ≡ Some p → p.ack ≤ taken_in w lane earlier = λ p e.
    (let a = only-if-some (goes_on (back lane)) _ p e in
    let b = only-if-some _ _ p a.0 in
    subst (λ l. p.ack ≤ taken_in w l earlier) (same-back lane) (given-sent (Acks (back lane) (taken_in w (back (back lane)) earlier)) (packets earlier) s.step.event p (sent-acks w (back lane) earlier k) b.0 a.1)) in
    acknowledged-within (acked_in w lane earlier) (sent_with (length (made_in lane earlier)) (acked_in w lane earlier)) (taken_in w lane earlier) (heard_in w (back lane) earlier s) before one

pub acked-within : (w : Setting) (lane : Lane) (trace : List Noted) → Communicates w trace → acked_in w lane trace ≤ taken_in w lane trace
unfolding acked_in
acked-within w lane [] k = omega arith
acked-within w lane (s ∷ earlier) k =
    let g = taken-grows w lane s earlier in
    let m = acked-next w lane s earlier k.0 (acked-within w lane earlier k.0) in
    omega arith
