-- A packet of a lane with a number has the bytes of the message of that number.
use Rattle.std.proofs.Common.{◌≡◌, ◌++◌, ◌+◌, ◌-◌, ◌<◌, ℕ, zero, suc, Bool, true, false, IsTrue, Option, Some, None, List, [], ◌∷◌, take, drop, refl, sym, ap, ◌∙◌, arith, subst, nat_lt}
use Rattle.std.specs.List.{slice_get}
use Rattle.cal_base.specs.declared.identity.ServerId.{ServerId}
use Rattle.message.specs.Spelling.{message_bytes}
use Rattle.message.specs.declared.message.Message.{Message}
use Rattle.session.specs.declared.packet.Packet.{Packet}
use Rattle.cluster_law.specs.Delivery.{KeepsDelivery, KeepsResend, Communicates, speaks, sent_on, again, fresh, bare, packed, as_packet, let_out, packet_on, oldest, oldest_of, is_left_out, is_tick}
use Rattle.cluster_law.specs.Lists.{Each, numbered}
use Rattle.cluster_law.specs.Lanes.{Lane, Way, Up, Down, back}
use Rattle.cluster_law.specs.Noted.{Setting, Noted, halts}
use Rattle.cluster_law.specs.Sessions.{made_in, made_now, acked_in, sent_in, taken_in, heard_in, heard, goes_on, lane_of}
use Rattle.cluster_law.specs.Trace.{packets, server_of}
use Rattle.cluster_law.proofs.Packets.{each-append, each-map, each-unfiltered, each-one, each-if, one-lane-of, only-if-some, given-sent, get-append}
use Rattle.cluster_law.proofs.Prefix.{packet-number}

-- the bytes of a numbered packet are those of the message of its number
pub record Carries (made : List Message) (p : Packet) : Type 0 where
  pub message : Message
  pub numbered_is : numbered made p.seq ≡ Some message
  pub body_is : p.body ≡ message_bytes message

abbrev pub Fits : List Message → Packet → Type 0
Fits made p = 0 < p.seq → Carries made p

numbered-next : (xs : List Message) (n : ℕ) → numbered xs (n + 1) ≡ slice_get xs n
numbered-next xs n = let e : n + 1 ≡ suc n = omega arith in ap (numbered xs) e

-- what has a number keeps it as more is made
numbered-stays : (xs ys : List Message) (n : ℕ) (m : Message) → numbered xs n ≡ Some m → numbered (xs ++ ys) n ≡ Some m
numbered-stays xs ys zero m h = cc
numbered-stays xs ys (suc n) m h = get-append xs ys n m h

stays : (made now : List Message) (p : Packet) → Fits made p → Fits (made ++ now) p
stays made now p fits h = let c = fits h in record { message = c.message; numbered_is = numbered-stays made now p.seq c.message c.numbered_is; body_is = c.body_is }

get-take : {X : Type 0} (k : ℕ) (xs : List X) (i : ℕ) (x : X) → slice_get (take k xs) i ≡ Some x → slice_get xs i ≡ Some x
get-take zero xs i x h = cc
get-take (suc k) [] i x h = cc
get-take (suc k) (y ∷ xs) zero x h = h
get-take (suc k) (y ∷ xs) (suc i) x h = get-take k xs i x h

get-drop : {X : Type 0} (n : ℕ) (xs : List X) (i : ℕ) (x : X) → slice_get (drop n xs) i ≡ Some x → slice_get xs (n + i) ≡ Some x
get-drop zero xs i x h = let e : i ≡ 0 + i = omega arith in subst (λ j. slice_get xs j ≡ Some x) e h
get-drop (suc n) [] i x h = cc
get-drop (suc n) (y ∷ xs) i x h = let e : suc (n + i) ≡ suc n + i = omega arith in subst (λ j. slice_get (y ∷ xs) j ≡ Some x) e (get-drop n xs i x h)

packet-body : (way : Way) (server : ServerId) (lane : Lane) (seq ack : ℕ) (body : List ℕ) → (packet_on way server lane seq ack body).body ≡ body
packet-body Up server lane seq ack body = refl
packet-body Down server lane seq ack body = refl

-- a packet that is made of a message of this number
carries : (made : List Message) (p : Packet) (n : ℕ) (m : Message) → p.seq ≡ n → p.body ≡ message_bytes m → numbered made n ≡ Some m → Carries made p
carries made p n m seq body is = record { message = m; numbered_is = ap (numbered made) seq ∙ is; body_is = body }

packed-fits : (w : Setting) (lane : Lane) (s : Noted) (earlier : List Noted) (made : List Message) (n : ℕ) (ms : List Message) → ((i : ℕ) (m : Message) → slice_get ms i ≡ Some m → slice_get made (n + i) ≡ Some m) → Each (Fits made) (packed (as_packet w lane s earlier) n ms)
packed-fits w lane s earlier made n [] at = tt
packed-fits w lane s earlier made n (m ∷ ms) at =
    let server = server_of lane.view (s ∷ earlier) in
    let ack = taken_in w (back lane) (s ∷ earlier) in
    let first : slice_get made n ≡ Some m = let e : n + 0 ≡ n = omega arith in subst (λ j. slice_get made j ≡ Some m) e (at 0 m refl) in (
      (λ h. carries made (as_packet w lane s earlier (n + 1) (message_bytes m)) (n + 1) m (packet-number lane.way server lane (n + 1) ack (message_bytes m)) (packet-body lane.way server lane (n + 1) ack (message_bytes m)) (numbered-next made n ∙ first)),
      packed-fits w lane s earlier made (n + 1) ms (λ i x h. let e : n + suc i ≡ (n + 1) + i = omega arith in subst (λ j. slice_get made j ≡ Some x) e (at (suc i) x h)),
    )

fresh-fits : (w : Setting) (lane : Lane) (s : Noted) (earlier : List Noted) → Each (Fits (made_in lane (s ∷ earlier))) (fresh w lane s earlier)
fresh-fits w lane s earlier =
    let made = made_in lane (s ∷ earlier) in
    packed-fits w lane s earlier made (sent_in w lane earlier) (let_out w lane s earlier)
    (λ i m h. get-drop (sent_in w lane earlier) made i m (get-take (sent_in w lane (s ∷ earlier) - sent_in w lane earlier) (drop (sent_in w lane earlier) made) i m h))

oldest-fits : (w : Setting) (lane : Lane) (s : Noted) (earlier : List Noted) (made : List Message) (n : ℕ) (o : Option Message) → numbered made n ≡ o → Each (Fits made) (oldest_of (as_packet w lane s earlier) n o)
oldest-fits w lane s earlier made n None e = tt
oldest-fits w lane s earlier made n (Some m) e =
    let server = server_of lane.view (s ∷ earlier) in
    let ack = taken_in w (back lane) (s ∷ earlier) in
    ((λ h. carries made (as_packet w lane s earlier n (message_bytes m)) n m (packet-number lane.way server lane n ack (message_bytes m)) (packet-body lane.way server lane n ack (message_bytes m)) e), tt)

again-fits : (w : Setting) (lane : Lane) (s : Noted) (earlier : List Noted) (t : Bool) → is_tick s.step.event ≡ t → speaks earlier s lane ≡ true → halts s ≡ false → KeepsDelivery w s earlier → KeepsResend w s earlier → Each (Fits (made_in lane earlier)) (again w lane s earlier)
again-fits w lane s earlier true e h runs k r =
    let P = Fits (made_in lane earlier) in
    let number = acked_in w lane earlier + 1 in
    subst (λ ps. Each P ps) (sym (r.resent lane e h runs))
    (each-if P (is_left_out lane.way w lane earlier) [] (oldest w lane s earlier) tt (each-if P (nat_lt (acked_in w lane earlier) (sent_in w lane earlier)) _ [] (oldest-fits w lane s earlier (made_in lane earlier) number (numbered (made_in lane earlier) number) refl) tt))
again-fits w lane s earlier false e h runs k r = subst (λ ps. Each (Fits (made_in lane earlier)) ps) (sym (k.no_repeat lane e)) tt

more : (lane : Lane) (s : Noted) (earlier : List Noted) (p : Packet) → Fits (made_in lane earlier) p → Fits (made_in lane (s ∷ earlier)) p
unfolding made_in
more lane s earlier p fits = stays (made_in lane earlier) (made_now lane s) p fits

bare-fits : (w : Setting) (lane : Lane) (s : Noted) (earlier : List Noted) (made : List Message) → Fits made (as_packet w lane s earlier 0 [])
bare-fits w lane s earlier made h = let e = packet-number lane.way (server_of lane.view (s ∷ earlier)) lane 0 (taken_in w (back lane) (s ∷ earlier)) [] in absurd (omega arith)

step-fits : (w : Setting) (lane : Lane) (s : Noted) (earlier : List Noted) → speaks earlier s lane ≡ true → halts s ≡ false → KeepsDelivery w s earlier → KeepsResend w s earlier → Each (Fits (made_in lane (s ∷ earlier))) (sent_on lane s)
step-fits w lane s earlier h runs k r =
    let P = Fits (made_in lane (s ∷ earlier)) in
    let old : Each P (again w lane s earlier) = each-map _ _ (again w lane s earlier) (more lane s earlier) (again-fits w lane s earlier (is_tick s.step.event) refl h runs k r) in
    let last : Each P (bare w lane s earlier) = each-one P _ _ (bare-fits w lane s earlier (made_in lane (s ∷ earlier))) in
    subst (λ ps. Each P ps) (sym (k.sent lane h runs)) (each-append P (again w lane s earlier ++ fresh w lane s earlier) (bare w lane s earlier) (each-append P (again w lane s earlier) (fresh w lane s earlier) old (fresh-fits w lane s earlier)) last)

-- of a packet of the lane
abbrev pub FitsOn : Lane → List Message → Packet → Type 0
FitsOn lane made p = IsTrue (goes_on lane p) → Fits made p

spoken-fits : (w : Setting) (lane : Lane) (s : Noted) (earlier : List Noted) (h t : Bool) → halts s ≡ h → speaks earlier s lane ≡ t → KeepsDelivery w s earlier → KeepsResend w s earlier → Each (FitsOn lane (made_in lane (s ∷ earlier))) s.step.sent
spoken-fits w lane s earlier true t e f k r = subst (λ ps. Each (FitsOn lane (made_in lane (s ∷ earlier))) ps) (sym (k.halted e)) tt
spoken-fits w lane s earlier false true e f k r = each-unfiltered _ (goes_on lane) s.step.sent (step-fits w lane s earlier f e k r)
spoken-fits w lane s earlier false false e f k r = each-map _ _ s.step.sent (λ p o on. let same : o.lane ≡ lane = one-lane-of (lane_of p) o.lane lane o.goes on in let says : speaks earlier s lane ≡ true = subst (λ l. speaks earlier s l ≡ true) same o.speaks_there in let c : true ≡ false = sym says ∙ f in cc) k.no_other

pub sent-fits : (w : Setting) (lane : Lane) (trace : List Noted) → Communicates w trace → Each (FitsOn lane (made_in lane trace)) (packets trace)
unfolding packets
sent-fits w lane [] k = tt
sent-fits w lane (s ∷ earlier) k = each-append _ (packets earlier) s.step.sent
    (each-map _ _ (packets earlier) (λ p h on. more lane s earlier p (h on)) (sent-fits w lane earlier k.0))
    (spoken-fits w lane s earlier (halts s) (speaks earlier s lane) refl refl k.1 k.2)

pub heard-fits : (w : Setting) (lane : Lane) (s : Noted) (earlier : List Noted) (p : Packet) → Communicates w earlier → heard_in w lane earlier s ≡ Some p → p.seq ≡ taken_in w lane earlier + 1 → (m : Message) × (numbered (made_in lane earlier) p.seq ≡ Some m) × (p.body ≡ message_bytes m)
unfolding heard_in heard
heard-fits w lane s earlier p k h next =
    let a = only-if-some (goes_on lane) _ p h in
    let b = only-if-some _ _ p a.0 in
    let c : Carries (made_in lane earlier) p = given-sent (FitsOn lane (made_in lane earlier)) (packets earlier) s.step.event p (sent-fits w lane earlier k) b.0 a.1 (omega arith) in
    (c.message, c.numbered_is, c.body_is)
