-- An end of a session goes on as the trace's lane does.
use Rattle.std.proofs.Common.{◌≡◌, ◌++◌, ◌+◌, ◌-◌, ◌≤◌, ℕ, zero, suc, Option, Some, None, List, [], ◌∷◌, length, drop, map, min, max, refl, sym, ap, ◌∙◌, arith, append-nil, append_assoc}
use Rattle.std.proofs.lemmas.List.{drop-append-le, map-append, drop-map, length-drop, length-take, length-map}
use Rattle.message.specs.Spelling.{message_bytes}
use Rattle.message.specs.declared.message.Message.{Message}
use Rattle.session.specs.Session.{SessionState, after_send, newly_acknowledged}
use Rattle.session.specs.declared.packet.Packet.{Packet}
use Rattle.cluster_law.specs.Delivery.{Communicates}
use Rattle.cluster_law.specs.Ends.{SessionFits, hearing, making, speaker, hearer}
use Rattle.cluster_law.specs.Lanes.{Lane, back}
use Rattle.cluster_law.specs.Noted.{Setting, Noted}
use Rattle.cluster_law.specs.Sessions.{made_in, made_now, acked_in, acknowledged, sent_with, taken_in, counted, heard_in}
use Rattle.cluster_law.specs.Trace.{server_of}
use Rattle.cluster_law.proofs.Acks.{acked-next, acked-within}
use Rattle.cluster_law.proofs.Prefix.{taken-made}

-- making leaves all but the bodies
record Makes (s t : SessionState) (made : List (List ℕ)) : Type 0 where
  pub me : t.me ≡ s.me
  pub peer : t.peer ≡ s.peer
  pub view : t.view ≡ s.view
  pub acknowledged : t.acknowledged ≡ s.acknowledged
  pub taken : t.taken ≡ s.taken
  pub bodies : t.bodies ≡ s.bodies ++ made

makes : (s : SessionState) (bodies : List (List ℕ)) → Makes s (making s bodies) bodies
makes s [] = record { me = refl; peer = refl; view = refl; acknowledged = refl; taken = refl; bodies = sym (append-nil s.bodies) }
makes s (body ∷ bodies) =
    let rest = makes (after_send s body) bodies in
    record { me = rest.me; peer = rest.peer; view = rest.view; acknowledged = rest.acknowledged; taken = rest.taken; bodies = rest.bodies ∙ append_assoc s.bodies (body ∷ []) bodies }

-- what a packet newly acknowledges, as the trace counts it
abbrev newly : SessionState → Option Packet → ℕ
newly s None = 0
newly s (Some p) = newly_acknowledged s p

heard-acks : (s : SessionState) (o : Option Packet) → (hearing s o).acknowledged ≡ s.acknowledged + newly s o
heard-acks s None = omega arith
heard-acks s (Some p) = refl

heard-bodies : (s : SessionState) (o : Option Packet) → (hearing s o).bodies ≡ drop (newly s o) s.bodies
heard-bodies s None = refl
heard-bodies s (Some p) = refl

heard-taken : (s : SessionState) (o : Option Packet) → (hearing s o).taken ≡ counted s.taken o
heard-taken s None = refl
heard-taken s (Some p) = refl

heard-me : (s : SessionState) (o : Option Packet) → (hearing s o).me ≡ s.me
heard-me s None = refl
heard-me s (Some p) = refl

heard-peer : (s : SessionState) (o : Option Packet) → (hearing s o).peer ≡ s.peer
heard-peer s None = refl
heard-peer s (Some p) = refl

heard-view : (s : SessionState) (o : Option Packet) → (hearing s o).view ≡ s.view
heard-view s None = refl
heard-view s (Some p) = refl

-- a packet acknowledges what was sent and no more, counted either way
clipped : (acked made ack waiting : ℕ) → acked ≤ made → waiting ≡ made - acked → acked + min (ack - acked) (min 8 waiting) ≡ max acked (min ack (min made (acked + 8)))
clipped acked made ack waiting h e = omega arith

acks-alike : (s : SessionState) (made : ℕ) (o : Option Packet) → s.acknowledged ≤ made → length s.bodies ≡ made - s.acknowledged → s.acknowledged + newly s o ≡ acknowledged s.acknowledged (sent_with made s.acknowledged) o
acks-alike s made None h e = omega arith
acks-alike s made (Some p) h e = ap (λ n. s.acknowledged + min (p.ack - s.acknowledged) n) (length-take 8 s.bodies) ∙ clipped s.acknowledged made p.ack (length s.bodies) h e

drop-none : {X : Type 0} (n : ℕ) → drop {A = X} n [] ≡ []
drop-none zero = refl
drop-none (suc n) = refl

drop-of-drop : {X : Type 0} (n m : ℕ) (xs : List X) → drop m (drop n xs) ≡ drop (n + m) xs
drop-of-drop zero m xs = ap (λ k. drop k xs) (omega arith)
drop-of-drop (suc n) m [] = drop-none m ∙ sym (drop-none (suc n + m))
drop-of-drop (suc n) m (x ∷ xs) = drop-of-drop n m xs ∙ ap (λ k. drop k (x ∷ xs)) (let e : suc (n + m) ≡ suc n + m = omega arith in e)

-- what waits after more was acknowledged and more was made
waits-on : (f : Message → List ℕ) (a n b : ℕ) (made now : List Message) → a + n ≡ b → b ≤ length made → drop n (map f (drop a made)) ++ map f now ≡ map f (drop b (made ++ now))
waits-on f a n b made now whole k =
    let front : drop n (map f (drop a made)) ≡ map f (drop b made) = drop-map f n (drop a made) ∙ ap (map f) (drop-of-drop a n made ∙ ap (λ i. drop i made) whole) in
    ap (λ xs. xs ++ map f now) front ∙ sym (map-append f (drop b made) now) ∙ ap (map f) (sym (drop-append-le b made now k))

-- how many bodies wait
waiting : (w : Setting) (lane : Lane) (earlier : List Noted) (s : SessionState) → SessionFits w earlier lane s → length s.bodies ≡ length (made_in lane earlier) - s.acknowledged
waiting w lane earlier s fits =
    ap length fits.bodies ∙ length-map (drop (acked_in w lane earlier) (made_in lane earlier)) message_bytes ∙ length-drop (acked_in w lane earlier) (made_in lane earlier)
    ∙ ap (λ n. length (made_in lane earlier) - n) (sym fits.acknowledged)

-- the count of what is acknowledged goes on
acks-on : (w : Setting) (lane : Lane) (n : Noted) (earlier : List Noted) (s : SessionState) → Communicates w earlier → SessionFits w earlier lane s → s.acknowledged + newly s (heard_in w (back lane) earlier n) ≡ acked_in w lane (n ∷ earlier)
unfolding acked_in
acks-on w lane n earlier s k fits =
    let o = heard_in w (back lane) earlier n in
    let low = acked-within w lane earlier k in
    let top = taken-made w lane earlier k in
    let is = fits.acknowledged in
    acks-alike s (length (made_in lane earlier)) o (omega arith) (waiting w lane earlier s fits)
    ∙ ap (λ a. acknowledged a (sent_with (length (made_in lane earlier)) a) o) is

bodies-on : (w : Setting) (lane : Lane) (n : Noted) (earlier : List Noted) (s : SessionState) → Communicates w earlier → SessionFits w earlier lane s
    → drop (newly s (heard_in w (back lane) earlier n)) s.bodies ++ map message_bytes (made_now lane n) ≡ map message_bytes (drop (acked_in w lane (n ∷ earlier)) (made_in lane (n ∷ earlier)))
unfolding made_in
bodies-on w lane n earlier s k fits =
    let o = heard_in w (back lane) earlier n in
    let more = acks-on w lane n earlier s k fits in
    let low = acked-next w lane n earlier k (acked-within w lane earlier k) in
    let top = taken-made w lane earlier k in
    let is = fits.acknowledged in
    ap (λ xs. drop (newly s o) xs ++ map message_bytes (made_now lane n)) fits.bodies
    ∙ waits-on message_bytes (acked_in w lane earlier) (newly s o) (acked_in w lane (n ∷ earlier)) (made_in lane earlier) (made_now lane n) (ap (λ a. a + newly s o) (sym is) ∙ more) (omega arith)

pub goes-on : (w : Setting) (lane : Lane) (n : Noted) (earlier : List Noted) (s : SessionState) → Communicates w earlier → server_of lane.view (n ∷ earlier) ≡ server_of lane.view earlier → SessionFits w earlier lane s
    → SessionFits w (n ∷ earlier) lane (making (hearing s (heard_in w (back lane) earlier n)) (map message_bytes (made_now lane n)))
unfolding taken_in
goes-on w lane n earlier s k same fits =
    let o = heard_in w (back lane) earlier n in
    let made = makes (hearing s o) (map message_bytes (made_now lane n)) in
    record {
      me = made.me ∙ heard-me s o ∙ fits.me ∙ ap (speaker lane.way lane.client) (sym same);
      peer = made.peer ∙ heard-peer s o ∙ fits.peer ∙ ap (hearer lane.way lane.client) (sym same);
      view = ap (λ v. v.0) (made.view ∙ heard-view s o) ∙ fits.view;
      acknowledged = made.acknowledged ∙ heard-acks s o ∙ acks-on w lane n earlier s k fits;
      taken = made.taken ∙ heard-taken s o ∙ ap (λ t. counted t o) fits.taken;
      bodies = made.bodies ∙ ap (λ xs. xs ++ map message_bytes (made_now lane n)) (heard-bodies s o) ∙ bodies-on w lane n earlier s k fits;
    }
