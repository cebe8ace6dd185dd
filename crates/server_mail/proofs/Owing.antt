-- Who is owed an acknowledgement, and what goes to each client where one is.
use Rattle.std.proofs.Common.{◌≡◌, ◌<◌, ◌++◌, ◌∷◌, ◌&&◌, ◌||◌, [], Bool, true, false, not, List, Option, Some, None, IfSome, if◌then◌else◌, nat_eq, nat_lt, filter, ap, refl, sym, subst, ◌∙◌}
use Rattle.std.specs.List.{list_any}
use Rattle.std.proofs.lemmas.List.{append-nil}
use Rattle.cal_base.specs.Limits.{clients}
use Rattle.cal_base.specs.declared.identity.ClientId.{ClientId}
use Rattle.cal_base.specs.declared.identity.NodeId.TheVariants.{Client}
use Rattle.cal_base.specs.declared.identity.ServerId.{ServerId}
use Rattle.cal_base.specs.declared.identity.View.{View}
use Rattle.session.specs.Session.{bare_ack_of}
use Rattle.session.specs.declared.packet.Packet.{Packet}
use Rattle.client_sessions.specs.Mail.{AreBetween, Mail, after_acknowledging, has_sent_in, is_to, session_at}
use Rattle.cluster_law.specs.Delivery.{has_number}
use Rattle.cluster_law.specs.Lists.{is_empty}
use Rattle.server_mail.specs.Step.{AllGoOut, GoesOut, after_answering, bare_to, is_owed, owed, packets_to, part_of}
use Rattle.server_mail.proofs.Addressed.{each-append, made-out, put-to, same-client}

-- a client is owed an acknowledgement where its session hears a packet with a number
pub owed-where-heard : (client : ClientId) (p : Packet) (from : Option ClientId) → is_owed client (owed p from) ≡ has_number (part_of client p from)
owed-where-heard client p None = by (nat_lt 0 p.seq)
  where
    by : (t : Bool) → is_owed client (if t then None else None) ≡ false
    by true = refl
    by false = refl
owed-where-heard client p (Some at) = by (nat_lt 0 p.seq) (nat_eq at.0 client.0) refl refl
  where
    by : (t b : Bool) → nat_lt 0 p.seq ≡ t → nat_eq at.0 client.0 ≡ b → is_owed client (if t then Some at else None) ≡ has_number (if b then Some p else None)
    by true true e h = h ∙ sym e
    by true false e h = h
    by false true e h = sym e
    by false false e h = refl

-- none of a list passes a test where what passes it is empty
none-kept : {X : Type 0} (test : X → Bool) (xs : List X) → is_empty (filter test xs) ≡ not (list_any test xs)
none-kept test [] = refl
none-kept test (x ∷ xs) = by (test x) (none-kept test xs)
  where
    by : (t : Bool) → is_empty (filter test xs) ≡ not (list_any test xs) → is_empty (if t then x ∷ filter test xs else filter test xs) ≡ not (t || list_any test xs)
    by true rest = refl
    by false rest = rest

bare-where-owed : (m : Mail) (at client : ClientId) → (session_at m at).peer ≡ Client at → packets_to client (after_answering m (Some at)) ≡ packets_to client m ++ bare_to client m (Some at)
bare-where-owed m at client peer = by (has_sent_in m at) (nat_eq at.0 client.0) refl refl
  where
    silent : (b : Bool) → has_sent_in m at ≡ b → nat_eq at.0 client.0 ≡ true → is_empty (packets_to client m) ≡ not b
    silent b e h = none-kept (is_to client) m.sent ∙ ap (λ (c : ClientId). not (has_sent_in m c)) (sym (same-client at client h)) ∙ ap not e

    by : (b t : Bool) → has_sent_in m at ≡ b → nat_eq at.0 client.0 ≡ t
        → packets_to client (if b then m else after_acknowledging m at) ≡ packets_to client m ++ (if t && is_empty (packets_to client m) then bare_ack_of (session_at m client) ∷ [] else [])
    by true true e h = sym (ap (λ (q : Bool). packets_to client m ++ (if q then bare_ack_of (session_at m client) ∷ [] else [])) (silent true e h) ∙ append-nil (packets_to client m))
    by true false e h = sym (append-nil (packets_to client m))
    by false true e h =
        put-to client at m.sent (bare_ack_of (session_at m at) ∷ []) (peer, tt)
        ∙ ap (λ (q : Bool). packets_to client m ++ (if q then bare_ack_of (session_at m at) ∷ [] else [])) h
        ∙ ap (λ (c : ClientId). packets_to client m ++ bare_ack_of (session_at m c) ∷ []) (same-client at client h)
        ∙ sym (ap (λ (q : Bool). packets_to client m ++ (if q then bare_ack_of (session_at m client) ∷ [] else [])) (silent false e h))
    by false false e h =
        put-to client at m.sent (bare_ack_of (session_at m at) ∷ []) (peer, tt)
        ∙ ap (λ (q : Bool). packets_to client m ++ (if q then bare_ack_of (session_at m at) ∷ [] else [])) h

pub acknowledges : (server : ServerId) (view : View) (m new : Mail) (answers : Option ClientId) (at client : ClientId) → answers ≡ Some at → new ≡ after_answering m (Some at) → AreBetween server view m → IfSome answers (λ c. c.0 < clients)
    → packets_to client new ≡ packets_to client m ++ bare_to client m answers
acknowledges server view m new answers at client asked is between bound =
    let within : at.0 < clients = subst (λ (o : Option ClientId). IfSome o (λ c. c.0 < clients)) asked bound in
    ap (packets_to client) is ∙ bare-where-owed m at client (between.each at within).peer ∙ sym (ap (λ (list : Option ClientId). packets_to client m ++ bare_to client m list) asked)

pub acknowledges-out : (server : ServerId) (view : View) (m new : Mail) (answers : Option ClientId) → new ≡ after_answering m answers → AreBetween server view m → IfSome answers (λ c. c.0 < clients) → AllGoOut server view m → AllGoOut server view new
acknowledges-out server view m new None is between bound out = subst (AllGoOut server view) (sym is) out
acknowledges-out server view m new (Some at) is between within out = subst (AllGoOut server view) (sym is) (by (has_sent_in m at))
  where
    by : (t : Bool) → AllGoOut server view (if t then m else after_acknowledging m at)
    by true = out
    by false = each-append (GoesOut server view) m.sent (bare_ack_of (session_at m at) ∷ []) out (made-out server at view (session_at m at) within (between.each at within) _ _ _, tt)
