-- What a packet that has come is to each client.
use Rattle.std.proofs.Common.{◌≤◌, ◌||◌, ◌+◌, ℕ, inl, inr, get_or, slice_set, ◌≡◌, ◌<◌, ◌++◌, ◌&&◌, [], Bool, true, false, not, Option, Some, None, if◌then◌else◌, nat_eq, nat_lt, length, ap, refl, sym, subst, ◌∙◌, arith}
use Rattle.std.proofs.lemmas.Bool.Decides.{nat_tests}
use Rattle.std.proofs.lemmas.List.{append-nil}
use Rattle.cal_base.specs.Limits.{clients}
use Rattle.cal_base.specs.declared.identity.ClientId.{ClientId}
use Rattle.cal_base.specs.declared.identity.NodeId.{NodeId}
use Rattle.cal_base.specs.declared.identity.NodeId.TheVariants.{Client, Server}
use Rattle.cal_base.specs.declared.identity.ServerId.{ServerId}
use Rattle.cal_base.specs.declared.identity.View.{View}
use Rattle.session.specs.Session.{SessionState, after_packet, heard, is_next, is_of_session, let_out, newly_acknowledged}
use Rattle.session.specs.declared.packet.Packet.{Packet}
use Rattle.client_sessions.specs.Mail.{AreBetween, Mail, heard_as, heard_in, is_heard_from, no_session, session_at}
use Rattle.volume.specs.Volume.{Volume}
use Rattle.cluster_law.specs.Ends.{hearing}
use Rattle.cluster_law.specs.Lists.{only_if}
use Rattle.lane_facts.specs.Speaking.{opened_by}
use Rattle.server_mail.specs.Step.{AllGoOut, GoesOut, after_coming, heard_from, is_purged, packets_to, part_of}
use Rattle.server_mail.proofs.Addressed.{at-set, each-append, made-out, out-each, put-to, same-client, set-or}

-- a packet is heard in the session with a client alone to which it belongs
abbrev pub Belongs : Mail → Packet → Option ClientId → Type 0
Belongs m p None = Unit {0}
Belongs m p (Some client) = is_heard_from m client p ≡ true

sender : (m : Mail) (p : Packet) (node : NodeId) → Belongs m p (heard_as m p node)
sender m p (Server server) = tt
sender m p (Client client) = by (is_heard_from m client p) refl
  where
    by : (t : Bool) → is_heard_from m client p ≡ t → Belongs m p (if t then Some client else None)
    by true e = e
    by false e = tt

unless : (m : Mail) (p : Packet) (volume : Volume) (from : Option ClientId) → Belongs m p from → Belongs m p (only_if (λ client. not (is_purged volume client)) from)
unless m p volume None there = tt
unless m p volume (Some client) there = by (not (is_purged volume client))
  where
    by : (t : Bool) → Belongs m p (if t then Some client else None)
    by true = there
    by false = tt

belongs : (m : Mail) (volume : Volume) (p : Packet) → Belongs m p (heard_from m volume p)
belongs m volume p = unless m p volume (heard_in m p) (sender m p p.from)

second : (a b : Bool) → (a && b) ≡ true → b ≡ true
second true b h = h
second false b h = cc

-- a packet of the session is heard by it
hears : (s : SessionState) (p : Packet) → is_of_session s p ≡ true → heard s p ≡ after_packet s p
hears s p e = ap (λ (t : Bool). if t then after_packet s p else s) e

session-part : (m : Mail) (p : Packet) (from : Option ClientId) (client : ClientId) → client.0 < length m.sessions → Belongs m p from
    → session_at (after_coming m p from) client ≡ hearing (session_at m client) (part_of client p from)
session-part m p None client within there = refl
session-part m p (Some at) client within there = at-set m.sessions at client (heard (session_at m at) p) within ∙ by (nat_eq at.0 client.0) refl
  where
    by : (t : Bool) → nat_eq at.0 client.0 ≡ t → (if t then heard (session_at m at) p else session_at m client) ≡ hearing (session_at m client) (if t then Some p else None)
    by true e =
        hears (session_at m at) p (second (nat_lt at.0 clients) (is_of_session (session_at m at) p) there)
        ∙ ap (λ (c : ClientId). after_packet (session_at m c) p) (same-client at client e)
    by false e = refl

belongs-within : (m : Mail) (p : Packet) (at : ClientId) → is_heard_from m at p ≡ true → at.0 < clients
belongs-within m p at there = inside (nat_lt at.0 clients) refl there
  where
    inside : (t : Bool) → nat_lt at.0 clients ≡ t → (t && is_of_session (session_at m at) p) ≡ true → at.0 < clients
    inside true e h = grind (arith, nat_tests, e)
    inside false e h = cc

packets-part : (server : ServerId) (view : View) (m : Mail) (p : Packet) (from : Option ClientId) (client : ClientId) → AreBetween server view m → Belongs m p from
    → packets_to client (after_coming m p from) ≡ packets_to client m ++ opened_by (session_at m client) (part_of client p from)
packets-part server view m p None client between there = sym (append-nil (packets_to client m))
packets-part server view m p (Some at) client between there =
    put-to client at m.sent (let_out (session_at m at) p) (out-each (λ q. q.to ≡ Client at) (session_at m at) p (λ t n body. (between.each at (belongs-within m p at there)).peer))
    ∙ by (nat_eq at.0 client.0) refl
  where
    by : (t : Bool) → nat_eq at.0 client.0 ≡ t → packets_to client m ++ (if t then let_out (session_at m at) p else []) ≡ packets_to client m ++ opened_by (session_at m client) (if t then Some p else None)
    by true e = ap (λ (c : ClientId). packets_to client m ++ let_out (session_at m c) p) (same-client at client e)
    by false e = refl

-- once the packet has come, each client's session has heard its part, and what that lets out goes to the client
pub session-hears : (server : ServerId) (view : View) (m new : Mail) (volume : Volume) (p : Packet) (client : ClientId) → new ≡ after_coming m p (heard_from m volume p) → AreBetween server view m → client.0 < clients
    → session_at new client ≡ hearing (session_at m client) (part_of client p (heard_from m volume p))
session-hears server view m new volume p client is between within =
    let count = between.count in
    ap (λ (k : Mail). session_at k client) is ∙ session-part m p (heard_from m volume p) client (omega (arith, count, within)) (belongs m volume p)

pub packets-opened : (server : ServerId) (view : View) (m new : Mail) (volume : Volume) (p : Packet) (client : ClientId) → new ≡ after_coming m p (heard_from m volume p) → AreBetween server view m
    → packets_to client new ≡ packets_to client m ++ opened_by (session_at m client) (part_of client p (heard_from m volume p))
packets-opened server view m new volume p client is between =
    ap (packets_to client) is ∙ packets-part server view m p (heard_from m volume p) client between (belongs m volume p)

-- a session makes no more than one step for a packet
packet-steps : (s : SessionState) (p : Packet) → (after_packet s p).steps ≤ s.steps + 1
packet-steps s p = by (is_next s p || nat_lt 0 (newly_acknowledged s p))
  where
    by : (t : Bool) → (if t then s.steps + 1 else s.steps) ≤ s.steps + 1
    by true = omega arith
    by false = omega arith

heard-steps : (s : SessionState) (p : Packet) → (heard s p).steps ≤ s.steps + 1
heard-steps s p = by (is_of_session s p) (packet-steps s p)
  where
    by : (t : Bool) → (after_packet s p).steps ≤ s.steps + 1 → (if t then after_packet s p else s).steps ≤ s.steps + 1
    by true few = few
    by false few = omega arith

pub coming-steps : (m : Mail) (p : Packet) (from : Option ClientId) (client : ClientId) → (session_at (after_coming m p from) client).steps ≤ (session_at m client).steps + 1
coming-steps m p None client = omega arith
coming-steps m p (Some at) client =
    let few = heard-steps (session_at m at) p in
    elim (set-or m.sessions at.0 client.0 (heard (session_at m at) p)) as (λ _. (get_or (slice_set m.sessions at.0 (heard (session_at m at) p)) client.0 no_session).steps ≤ (session_at m client).steps + 1) [
      | inl set ↦
          let steps = ap (λ (s : SessionState). s.steps) set.1 in
          let old = ap (λ (n : ℕ). (get_or m.sessions n no_session).steps) set.0 in
          omega (arith, few, steps, old)
      | inr stays ↦ let steps = ap (λ (s : SessionState). s.steps) stays in omega (arith, steps)
    ]

pub hearing-steps : (m new : Mail) (p : Packet) (from : Option ClientId) (client : ClientId) → new ≡ after_coming m p from → (session_at new client).steps ≤ (session_at m client).steps + 1
hearing-steps m new p from client is =
    let steps = ap (λ (k : Mail). (session_at k client).steps) is in
    let few = coming-steps m p from client in
    omega (arith, steps, few)

-- what a packet lets out goes out
coming-out : (server : ServerId) (view : View) (m : Mail) (p : Packet) (from : Option ClientId) → AreBetween server view m → Belongs m p from → AllGoOut server view m → AllGoOut server view (after_coming m p from)
coming-out server view m p None between there out = out
coming-out server view m p (Some at) between there out =
    let within = belongs-within m p at there in
    each-append (GoesOut server view) m.sent (let_out (session_at m at) p) out (out-each (GoesOut server view) (session_at m at) p (made-out server at view (session_at m at) within (between.each at within)))

pub hearing-out : (server : ServerId) (view : View) (m new : Mail) (volume : Volume) (p : Packet) → new ≡ after_coming m p (heard_from m volume p) → AreBetween server view m → AllGoOut server view m → AllGoOut server view new
hearing-out server view m new volume p is between out = subst (AllGoOut server view) (sym is) (coming-out server view m p (heard_from m volume p) between (belongs m volume p) out)
