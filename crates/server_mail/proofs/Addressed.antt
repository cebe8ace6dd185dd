-- To whom packets go, and what that is for one client.
use Rattle.std.proofs.Common.{◌⊎◌, zero, suc, ◌≡◌, ◌<◌, ◌+◌, ◌++◌, ◌∷◌, ◌&&◌, [], ℕ, Bool, true, false, Some, None, List, length, get_or, slice_set, filter, option_to_list, if◌then◌else◌, nat_eq, nat_lt, ap, refl, sym, subst, ◌∙◌, arith, inl, inr}
use Rattle.std.proofs.lemmas.Bool.{cases_eq, eqb-true}
use Rattle.std.proofs.lemmas.Bool.Decides.{nat_tests}
use Rattle.std.proofs.lemmas.List.{get_or-set_other, get_or-set_same}
use Rattle.std.proofs.lemmas.List.Elements.{filter-append}
use Rattle.cal_base.specs.Limits.{clients, unacknowledged as max_unacknowledged}
use Rattle.cal_base.specs.declared.identity.ClientId.{ClientId}
use Rattle.cal_base.specs.declared.identity.NodeId.{NodeId}
use Rattle.cal_base.specs.declared.identity.NodeId.TheVariants.{Client}
use Rattle.cal_base.specs.declared.identity.ServerId.{ServerId}
use Rattle.cal_base.specs.declared.identity.View.{View}
use Rattle.session.specs.Session.{SessionState, is_of_session, let_out, oldest_packet, opened_packets, packet_of, packets_from, same_node, sent_packet}
use Rattle.session.specs.declared.packet.Packet.{Packet}
use Rattle.client_sessions.specs.Mail.{IsBetween, Mail, is_to, no_session}
use Rattle.cluster_law.specs.Lanes.{Down}
use Rattle.cluster_law.specs.Lists.{Each}
use Rattle.cluster_law.specs.Sessions.{goes_on, is_lane, lane_between}
use Rattle.server_mail.specs.Step.{AllGoOut, GoesOut, packets_to}

-- packets that all go to one node
abbrev pub AllTo : NodeId → List Packet → Type 0
AllTo node packets = Each (λ p. p.to ≡ node) packets

-- numbers that are one pass the test, and clients whose numbers pass it are one
pub same-number : (n : ℕ) → nat_eq n n ≡ true
same-number n = grind (arith, nat_tests)

pub same-client : (a b : ClientId) → nat_eq a.0 b.0 ≡ true → a ≡ b
same-client a b h = let q : a.0 ≡ b.0 = eqb-true a.0 b.0 h in λ i. record { 0 = q i }

-- what holds of each packet that a session may make, holds of each that it sends
from-each : (P : Packet → Type 0) (s : SessionState) (taken number : ℕ) (bodies : List (List ℕ)) → ((t n : ℕ) (body : List ℕ) → P (packet_of s t n body)) → Each P (packets_from s taken number bodies)
from-each P s taken number [] made = tt
from-each P s taken number (body ∷ bodies) made = (made taken number body, from-each P s taken (number + 1) bodies made)

pub out-each : (P : Packet → Type 0) (s : SessionState) (p : Packet) → ((t n : ℕ) (body : List ℕ) → P (packet_of s t n body)) → Each P (let_out s p)
out-each P s p made = by (is_of_session s p)
  where
    by : (b : Bool) → Each P (if b then opened_packets s p else [])
    by true = from-each P s _ _ _ made
    by false = tt

pub sent-each : (P : Packet → Type 0) (s : SessionState) (body : List ℕ) → ((t n : ℕ) (body : List ℕ) → P (packet_of s t n body)) → Each P (option_to_list (sent_packet s body))
sent-each P s body made = by (nat_lt (length s.bodies) max_unacknowledged)
  where
    by : (b : Bool) → Each P (option_to_list (if b then Some (packet_of s s.taken (s.acknowledged + length s.bodies + 1) body) else None))
    by true = (made _ _ body, tt)
    by false = tt

pub oldest-each : (P : Packet → Type 0) (s : SessionState) (bodies : List (List ℕ)) → ((t n : ℕ) (body : List ℕ) → P (packet_of s t n body)) → Each P (option_to_list (oldest_packet s bodies))
oldest-each P s [] made = tt
oldest-each P s (body ∷ bodies) made = (made _ _ body, tt)

-- the packets of a session between the server and a client go out
pub made-out : (server : ServerId) (client : ClientId) (view : View) (s : SessionState) → client.0 < clients → IsBetween server client view s → (t n : ℕ) (body : List ℕ) → GoesOut server view (packet_of s t n body)
made-out server client view s within between t n body = record { client = client; from = between.me; to = between.peer; of_view = between.of_view; within = within }

pub each-append : (P : Packet → Type 0) (xs ys : List Packet) → Each P xs → Each P ys → Each P (xs ++ ys)
each-append P [] ys these those = those
each-append P (x ∷ xs) ys these those = (these.0, each-append P xs ys these.1 those)

-- a packet to a client is for that client alone
nodes-are : (a b : ClientId) → same_node (Client a) (Client b) ≡ nat_eq a.0 b.0
nodes-are a b = refl

to-is : (client other : ClientId) (p : Packet) → p.to ≡ Client other → is_to client p ≡ nat_eq other.0 client.0
to-is client other p e = ap (λ (node : NodeId). same_node node (Client client)) e ∙ nodes-are other client

-- of packets to a client, all are to it and none to another
only : (client other : ClientId) (b : Bool) (packets : List Packet) → nat_eq other.0 client.0 ≡ b → AllTo (Client other) packets → filter (is_to client) packets ≡ (if b then packets else [])
only client other true [] e each = refl
only client other false [] e each = refl
only client other true (p ∷ packets) e each =
    ap (λ (t : Bool). if t then p ∷ filter (is_to client) packets else filter (is_to client) packets) (to-is client other p each.0 ∙ e)
    ∙ ap (λ (rest : List Packet). p ∷ rest) (only client other true packets e each.1)
only client other false (p ∷ packets) e each =
    ap (λ (t : Bool). if t then p ∷ filter (is_to client) packets else filter (is_to client) packets) (to-is client other p each.0 ∙ e)
    ∙ only client other false packets e each.1

-- packets to a client are put behind others
pub put-to : (client other : ClientId) (old packets : List Packet) → AllTo (Client other) packets → filter (is_to client) (old ++ packets) ≡ filter (is_to client) old ++ (if nat_eq other.0 client.0 then packets else [])
put-to client other old packets each =
    filter-append (is_to client) old packets ∙ ap (λ (rest : List Packet). filter (is_to client) old ++ rest) (only client other (nat_eq other.0 client.0) packets refl each)

-- a client's session is set, and no other
pub at-set : (sessions : List SessionState) (at client : ClientId) (s : SessionState) → client.0 < length sessions → get_or (slice_set sessions at.0 s) client.0 no_session ≡ (if nat_eq at.0 client.0 then s else get_or sessions client.0 no_session)
at-set sessions at client s within =
    elim (cases_eq client.0 at.0) as (λ _. get_or (slice_set sessions at.0 s) client.0 no_session ≡ (if nat_eq at.0 client.0 then s else get_or sessions client.0 no_session)) [
      | inl same ↦
          let test : nat_eq at.0 client.0 ≡ true = grind (arith, nat_tests, same) in
          subst (λ (k : ℕ). get_or (slice_set sessions at.0 s) k no_session ≡ s) (sym same) (get_or-set_same sessions at.0 s no_session (omega (arith, same, within)))
          ∙ sym (ap (λ (t : Bool). if t then s else get_or sessions client.0 no_session) test)
      | inr apart ↦
          let test : nat_eq at.0 client.0 ≡ false = grind (arith, nat_tests, apart) in
          get_or-set_other sessions at.0 client.0 s no_session apart ∙ sym (ap (λ (t : Bool). if t then s else get_or sessions client.0 no_session) test)
    ]

-- where a session is set, it is read there or stays as it was
pub set-or : (sessions : List SessionState) (at client : ℕ) (s : SessionState)
    → ((at ≡ client) × (get_or (slice_set sessions at s) client no_session ≡ s)) ⊎ (get_or (slice_set sessions at s) client no_session ≡ get_or sessions client no_session)
set-or [] at client s = inr refl
set-or (x ∷ sessions) zero zero s = inl (refl, refl)
set-or (x ∷ sessions) zero (suc client) s = inr refl
set-or (x ∷ sessions) (suc at) zero s = inr refl
set-or (x ∷ sessions) (suc at) (suc client) s =
    elim (set-or sessions at client s) as (λ _. ((suc at ≡ suc client) × (get_or (slice_set sessions at s) client no_session ≡ s)) ⊎ (get_or (slice_set sessions at s) client no_session ≡ get_or sessions client no_session)) [
      | inl set ↦ inl (ap suc set.0, set.1)
      | inr stays ↦ inr stays
    ]

-- a packet that goes out is on the lane of its client
pub lane-test : (a b : Bool) → b ≡ true → (a && b && true) ≡ a
lane-test true true e = refl
lane-test false true e = refl
lane-test a false e = cc

lane-is : (server : ServerId) (view : View) (client : ClientId) (p : Packet) → GoesOut server view p → goes_on (record { client = client.0; view = view.0; way = Down }) p ≡ is_to client p
lane-is server view client p out =
    (λ i. is_lane (lane_between (out.from i) (out.to i) (out.of_view i).0) (record { client = client.0; view = view.0; way = Down }))
    ∙ lane-test (nat_eq out.client.0 client.0) (nat_eq view.0 view.0) (same-number view.0)
    ∙ sym (to-is client out.client p out.to)

on-lane : (server : ServerId) (view : View) (client : ClientId) (packets : List Packet) → Each (GoesOut server view) packets → filter (goes_on (record { client = client.0; view = view.0; way = Down })) packets ≡ filter (is_to client) packets
on-lane server view client [] out = refl
on-lane server view client (p ∷ packets) out =
    ap (λ (t : Bool). if t then p ∷ filter (goes_on (record { client = client.0; view = view.0; way = Down })) packets else filter (goes_on (record { client = client.0; view = view.0; way = Down })) packets) (lane-is server view client p out.0)
    ∙ ap (λ (rest : List Packet). if is_to client p then p ∷ rest else rest) (on-lane server view client packets out.1)

pub lane-has : (server : ServerId) (view : View) (client : ClientId) (m : Mail) → AllGoOut server view m → filter (goes_on (record { client = client.0; view = view.0; way = Down })) m.sent ≡ packets_to client m
lane-has server view client m out = on-lane server view client m.sent out
