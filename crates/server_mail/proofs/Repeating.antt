-- What is sent again to each client, by the clients to which it was sent so far.
use Rattle.std.proofs.Common.{◌≡◌, ◌<◌, ◌+◌, ◌++◌, [], ℕ, Bool, true, false, List, if◌then◌else◌, nat_eq, nat_lt, get_or, option_to_list, ap, refl, sym, subst, ◌∙◌, arith, inl, inr}
use Rattle.std.proofs.lemmas.Bool.{cases_eq, cases_lt}
use Rattle.std.proofs.lemmas.Bool.Decides.{nat_tests}
use Rattle.std.proofs.lemmas.List.{append-nil}
use Rattle.cal_base.specs.Limits.{clients}
use Rattle.cal_base.specs.declared.identity.ClientId.{ClientId}
use Rattle.cal_base.specs.declared.identity.NodeId.TheVariants.{Client}
use Rattle.cal_base.specs.declared.identity.ServerId.{ServerId}
use Rattle.cal_base.specs.declared.identity.View.{View}
use Rattle.session.specs.Session.{SessionState, tick_packet}
use Rattle.session.specs.declared.packet.Packet.{Packet}
use Rattle.client_sessions.specs.Mail.{AreBetween, IsBetween, Mail, after_resending, no_session, session_at}
use Rattle.volume.specs.Volume.{Volume}
use Rattle.server_mail.specs.Step.{AllGoOut, GoesOut, after_tick_to, is_purged, packets_to, resent}
use Rattle.server_mail.proofs.Addressed.{each-append, made-out, oldest-each, put-to, same-client}

-- the clients below a number were sent their oldest message again
pub record ResentBelow (volume : Volume) (old : Mail) (number : ℕ) (new : Mail) : Type 0 where
  pub sessions : new.sessions ≡ old.sessions
  pub sent : (server : ServerId) (view : View) (client : ClientId) → AreBetween server view old → packets_to client new ≡ packets_to client old ++ (if nat_lt client.0 number then resent volume old client else [])
  pub out : (server : ServerId) (view : View) → AreBetween server view old → AllGoOut server view old → AllGoOut server view new

pub resent-none : (volume : Volume) (old : Mail) → ResentBelow volume old 0 old
resent-none volume old = record { sessions = refl; sent = λ server view client between. sym (ap (λ (t : Bool). packets_to client old ++ (if t then resent volume old client else [])) (let q : nat_lt client.0 0 ≡ false = grind (arith, nat_tests) in q) ∙ append-nil (packets_to client old)); out = λ server view between out. out }

-- one more is
same-sessions : (volume : Volume) (m : Mail) (at : ClientId) → (after_tick_to volume m at).sessions ≡ m.sessions
same-sessions volume m at = by (is_purged volume at)
  where
    by : (t : Bool) → (if t then m else after_resending m at).sessions ≡ m.sessions
    by true = refl
    by false = refl

put-again : (volume : Volume) (m : Mail) (at client : ClientId) → (session_at m at).peer ≡ Client at
    → packets_to client (after_tick_to volume m at) ≡ packets_to client m ++ (if nat_eq at.0 client.0 then resent volume m client else [])
put-again volume m at client peer = by (is_purged volume at) (nat_eq at.0 client.0) refl refl
  where
    by : (b t : Bool) → is_purged volume at ≡ b → nat_eq at.0 client.0 ≡ t → packets_to client (if b then m else after_resending m at) ≡ packets_to client m ++ (if t then resent volume m client else [])
    by true true e h =
        let purged : is_purged volume client ≡ true = ap (is_purged volume) (sym (same-client at client h)) ∙ e in
        sym (ap (λ (q : Bool). packets_to client m ++ (if q then [] else option_to_list (tick_packet (session_at m client)))) purged ∙ append-nil (packets_to client m))
    by true false e h = sym (append-nil (packets_to client m))
    by false true e h =
        let present : is_purged volume client ≡ false = ap (is_purged volume) (sym (same-client at client h)) ∙ e in
        put-to client at m.sent (option_to_list (tick_packet (session_at m at))) (oldest-each (λ q. q.to ≡ Client at) (session_at m at) (session_at m at).bodies (λ t n body. peer))
        ∙ ap (λ (q : Bool). packets_to client m ++ (if q then option_to_list (tick_packet (session_at m at)) else [])) h
        ∙ ap (λ (c : ClientId). packets_to client m ++ option_to_list (tick_packet (session_at m c))) (same-client at client h)
        ∙ sym (ap (λ (q : Bool). packets_to client m ++ (if q then [] else option_to_list (tick_packet (session_at m client)))) present)
    by false false e h =
        put-to client at m.sent (option_to_list (tick_packet (session_at m at))) (oldest-each (λ q. q.to ≡ Client at) (session_at m at) (session_at m at).bodies (λ t n body. peer))
        ∙ ap (λ (q : Bool). packets_to client m ++ (if q then option_to_list (tick_packet (session_at m at)) else [])) h

again-out : (server : ServerId) (view : View) (volume : Volume) (m : Mail) (at : ClientId) → at.0 < clients → IsBetween server at view (session_at m at) → AllGoOut server view m → AllGoOut server view (after_tick_to volume m at)
again-out server view volume m at within between out = by (is_purged volume at)
  where
    by : (t : Bool) → AllGoOut server view (if t then m else after_resending m at)
    by true = out
    by false = each-append (GoesOut server view) m.sent _ out (oldest-each (GoesOut server view) (session_at m at) (session_at m at).bodies (made-out server at view (session_at m at) within between))

-- a client is below a number, or the next one, or neither
joined : (client number : ℕ) (packets before : List Packet)
    → before ++ (if nat_lt client number then packets else []) ++ (if nat_eq number client then packets else []) ≡ before ++ (if nat_lt client (number + 1) then packets else [])
joined client number packets before =
    elim (cases_lt client number) as (λ _. before ++ (if nat_lt client number then packets else []) ++ (if nat_eq number client then packets else []) ≡ before ++ (if nat_lt client (number + 1) then packets else [])) [
      | inl below ↦
          by true false true (grind (arith, nat_tests, below)) (grind (arith, nat_tests, below)) (grind (arith, nat_tests, below)) (append-nil (before ++ packets))
      | inr past ↦
          elim (cases_eq client number) as (λ _. before ++ (if nat_lt client number then packets else []) ++ (if nat_eq number client then packets else []) ≡ before ++ (if nat_lt client (number + 1) then packets else [])) [
            | inl same ↦ by false true true (grind (arith, nat_tests, same)) (grind (arith, nat_tests, same)) (grind (arith, nat_tests, same)) (ap (λ (list : List Packet). list ++ packets) (append-nil before))
            | inr apart ↦ by false false false (grind (arith, nat_tests, past, apart)) (grind (arith, nat_tests, past, apart)) (grind (arith, nat_tests, past, apart)) (append-nil (before ++ []))
          ]
    ]
  where
    by : (a b t : Bool) → nat_lt client number ≡ a → nat_eq number client ≡ b → nat_lt client (number + 1) ≡ t → before ++ (if a then packets else []) ++ (if b then packets else []) ≡ before ++ (if t then packets else [])
        → before ++ (if nat_lt client number then packets else []) ++ (if nat_eq number client then packets else []) ≡ before ++ (if nat_lt client (number + 1) then packets else [])
    by a b t x y z so = rw (x, y, z) so

pub resent-more : (volume : Volume) (old mid new : Mail) (number : ℕ) → number < clients → ResentBelow volume old number mid → new ≡ after_tick_to volume mid (record { 0 = number }) → ResentBelow volume old (number + 1) new
resent-more volume old mid new number within so is = record {
  sessions = ap (λ (m : Mail). m.sessions) is ∙ same-sessions volume mid (record { 0 = number }) ∙ so.sessions;
  sent = λ server view client between.
      let as-old : (c : ClientId) → session_at mid c ≡ session_at old c = λ c. ap (λ (list : List SessionState). get_or list c.0 no_session) so.sessions in
      let peer : (session_at mid (record { 0 = number })).peer ≡ Client (record { 0 = number }) = ap (λ (s : SessionState). s.peer) (as-old (record { 0 = number })) ∙ (between.each (record { 0 = number }) within).peer in
      ap (packets_to client) is
      ∙ put-again volume mid (record { 0 = number }) client peer
      ∙ ap (λ (list : List Packet). list ++ (if nat_eq number client.0 then resent volume mid client else [])) (so.sent server view client between)
      ∙ ap (λ (s : SessionState). packets_to client old ++ (if nat_lt client.0 number then resent volume old client else []) ++ (if nat_eq number client.0 then (if is_purged volume client then [] else option_to_list (tick_packet s)) else [])) (as-old client)
      ∙ joined client.0 number (resent volume old client) (packets_to client old);
  out = λ server view between out.
      let at-old : session_at mid (record { 0 = number }) ≡ session_at old (record { 0 = number }) = ap (λ (list : List SessionState). get_or list number no_session) so.sessions in
      subst (AllGoOut server view) (sym is)
      (again-out server view volume mid (record { 0 = number }) within (subst (IsBetween server (record { 0 = number }) view) (sym at-old) (between.each (record { 0 = number }) within)) (so.out server view between out));
}

-- all are
pub resent-all : (server : ServerId) (view : View) (volume : Volume) (old new : Mail) (number : ℕ) (client : ClientId) → ResentBelow volume old number new → client.0 < number → AreBetween server view old
    → packets_to client new ≡ packets_to client old ++ resent volume old client
resent-all server view volume old new number client so below between =
    let test : nat_lt client.0 number ≡ true = grind (arith, nat_tests, below) in
    so.sent server view client between ∙ ap (λ (t : Bool). packets_to client old ++ (if t then resent volume old client else [])) test
