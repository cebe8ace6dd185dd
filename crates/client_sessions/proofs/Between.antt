-- The sessions of a server stay its own, each with its client.
use Rattle.std.proofs.Common.{◌≡◌, ◌<◌, ◌+◌, ◌++◌, ◌∷◌, [], ℕ, zero, suc, Bool, true, false, List, length, get_or, slice_set, if◌then◌else◌, ap, refl, sym, subst, ◌∙◌, arith, inl, inr}
use Rattle.std.proofs.Math.Seq.{get_or-append_seam}
use Rattle.std.proofs.lemmas.Bool.{cases_eq, cases_lt}
use Rattle.std.proofs.lemmas.List.{get_or-set_other, get_or-set_same, get_or_append_left, length-append, length-set}
use Rattle.cal_base.specs.Limits.{clients}
use Rattle.cal_base.specs.declared.identity.ClientId.{ClientId}
use Rattle.cal_base.specs.declared.identity.NodeId.TheVariants.{Client, Server}
use Rattle.cal_base.specs.declared.identity.ServerId.{ServerId}
use Rattle.cal_base.specs.declared.identity.View.{View}
use Rattle.session.specs.declared.packet.Packet.{Packet}
use Rattle.session.specs.Session.{SessionState, after_packet, after_send, heard, is_of_session, new_session}
use Rattle.client_sessions.specs.Mail.{AreBetween, IsBetween, Mail, after_hearing, after_sending, first_mail, new_sessions, no_session, session_at}

-- there are as many new sessions as clients
pub new-count : (server : ServerId) (view : View) (n : ℕ) → length (new_sessions server view n) ≡ n
unfolding new_sessions
new-count server view zero = refl
new-count server view (suc n) =
    let before = new-count server view n in
    let longer = length-append (new_sessions server view n) (new_session (Server server) (Client (record { 0 = n })) view ∷ []) in
    omega (arith, before, longer)

-- a session more is made
pub new-more : (server : ServerId) (view : View) (n : ℕ) (sessions longer : List SessionState) (s : SessionState) → longer ≡ sessions ++ s ∷ [] → s ≡ new_session (Server server) (Client (record { 0 = n })) view
    → sessions ≡ new_sessions server view n → longer ≡ new_sessions server view (n + 1)
unfolding new_sessions
new-more server view n sessions longer s pushed made before =
    let next : suc n ≡ n + 1 = omega arith in
    rw (pushed, made, before) (ap (new_sessions server view) next)

-- the last of some new sessions is with the client of the last number
new-last : (server : ServerId) (view : View) (n : ℕ)
    → get_or (new_sessions server view n ++ new_session (Server server) (Client (record { 0 = n })) view ∷ []) n no_session ≡ new_session (Server server) (Client (record { 0 = n })) view
new-last server view n =
    let last = new_session (Server server) (Client (record { 0 = n })) view in
    subst (λ (k : ℕ). get_or (new_sessions server view n ++ last ∷ []) k no_session ≡ last) (new-count server view n) (get_or-append_seam (new_sessions server view n) last [] no_session)

-- each new session is with the client of its place
new-between : (server : ServerId) (view : View) (n : ℕ) (client : ClientId) → client.0 < n → IsBetween server client view (get_or (new_sessions server view n) client.0 no_session)
unfolding new_sessions
new-between server view zero client within = absurd (omega (arith, within))
new-between server view (suc n) client within =
    elim (cases_lt client.0 n) as (λ _. IsBetween server client view (get_or (new_sessions server view n ++ new_session (Server server) (Client (record { 0 = n })) view ∷ []) client.0 no_session)) [
      | inl below ↦
          let count = new-count server view n in
          subst (IsBetween server client view) (sym (get_or_append_left (new_sessions server view n) (new_session (Server server) (Client (record { 0 = n })) view ∷ []) no_session client.0 (omega (arith, below, count))))
          (new-between server view n client below)
      | inr past ↦
          let same : n ≡ client.0 = omega (arith, within, past) in
          subst (λ (k : ℕ). IsBetween server (record { 0 = k }) view (get_or (new_sessions server view n ++ new_session (Server server) (Client (record { 0 = n })) view ∷ []) k no_session)) same
          (subst (IsBetween server (record { 0 = n }) view) (sym (new-last server view n)) (record { me = refl; peer = refl; of_view = refl }))
    ]

-- as a view begins, the sessions are those of its server
pub first-between : (server : ServerId) (view : View) → AreBetween server view (first_mail server view)
first-between server view = record { count = new-count server view clients; each = new-between server view clients }

-- a session that is put is of its client, and the others stay
pub put-between : (server : ServerId) (view : View) (m : Mail) (at : ClientId) (s : SessionState) (sent : List Packet) → (at.0 < clients → IsBetween server at view s) → AreBetween server view m
    → AreBetween server view (record { sessions = slice_set m.sessions at.0 s; sent = sent })
put-between server view m at s sent there is = record {
  count = length-set m.sessions at.0 s ∙ is.count;
  each = λ client within.
      elim (cases_eq client.0 at.0) as (λ _. IsBetween server client view (get_or (slice_set m.sessions at.0 s) client.0 no_session)) [
        | inl same ↦
            let count = is.count in
            subst (λ (k : ℕ). IsBetween server (record { 0 = k }) view (get_or (slice_set m.sessions at.0 s) k no_session)) (sym same)
            (subst (IsBetween server at view) (sym (get_or-set_same m.sessions at.0 s no_session (omega (arith, same, within, count)))) (there (omega (arith, same, within))))
        | inr apart ↦ subst (IsBetween server client view) (sym (get_or-set_other m.sessions at.0 client.0 s no_session apart)) (is.each client within)
      ];
}

-- a session stays between its ends as it hears a packet
heard-between : (server : ServerId) (client : ClientId) (view : View) (s : SessionState) (p : Packet) → IsBetween server client view s → IsBetween server client view (heard s p)
heard-between server client view s p is = by (is_of_session s p)
  where
    by : (b : Bool) → IsBetween server client view (if b then after_packet s p else s)
    by true = record { me = is.me; peer = is.peer; of_view = is.of_view }
    by false = is

-- and as it takes a body
send-between : (server : ServerId) (client : ClientId) (view : View) (s : SessionState) (body : List ℕ) → IsBetween server client view s → IsBetween server client view (after_send s body)
send-between server client view s body is = record { me = is.me; peer = is.peer; of_view = is.of_view }

-- all sessions stay so as one of them hears a packet
pub hearing-between : (server : ServerId) (view : View) (m : Mail) (client : ClientId) (p : Packet) → AreBetween server view m → AreBetween server view (after_hearing m client p)
hearing-between server view m client p is =
    put-between server view m client _ _ (λ within. heard-between server client view (session_at m client) p (is.each client within)) is

-- and as one of them takes a body
pub sending-between : (server : ServerId) (view : View) (m : Mail) (client : ClientId) (body : List ℕ) → AreBetween server view m → AreBetween server view (after_sending m client body)
sending-between server view m client body is =
    put-between server view m client _ _ (λ within. send-between server client view (session_at m client) body (is.each client within)) is

-- what is sent says nothing of the sessions
pub sent-between : (server : ServerId) (view : View) (m : Mail) (sent : List Packet) → AreBetween server view m → AreBetween server view (record { sessions = m.sessions; sent = sent })
sent-between server view m sent is = record { count = is.count; each = is.each }
