-- The messages that acts make, each in the session of its client.
use Rattle.std.proofs.Common.{◌≡◌, ◌<◌, ◌≤◌, ◌+◌, ◌^◌, ◌++◌, ◌∷◌, [], ℕ, Bool, true, false, List, All, if◌then◌else◌, nat_eq, length, get_or, slice_set, map, drop, option_to_list, ap, refl, sym, subst, ◌∙◌, arith, inl, inr}
use Rattle.std.proofs.lemmas.List.{append_assoc, append-nil, at_drop_all, drop_more, length-append, length-map}
use Rattle.std.proofs.lemmas.List.Elements.{All-head, All-tail}
use Rattle.cal_base.specs.Limits.{clients}
use Rattle.cal_base.specs.declared.identity.ClientId.{ClientId}
use Rattle.cal_base.specs.declared.identity.NodeId.TheVariants.{Client}
use Rattle.cal_base.specs.declared.identity.ServerId.{ServerId}
use Rattle.cal_base.specs.declared.identity.View.{View}
use Rattle.message.specs.Spelling.{message_bytes}
use Rattle.message.specs.declared.message.Message.{Message}
use Rattle.session.specs.Session.{SessionState, after_send, sent_packet}
use Rattle.session.specs.declared.packet.Packet.{Packet}
use Rattle.client_sessions.specs.Mail.{AreBetween, Mail, after_sending, no_session, session_at}
use Rattle.cluster_law.specs.Ends.{making}
use Rattle.cluster_law.specs.Lanes as law
use Rattle.cluster_law.specs.Lists.{onto}
use Rattle.cluster_law.specs.Sessions.{told_in}
use Rattle.lane_facts.specs.Speaking.{packets_with}
use Rattle.server_draft.specs.Acts.{CanBeDone, act_of, acts_of, tells, told_to}
use Rattle.server_draft.specs.declared.act.Act.{Act}
use Rattle.server_draft.specs.declared.act.Act.TheVariants.{Tells, Commits, Drops}
use Rattle.server_mail.specs.Step.{AllGoOut, GoesOut, HasRoom, after_act, bodies_to, packets_to}
use Rattle.server_mail.proofs.Addressed.{at-set, each-append, lane-test, made-out, put-to, same-client, same-number, sent-each, set-or}

-- the messages of some acts are sent, one after the other
abbrev pub after_acts : Mail → List Act → Mail
after_acts m [] = m
after_acts m (act ∷ acts) = after_acts (after_act m act) acts

-- the messages for a client among them
abbrev messages_for : ℕ → Act → List Message
messages_for client (Tells to message) = if nat_eq to.0 client then message ∷ [] else []
messages_for client (Commits commit) = []
messages_for client Drops = []

abbrev messages_to : ℕ → List Act → List Message
messages_to client [] = []
messages_to client (act ∷ acts) = messages_for client act ++ messages_to client acts

-- the law makes the same on the lane of the client
lane-one : (view client : ℕ) (act : Act) (before : List law.Act)
    → told_in (record { client = client; view = view; way = law.Down }) (act_of view act ∷ before) ≡ told_in (record { client = client; view = view; way = law.Down }) before ++ messages_for client act
unfolding told_in
lane-one view client (Tells to message) before =
    ap (λ (t : Bool). told_in (record { client = client; view = view; way = law.Down }) before ++ (if t then message ∷ [] else [])) (lane-test (nat_eq to.0 client) (nat_eq view view) (same-number view))
lane-one view client (Commits commit) before = sym (append-nil (told_in (record { client = client; view = view; way = law.Down }) before))
lane-one view client Drops before = sym (append-nil (told_in (record { client = client; view = view; way = law.Down }) before))

lane-onto : (view client : ℕ) (acts : List Act) (before : List law.Act)
    → told_in (record { client = client; view = view; way = law.Down }) (onto (map (act_of view) acts) before) ≡ told_in (record { client = client; view = view; way = law.Down }) before ++ messages_to client acts
lane-onto view client [] before = sym (append-nil (told_in (record { client = client; view = view; way = law.Down }) before))
lane-onto view client (act ∷ acts) before =
    lane-onto view client acts (act_of view act ∷ before)
    ∙ ap (λ (list : List Message). list ++ messages_to client acts) (lane-one view client act before)
    ∙ append_assoc (told_in (record { client = client; view = view; way = law.Down }) before) (messages_for client act) (messages_to client acts)

bodies-are : (view : ℕ) (client : ClientId) (acts : List Act) → bodies_to view client acts ≡ map message_bytes (messages_to client.0 acts)
unfolding told_in acts_of
bodies-are view client acts = ap (map message_bytes) (lane-onto view client.0 acts [])

-- as many as are counted
one-count : (client : ℕ) (act : Act) → length (messages_for client act) ≡ tells client act
one-count client (Tells to message) = by (nat_eq to.0 client)
  where
    by : (t : Bool) → length (if t then message ∷ [] else []) ≡ (if t then 1 else 0)
    by true = refl
    by false = refl
one-count client (Commits commit) = refl
one-count client Drops = refl

all-count : (client : ℕ) (acts : List Act) → length (messages_to client acts) ≡ told_to client acts
unfolding told_to
all-count client [] = refl
all-count client (act ∷ acts) =
    let both = length-append (messages_for client act) (messages_to client acts) in
    let first = one-count client act in
    let rest = all-count client acts in
    omega (arith, both, first, rest)

pub bodies-count : (view : ℕ) (client : ClientId) (acts : List Act) → length (bodies_to view client acts) ≡ told_to client.0 acts
bodies-count view client acts = ap length (bodies-are view client acts) ∙ length-map (messages_to client.0 acts) message_bytes ∙ all-count client.0 acts

tells-few : (client : ℕ) (act : Act) → tells client act ≤ 1
tells-few client (Tells to message) = by (nat_eq to.0 client)
  where
    by : (t : Bool) → (if t then 1 else 0) ≤ 1
    by true = omega arith
    by false = omega arith
tells-few client (Commits commit) = omega arith
tells-few client Drops = omega arith

pub told-few : (client : ℕ) (acts : List Act) → told_to client acts ≤ length acts
unfolding told_to
told-few client [] = omega arith
told-few client (act ∷ acts) =
    let one = tells-few client act in
    let rest = told-few client acts in
    omega (arith, one, rest)

-- the sessions stay those of the server
abbrev pub KeepsBetween : ServerId → View → Type 0
KeepsBetween server view = (m : Mail) (client : ClientId) (body : List ℕ) → AreBetween server view m → AreBetween server view (after_sending m client body)

act-between : (server : ServerId) (view : View) → KeepsBetween server view → (m : Mail) (act : Act) → AreBetween server view m → AreBetween server view (after_act m act)
act-between server view keeps m (Tells client message) between = keeps m client (message_bytes message) between
act-between server view keeps m (Commits commit) between = between
act-between server view keeps m Drops between = between

acts-between : (server : ServerId) (view : View) → KeepsBetween server view → (m : Mail) (acts : List Act) → AreBetween server view m → AreBetween server view (after_acts m acts)
acts-between server view keeps m [] between = between
acts-between server view keeps m (act ∷ acts) between = acts-between server view keeps (after_act m act) acts (act-between server view keeps m act between)

-- each session has made the bodies for its client
session-one : (server : ServerId) (view : View) (m : Mail) (act : Act) (client : ClientId) (rest : List Message) → AreBetween server view m → client.0 < clients
    → making (session_at (after_act m act) client) (map message_bytes rest) ≡ making (session_at m client) (map message_bytes (messages_for client.0 act ++ rest))
session-one server view m (Tells at message) client rest between within =
    let count = between.count in
    ap (λ (s : SessionState). making s (map message_bytes rest)) (at-set m.sessions at client (after_send (session_at m at) (message_bytes message)) (omega (arith, count, within)))
    ∙ by (nat_eq at.0 client.0) refl
  where
    by : (t : Bool) → nat_eq at.0 client.0 ≡ t
        → making (if t then after_send (session_at m at) (message_bytes message) else session_at m client) (map message_bytes rest) ≡ making (session_at m client) (map message_bytes ((if t then message ∷ [] else []) ++ rest))
    by true e = ap (λ (c : ClientId). making (after_send (session_at m c) (message_bytes message)) (map message_bytes rest)) (same-client at client e)
    by false e = refl
session-one server view m (Commits commit) client rest between within = refl
session-one server view m Drops client rest between within = refl

session-all : (server : ServerId) (view : View) → KeepsBetween server view → (m : Mail) (acts : List Act) (client : ClientId) → AreBetween server view m → client.0 < clients
    → session_at (after_acts m acts) client ≡ making (session_at m client) (map message_bytes (messages_to client.0 acts))
session-all server view keeps m [] client between within = refl
session-all server view keeps m (act ∷ acts) client between within =
    session-all server view keeps (after_act m act) acts client (act-between server view keeps m act between) within
    ∙ session-one server view m act client (messages_to client.0 acts) between within

-- and their packets go to it
packets-one : (server : ServerId) (view : View) (m : Mail) (act : Act) (client : ClientId) (rest : List Message) → CanBeDone act → AreBetween server view m → client.0 < clients
    → packets_to client (after_act m act) ++ packets_with (session_at (after_act m act) client) (map message_bytes rest) ≡ packets_to client m ++ packets_with (session_at m client) (map message_bytes (messages_for client.0 act ++ rest))
unfolding packets_with
packets-one server view m (Tells at message) client rest can between within =
    let count = between.count in
    let sent = option_to_list (sent_packet (session_at m at) (message_bytes message)) in
    ap (λ (list : List Packet). list ++ packets_with (session_at (after_sending m at (message_bytes message)) client) (map message_bytes rest))
    (put-to client at m.sent sent (sent-each (λ q. q.to ≡ Client at) (session_at m at) (message_bytes message) (λ t n body. (between.each at can.0).peer)))
    ∙ ap (λ (s : SessionState). packets_to client m ++ (if nat_eq at.0 client.0 then sent else []) ++ packets_with s (map message_bytes rest))
    (at-set m.sessions at client (after_send (session_at m at) (message_bytes message)) (omega (arith, count, within)))
    ∙ by (nat_eq at.0 client.0) refl
  where
    by : (t : Bool) → nat_eq at.0 client.0 ≡ t
        → packets_to client m ++ (if t then option_to_list (sent_packet (session_at m at) (message_bytes message)) else []) ++ packets_with (if t then after_send (session_at m at) (message_bytes message) else session_at m client) (map message_bytes rest)
        ≡ packets_to client m ++ packets_with (session_at m client) (map message_bytes ((if t then message ∷ [] else []) ++ rest))
    by true e =
        append_assoc (packets_to client m) (option_to_list (sent_packet (session_at m at) (message_bytes message))) (packets_with (after_send (session_at m at) (message_bytes message)) (map message_bytes rest))
        ∙ ap (λ (c : ClientId). packets_to client m ++ (option_to_list (sent_packet (session_at m c) (message_bytes message)) ++ packets_with (after_send (session_at m c) (message_bytes message)) (map message_bytes rest))) (same-client at client e)
    by false e = append_assoc (packets_to client m) [] (packets_with (session_at m client) (map message_bytes rest))
packets-one server view m (Commits commit) client rest can between within = refl
packets-one server view m Drops client rest can between within = refl

packets-all : (server : ServerId) (view : View) → KeepsBetween server view → (m : Mail) (acts : List Act) (client : ClientId) → All CanBeDone acts → AreBetween server view m → client.0 < clients
    → packets_to client (after_acts m acts) ≡ packets_to client m ++ packets_with (session_at m client) (map message_bytes (messages_to client.0 acts))
unfolding packets_with
packets-all server view keeps m [] client can between within = sym (append-nil (packets_to client m))
packets-all server view keeps m (act ∷ acts) client can between within =
    packets-all server view keeps (after_act m act) acts client (All-tail CanBeDone act acts can) (act-between server view keeps m act between) within
    ∙ packets-one server view m act client (messages_to client.0 acts) (All-head CanBeDone act acts can) between within

-- and go out
act-out : (server : ServerId) (view : View) (m : Mail) (act : Act) → CanBeDone act → AreBetween server view m → AllGoOut server view m → AllGoOut server view (after_act m act)
act-out server view m (Tells at message) can between out =
    each-append (GoesOut server view) m.sent _ out (sent-each (GoesOut server view) (session_at m at) (message_bytes message) (made-out server at view (session_at m at) can.0 (between.each at can.0)))
act-out server view m (Commits commit) can between out = out
act-out server view m Drops can between out = out

acts-out : (server : ServerId) (view : View) → KeepsBetween server view → (m : Mail) (acts : List Act) → All CanBeDone acts → AreBetween server view m → AllGoOut server view m → AllGoOut server view (after_acts m acts)
acts-out server view keeps m [] can between out = out
acts-out server view keeps m (act ∷ acts) can between out =
    acts-out server view keeps (after_act m act) acts (All-tail CanBeDone act acts can) (act-between server view keeps m act between) (act-out server view m act (All-head CanBeDone act acts can) between out)

pub acts-go-out : (server : ServerId) (view : View) → KeepsBetween server view → (m new : Mail) (acts : List Act) → new ≡ after_acts m acts → All CanBeDone acts → AreBetween server view m → AllGoOut server view m → AllGoOut server view new
acts-go-out server view keeps m new acts is can between out = subst (AllGoOut server view) (sym is) (acts-out server view keeps m acts can between out)

-- all of it, for what the acts leave
pub acts-keep : (server : ServerId) (view : View) → KeepsBetween server view → (m new : Mail) (acts : List Act) → new ≡ after_acts m acts → AreBetween server view m → AreBetween server view new
acts-keep server view keeps m new acts is between = subst (AreBetween server view) (sym is) (acts-between server view keeps m acts between)

pub acts-make : (server : ServerId) (view : View) → KeepsBetween server view → (m new : Mail) (acts : List Act) (client : ClientId) → new ≡ after_acts m acts → AreBetween server view m → client.0 < clients
    → session_at new client ≡ making (session_at m client) (bodies_to view.0 client acts)
acts-make server view keeps m new acts client is between within =
    ap (λ (k : Mail). session_at k client) is ∙ session-all server view keeps m acts client between within ∙ sym (ap (making (session_at m client)) (bodies-are view.0 client acts))

pub acts-send : (server : ServerId) (view : View) → KeepsBetween server view → (m new : Mail) (acts : List Act) (client : ClientId) → new ≡ after_acts m acts → All CanBeDone acts → AreBetween server view m → client.0 < clients
    → packets_to client new ≡ packets_to client m ++ packets_with (session_at m client) (bodies_to view.0 client acts)
acts-send server view keeps m new acts client is can between within =
    ap (packets_to client) is ∙ packets-all server view keeps m acts client can between within ∙ sym (ap (λ (list : List (List ℕ)). packets_to client m ++ packets_with (session_at m client) list) (bodies-are view.0 client acts))

-- a session makes a step for each body
making-steps : (s : SessionState) (bodies : List (List ℕ)) → (making s bodies).steps ≡ s.steps + length bodies
making-steps s [] = omega arith
making-steps s (body ∷ bodies) = let rest = making-steps (after_send s body) bodies in omega (arith, rest)

pub acts-step : (server : ServerId) (view : View) → KeepsBetween server view → (m new : Mail) (acts : List Act) (client : ClientId) → new ≡ after_acts m acts → AreBetween server view m → client.0 < clients
    → (session_at new client).steps ≡ (session_at m client).steps + told_to client.0 acts
acts-step server view keeps m new acts client is between within =
    ap (λ (s : SessionState). s.steps) (acts-make server view keeps m new acts client is between within)
    ∙ making-steps (session_at m client) (bodies_to view.0 client acts)
    ∙ ap (λ (n : ℕ). (session_at m client).steps + n) (bodies-count view.0 client acts)

room-one : (m : Mail) (act : Act) (client : ClientId) → (session_at (after_act m act) client).steps ≤ (session_at m client).steps + tells client.0 act
room-one m (Tells at message) client =
    elim (set-or m.sessions at.0 client.0 (after_send (session_at m at) (message_bytes message)))
    as (λ _. (get_or (slice_set m.sessions at.0 (after_send (session_at m at) (message_bytes message))) client.0 no_session).steps ≤ (session_at m client).steps + (if nat_eq at.0 client.0 then 1 else 0)) [
      | inl set ↦
          let same : at ≡ client = λ i. record { 0 = set.0 i } in
          let steps = ap (λ (s : SessionState). s.steps) set.1 in
          let old = ap (λ (c : ClientId). (session_at m c).steps) same in
          let test : nat_eq at.0 client.0 ≡ true = ap (λ (n : ℕ). nat_eq at.0 n) (sym set.0) ∙ same-number at.0 in
          rw test (omega (arith, steps, old))
      | inr stays ↦ let steps = ap (λ (s : SessionState). s.steps) stays in omega (arith, steps)
    ]
room-one m (Commits commit) client = omega arith
room-one m Drops client = omega arith

-- there is room for the first act, and then for the rest
pub room-first : (m : Mail) (act : Act) (acts rest : List Act) → acts ≡ act ∷ rest → HasRoom m acts → HasRoom m (act ∷ [])
unfolding told_to
room-first m act acts rest e room client within =
    let all = subst (λ (list : List Act). (session_at m client).steps + told_to client.0 list < 2 ^ 60) e (room client within) in
    omega (arith, all)

pub room-rest : (m new : Mail) (act : Act) (acts rest : List Act) → acts ≡ act ∷ rest → new ≡ after_act m act → HasRoom m acts → HasRoom new rest
unfolding told_to
room-rest m new act acts rest e is room client within =
    let all = subst (λ (list : List Act). (session_at m client).steps + told_to client.0 list < 2 ^ 60) e (room client within) in
    let one = room-one m act client in
    let steps = ap (λ (k : Mail). (session_at k client).steps) is in
    omega (arith, all, one, steps)

-- an act more is sent
pub acts-more : (m new : Mail) (act : Act) (acts rest : List Act) → acts ≡ act ∷ rest → new ≡ after_act m act → after_acts new rest ≡ after_acts m acts
acts-more m new act acts rest e is = ap (λ (k : Mail). after_acts k rest) is ∙ sym (ap (after_acts m) e)

-- the next act of a list
pub act-next : (acts : List Act) (i : ℕ) (act : Act) → i < length acts → act ≡ get_or acts i act → drop i acts ≡ act ∷ drop (i + 1) acts
act-next acts i act inside is = drop_more acts i act inside ∙ ap (λ (a : Act). a ∷ drop (i + 1) acts) (sym is)

-- and none are left at the end
pub acts-done : (m new : Mail) (acts : List Act) (i : ℕ) → length acts ≤ i → after_acts new (drop i acts) ≡ after_acts m acts → new ≡ after_acts m acts
acts-done m new acts i past kept = sym (at_drop_all (after_acts new) acts i past) ∙ kept
