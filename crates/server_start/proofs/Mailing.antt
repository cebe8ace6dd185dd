-- The sessions of a view as it begins, with the Asks of some clients.
use Rattle.std.proofs.Common.{◌≡◌, ◌≢◌, ◌<◌, ◌≤◌, ◌+◌, ◌^◌, ◌∷◌, ◌++◌, ◌&&◌, inl, inr, [], ℕ, zero, suc, Bool, true, false, not, if◌then◌else◌, List, length, get_or, slice_set, filter, map, nat_eq, nat_lt, append-nil, ap, refl, subst, sym, ◌∙◌, arith}
use Rattle.std.specs.Option.{option_to_list}
use Rattle.std.proofs.Math.Seq.{get_or-append_seam}
use Rattle.std.proofs.lemmas.Bool.{cases_eq, cases_lt, eq-eqb, le-ltb, lt-ltb, ne_eqb}
use Rattle.std.proofs.lemmas.List.{ext_get_or, get_or-map, get_or-set_other, get_or-set_same, get_or_append_left, length-append, length-map, length-set, map-append}
use Rattle.std.proofs.lemmas.List.Elements.{filter-append}
use Rattle.cal_base.specs.Limits.{clients}
use Rattle.cal_base.specs.declared.identity.ClientId.{ClientId}
use Rattle.cal_base.specs.declared.identity.ServerId.{ServerId}
use Rattle.cal_base.specs.declared.identity.View.{View}
use Rattle.client_sessions.specs.Mail.{Mail, after_replacing, after_sending, first_mail, is_to, new_sessions, no_session, not_to, session_at, with_session}
use Rattle.message.specs.Spelling.{message_bytes}
use Rattle.message.specs.declared.message.Message.TheVariants.{Ask}
use Rattle.session.specs.Session.{SessionState, after_send, sent_packet}
use Rattle.session.specs.declared.packet.Packet.{Packet}
use Rattle.token_table.specs.Blockers.{clients_below}
use Rattle.server_start.specs.Asks.{ask_packet, asked_if, mail_asking, session_with}
use Rattle.server_start.specs.Turns.{TakesBack, asked_below}

-- there are so many clients below a number, each in its place
below-count : (n : ℕ) → length (clients_below n) ≡ n
unfolding clients_below
below-count zero = refl
below-count (suc n) =
    let before = below-count n in
    let longer = length-append (clients_below n) (record { 0 = n } ∷ []) in
    omega (arith, before, longer)

below-at : (n c : ℕ) (d : ClientId) → c < n → get_or (clients_below n) c d ≡ record { 0 = c }
unfolding clients_below
below-at zero c d within = absurd (omega (arith, within))
below-at (suc n) c d within = elim (cases_lt c n) as (λ _. get_or (clients_below n ++ record { 0 = n } ∷ []) c d ≡ record { 0 = c }) [
  | inl lower ↦
      let count = below-count n in
      get_or_append_left (clients_below n) (record { 0 = n } ∷ []) d c (omega (arith, lower, count)) ∙ below-at n c d lower
  | inr past ↦
      let same : n ≡ c = omega (arith, within, past) in
      let last : get_or (clients_below n ++ record { 0 = n } ∷ []) (length (clients_below n)) d ≡ record { 0 = n } = get_or-append_seam (clients_below n) (record { 0 = n }) [] d in
      subst (λ (k : ℕ). get_or (clients_below n ++ record { 0 = n } ∷ []) k d ≡ record { 0 = k }) same
      (subst (λ (k : ℕ). get_or (clients_below n ++ record { 0 = n } ∷ []) k d ≡ record { 0 = n }) (below-count n) last)
]

-- what stands in a client's place, where each client has something
pub map-at : (g : ClientId → SessionState) (c : ℕ) (d : SessionState) → c < clients → get_or (map g (clients_below clients)) c d ≡ g (record { 0 = c })
map-at g c d within =
    let count = below-count clients in
    get_or-map g (clients_below clients) c (record { 0 = c }) d (omega (arith, count, within)) ∙ ap g (below-at clients c (record { 0 = c }) within)

pub map-count : (g : ClientId → SessionState) → length (map g (clients_below clients)) ≡ clients
map-count g = length-map (clients_below clients) g ∙ below-count clients

-- one of them is set
map-set : (g h : ClientId → SessionState) (c : ℕ) (x : SessionState) → c < clients → x ≡ h (record { 0 = c }) → ((other : ClientId) → other.0 ≢ c → g other ≡ h other) → slice_set (map g (clients_below clients)) c x ≡ map h (clients_below clients)
map-set g h c x within put others =
    let long = length-set (map g (clients_below clients)) c x ∙ map-count g in
    ext_get_or no_session (slice_set (map g (clients_below clients)) c x) (map h (clients_below clients)) (long ∙ sym (map-count h)) (λ i lower.
    elim (cases_eq i c) as (λ _. get_or (slice_set (map g (clients_below clients)) c x) i no_session ≡ get_or (map h (clients_below clients)) i no_session) [
      | inl same ↦
          let count = map-count g in
          subst (λ (k : ℕ). get_or (slice_set (map g (clients_below clients)) c x) k no_session ≡ get_or (map h (clients_below clients)) k no_session) (sym same)
          (get_or-set_same (map g (clients_below clients)) c x no_session (omega (arith, count, within)) ∙ put ∙ sym (map-at h c no_session within))
      | inr apart ↦
          let bound : i < clients = omega (arith, lower, long) in
          get_or-set_other (map g (clients_below clients)) c i x no_session apart ∙ map-at g i no_session bound ∙ others (record { 0 = i }) apart ∙ sym (map-at h i no_session bound)
    ])

map-same : (g h : ClientId → SessionState) → ((client : ClientId) → client.0 < clients → g client ≡ h client) → map g (clients_below clients) ≡ map h (clients_below clients)
map-same g h same =
    ext_get_or no_session (map g (clients_below clients)) (map h (clients_below clients)) (map-count g ∙ sym (map-count h)) (λ i lower.
    let count = map-count g in
    let bound : i < clients = omega (arith, lower, count) in
    map-at g i no_session bound ∙ same (record { 0 = i }) bound ∙ sym (map-at h i no_session bound))

-- tests that agree below a number keep the same clients below it
keeps-same : (p q : ClientId → Bool) (n : ℕ) → ((client : ClientId) → client.0 < n → p client ≡ q client) → filter p (clients_below n) ≡ filter q (clients_below n)
unfolding clients_below
keeps-same p q zero same = refl
keeps-same p q (suc n) same =
    filter-append p (clients_below n) (record { 0 = n } ∷ [])
    ∙ ap (λ (cs : List ClientId). cs ++ filter p (record { 0 = n } ∷ [])) (keeps-same p q n (λ client lower. same client (omega (arith, lower))))
    ∙ ap (λ (b : Bool). filter q (clients_below n) ++ (if b then record { 0 = n } ∷ [] else [])) (same (record { 0 = n }) (omega arith))
    ∙ sym (filter-append q (clients_below n) (record { 0 = n } ∷ []))

-- so they ask the same
mail-same : (id : ServerId) (view : View) (p q : ClientId → Bool) → ((client : ClientId) → client.0 < clients → p client ≡ q client) → mail_asking id view p ≡ mail_asking id view q
mail-same id view p q same =
    ap (λ (ss : List SessionState). record { sessions = ss; sent = map (ask_packet id view) (filter p (clients_below clients)) })
    (map-same (λ client. asked_if id view (p client) client) (λ client. asked_if id view (q client) client) (λ client lower. ap (λ (b : Bool). asked_if id view b client) (same client lower)))
    ∙ ap (λ (cs : List ClientId). record { sessions = map (λ client. asked_if id view (q client) client) (clients_below clients); sent = map (ask_packet id view) cs }) (keeps-same p q clients same)

-- the first clients alone
abbrev pub first_ones : ℕ → ClientId → Bool
first_ones n client = nat_lt client.0 n

passes-none : (p : ClientId → Bool) → ((client : ClientId) → p client ≡ false) → (cs : List ClientId) → filter p cs ≡ []
passes-none p none [] = refl
passes-none p none (c ∷ cs) = ap (λ (b : Bool). if b then c ∷ filter p cs else filter p cs) (none c) ∙ passes-none p none cs

new-map : (id : ServerId) (view : View) (n : ℕ) → new_sessions id view n ≡ map (session_with id view) (clients_below n)
unfolding new_sessions clients_below
new-map id view zero = refl
new-map id view (suc n) =
    ap (λ (ss : List SessionState). ss ++ session_with id view (record { 0 = n }) ∷ []) (new-map id view n) ∙ sym (map-append (session_with id view) (clients_below n) (record { 0 = n } ∷ []))

-- nobody is asked yet
pub asks-none : (id : ServerId) (view : View) (mail : Mail) → mail ≡ first_mail id view → mail ≡ mail_asking id view (first_ones 0)
asks-none id view mail is =
    let none : (client : ClientId) → first_ones 0 client ≡ false = λ client. le-ltb client.0 0 (omega arith) in
    is
    ∙ ap (λ (ss : List SessionState). record { sessions = ss; sent = [] })
    (new-map id view clients ∙ map-same (session_with id view) (λ client. asked_if id view (first_ones 0 client) client) (λ client lower. ap (λ (b : Bool). asked_if id view b client) (sym (none client))))
    ∙ ap (λ (cs : List ClientId). record { sessions = map (λ client. asked_if id view (first_ones 0 client) client) (clients_below clients); sent = map (ask_packet id view) cs }) (sym (passes-none (first_ones 0) none (clients_below clients)))

-- what is kept of clients by a number
keeps-first : (n k : ℕ) → n ≤ k → filter (first_ones n) (clients_below k) ≡ clients_below n
unfolding clients_below
keeps-first n zero few =
    let none : n ≡ 0 = omega (arith, few) in
    ap clients_below (sym none)
keeps-first n (suc k) few = elim (cases_lt k n) as (λ _. filter (first_ones n) (clients_below (suc k)) ≡ clients_below n) [
  | inl all ↦
      let same : n ≡ suc k = omega (arith, few, all) in
      filter-append (first_ones n) (clients_below k) (record { 0 = k } ∷ [])
      ∙ ap (λ (b : Bool). filter (first_ones n) (clients_below k) ++ (if b then record { 0 = k } ∷ [] else [])) (lt-ltb k n all)
      ∙ ap (λ (cs : List ClientId). cs ++ record { 0 = k } ∷ []) (keeps-same (first_ones n) (first_ones k) k (λ client lower. lt-ltb client.0 n (omega (arith, lower, all)) ∙ sym (lt-ltb client.0 k lower)) ∙ keeps-first k k (omega arith))
      ∙ ap clients_below (sym same)
  | inr past ↦
      filter-append (first_ones n) (clients_below k) (record { 0 = k } ∷ [])
      ∙ ap (λ (b : Bool). filter (first_ones n) (clients_below k) ++ (if b then record { 0 = k } ∷ [] else [])) (le-ltb k n past)
      ∙ append-nil (filter (first_ones n) (clients_below k))
      ∙ keeps-first n k past
]

below-more : (k : ℕ) → clients_below (suc k) ≡ clients_below k ++ record { 0 = k } ∷ []
unfolding clients_below
below-more k = refl

-- another client is one of the first as before
same-first : (n c : ℕ) → c ≢ n → nat_lt c n ≡ nat_lt c (n + 1)
same-first n c apart = elim (cases_lt c n) as (λ _. nat_lt c n ≡ nat_lt c (n + 1)) [
  | inl lower ↦ lt-ltb c n lower ∙ sym (lt-ltb c (n + 1) (omega (arith, lower)))
  | inr past ↦ le-ltb c n past ∙ sym (le-ltb c (n + 1) (omega (arith, past, apart)))
]

-- one client more is asked
pub asks-next : (id : ServerId) (view : View) (n : ℕ) (mail after : Mail) → n < clients → mail ≡ mail_asking id view (first_ones n) → after ≡ after_sending mail (record { 0 = n }) (message_bytes Ask) → after ≡ mail_asking id view (first_ones (n + 1))
asks-next id view n mail after within is sends =
    let g : ClientId → SessionState = λ client. asked_if id view (first_ones n client) client in
    let h : ClientId → SessionState = λ client. asked_if id view (first_ones (n + 1) client) client in
    let client : ClientId = record { 0 = n } in
    let at : session_at (mail_asking id view (first_ones n)) client ≡ session_with id view client = map-at g n no_session within ∙ ap (λ (b : Bool). asked_if id view b client) (le-ltb n n (omega arith)) in
    let put : after_send (session_at (mail_asking id view (first_ones n)) client) (message_bytes Ask) ≡ h client
    = ap (λ (s : SessionState). after_send s (message_bytes Ask)) at ∙ ap (λ (b : Bool). asked_if id view b client) (sym (lt-ltb n (n + 1) (omega arith))) in
    let others : (other : ClientId) → other.0 ≢ n → g other ≡ h other = λ other apart. ap (λ (b : Bool). asked_if id view b other) (same-first n other.0 apart) in
    let next : n + 1 ≡ suc n = omega arith in
    let sessions = map-set g h n (after_send (session_at (mail_asking id view (first_ones n)) client) (message_bytes Ask)) within put others in
    let sent : map (ask_packet id view) (filter (first_ones n) (clients_below clients)) ++ ask_packet id view client ∷ [] ≡ map (ask_packet id view) (filter (first_ones (n + 1)) (clients_below clients))
    = ap (λ (cs : List ClientId). map (ask_packet id view) cs ++ ask_packet id view client ∷ []) (keeps-first n clients (omega (arith, within)))
    ∙ sym (map-append (ask_packet id view) (clients_below n) (client ∷ []))
    ∙ ap (λ (cs : List ClientId). map (ask_packet id view) cs) (sym (below-more n) ∙ ap clients_below (sym next) ∙ sym (keeps-first (n + 1) clients (omega (arith, within)))) in
    sends
    ∙ ap (λ (m : Mail). after_sending m client (message_bytes Ask)) is
    ∙ ap (λ (s : SessionState). record { sessions = slice_set (map g (clients_below clients)) n (after_send (session_at (mail_asking id view (first_ones n)) client) (message_bytes Ask)); sent = map (ask_packet id view) (filter (first_ones n) (clients_below clients)) ++ option_to_list (sent_packet s (message_bytes Ask)) }) at
    ∙ ap (λ (ss : List SessionState). record { sessions = ss; sent = map (ask_packet id view) (filter (first_ones n) (clients_below clients)) ++ ask_packet id view client ∷ [] }) sessions
    ∙ ap (λ (ps : List Packet). record { sessions = map h (clients_below clients); sent = ps }) sent

-- all are asked
pub asks-everyone : (id : ServerId) (view : View) (n : ℕ) (mail : Mail) → clients ≤ n → mail ≡ mail_asking id view (first_ones n) → mail ≡ mail_asking id view (λ client. true)
asks-everyone id view n mail all is = is ∙ mail-same id view (first_ones n) (λ client. true) (λ client lower. lt-ltb client.0 n (omega (arith, lower, all)))

-- the next client's session has made no step yet
pub next-steps : (id : ServerId) (view : View) (n : ℕ) (mail : Mail) → n < clients → mail ≡ mail_asking id view (first_ones n) → (session_at mail (record { 0 = n })).steps < 2 ^ 60
next-steps id view n mail within is =
    let at : session_at mail (record { 0 = n }) ≡ session_with id view (record { 0 = n })
    = ap (λ (m : Mail). session_at m (record { 0 = n })) is ∙ map-at (λ client. asked_if id view (first_ones n client) client) n no_session within ∙ ap (λ (b : Bool). asked_if id view b (record { 0 = n })) (le-ltb n n (omega arith)) in
    let none = ap (λ (s : SessionState). s.steps) at in
    omega (arith, none)

-- nobody's Ask was taken back yet
pub takes-none : (id : ServerId) (view : View) (test : ClientId → Bool) (mail others : Mail) → mail ≡ mail_asking id view (λ client. true) → others ≡ first_mail id view → TakesBack id view test 0 mail others
takes-none id view test mail others asking fresh = record {
  asking = asking ∙ mail-same id view (λ client. true) (asked_below 0 test) (λ client lower. ap (λ (b : Bool). if b then test client else true) (sym (le-ltb client.0 0 (omega arith))));
  fresh = λ client lower first.
      ap (λ (m : Mail). session_at m client) fresh ∙ ap (λ (ss : List SessionState). get_or ss client.0 no_session) (new-map id view clients) ∙ map-at (session_with id view) client.0 no_session lower;
}

-- all that are to be taken back were
pub takes-all : (id : ServerId) (view : View) (test : ClientId → Bool) (n : ℕ) (mail others : Mail) → clients ≤ n → TakesBack id view test n mail others → mail ≡ mail_asking id view test
takes-all id view test n mail others all is = is.asking ∙ mail-same id view (asked_below n test) test (λ client lower. ap (λ (b : Bool). if b then test client else true) (lt-ltb client.0 n (omega (arith, lower, all))))

below-other : (n : ℕ) (test : ClientId → Bool) (client : ClientId) → client.0 ≢ n → asked_below n test client ≡ asked_below (n + 1) test client
below-other n test client apart = ap (λ (b : Bool). if b then test client else true) (same-first n client.0 apart)

below-this : (n : ℕ) (test : ClientId → Bool) (client : ClientId) → client.0 ≡ n → asked_below (n + 1) test client ≡ test client
below-this n test client same = ap (λ (b : Bool). if b then test client else true) (lt-ltb client.0 (n + 1) (omega (arith, same)))

past-this : (n : ℕ) (test : ClientId → Bool) (client : ClientId) → client.0 ≡ n → asked_below n test client ≡ true
past-this n test client same = ap (λ (b : Bool). if b then test client else true) (le-ltb client.0 n (omega (arith, same)))

-- packets that are taken from those of some clients
pub untold : (ask : ClientId → Packet) (p : ClientId → Bool) (r : Packet → Bool) (cs : List ClientId) → filter r (map ask (filter p cs)) ≡ map ask (filter (λ c. p c && r (ask c)) cs)
untold ask p r [] = refl
untold ask p r (c ∷ cs) = by (p c) (untold ask p r cs)
  where
    more : (b : Bool) → filter r (map ask (filter p cs)) ≡ map ask (filter (λ x. p x && r (ask x)) cs)
        → (if b then ask c ∷ filter r (map ask (filter p cs)) else filter r (map ask (filter p cs))) ≡ map ask (if b then c ∷ filter (λ x. p x && r (ask x)) cs else filter (λ x. p x && r (ask x)) cs)
    more true rest = ap (λ (ps : List Packet). ask c ∷ ps) rest
    more false rest = rest

    by : (a : Bool) → filter r (map ask (filter p cs)) ≡ map ask (filter (λ x. p x && r (ask x)) cs)
        → filter r (map ask (if a then c ∷ filter p cs else filter p cs)) ≡ map ask (if a && r (ask c) then c ∷ filter (λ x. p x && r (ask x)) cs else filter (λ x. p x && r (ask x)) cs)
    by true rest = more (r (ask c)) rest
    by false rest = rest

-- an Ask is for its client
asks-for : (id : ServerId) (view : View) (to client : ClientId) → is_to to (ask_packet id view client) ≡ nat_eq client.0 to.0
asks-for id view to client = refl

and-not : (a b : Bool) → b ≡ true → (a && not b) ≡ false
and-not true b is = ap not is
and-not false b is = refl

and-still : (a b : Bool) → b ≡ false → (a && not b) ≡ a
and-still true b is = ap not is
and-still false b is = refl

-- one client is looked at: its Ask is taken back, unless it was asked
pub takes-more : (id : ServerId) (view : View) (test : ClientId → Bool) (n : ℕ) (asked : Bool) (mail others mail' others' : Mail) → n < clients → test (record { 0 = n }) ≡ asked
    → mail' ≡ (if asked then mail else after_replacing mail (record { 0 = n }) (session_at others (record { 0 = n })))
    → others' ≡ (if asked then others else with_session others (record { 0 = n }) (session_at mail (record { 0 = n })))
    → TakesBack id view test n mail others → TakesBack id view test (n + 1) mail' others'
takes-more id view test n true mail others mail' others' within passes now given is = record {
  asking = now ∙ is.asking ∙ mail-same id view (asked_below n test) (asked_below (n + 1) test) (λ client lower.
      elim (cases_eq client.0 n) as (λ _. asked_below n test client ≡ asked_below (n + 1) test client) [
        | inl same ↦ past-this n test client same ∙ sym passes ∙ ap (λ (k : ℕ). test (record { 0 = k })) (sym same) ∙ sym (below-this n test client same)
        | inr apart ↦ below-other n test client apart
      ]);
  fresh = λ client lower first. ap (λ (m : Mail). session_at m client) given ∙ is.fresh client lower (omega (arith, first));
}
takes-more id view test n false mail others mail' others' within fails now given is =
    let client : ClientId = record { 0 = n } in
    let p = asked_below n test in
    let q = asked_below (n + 1) test in
    let g : ClientId → SessionState = λ c. asked_if id view (p c) c in
    let h : ClientId → SessionState = λ c. asked_if id view (q c) c in
    let put : session_at others client ≡ h client = is.fresh client within (omega arith) ∙ ap (λ (b : Bool). asked_if id view b client) (sym (below-this n test client refl ∙ fails)) in
    let sessions : slice_set (map g (clients_below clients)) n (session_at others client) ≡ map h (clients_below clients)
    = map-set g h n (session_at others client) within put (λ other apart. ap (λ (b : Bool). asked_if id view b other) (below-other n test other apart)) in
    let agree : (c : ClientId) → c.0 < clients → (p c && not (is_to client (ask_packet id view c))) ≡ q c
    = λ c lower. elim (cases_eq c.0 n) as (λ _. (p c && not (is_to client (ask_packet id view c))) ≡ q c) [
      | inl same ↦ and-not (p c) (is_to client (ask_packet id view c)) (asks-for id view client c ∙ eq-eqb c.0 n same) ∙ sym fails ∙ ap (λ (k : ℕ). test (record { 0 = k })) (sym same) ∙ sym (below-this n test c same)
      | inr apart ↦ and-still (p c) (is_to client (ask_packet id view c)) (asks-for id view client c ∙ ne_eqb c.0 n apart) ∙ below-other n test c apart
    ] in
    let sent : not_to client (map (ask_packet id view) (filter p (clients_below clients))) ≡ map (ask_packet id view) (filter q (clients_below clients))
    = untold (ask_packet id view) p (λ packet. not (is_to client packet)) (clients_below clients) ∙ ap (λ (cs : List ClientId). map (ask_packet id view) cs) (keeps-same (λ c. p c && not (is_to client (ask_packet id view c))) q clients agree) in
    record {
      asking =
          now
          ∙ ap (λ (m : Mail). after_replacing m client (session_at others client)) is.asking
          ∙ ap (λ (ss : List SessionState). record { sessions = ss; sent = not_to client (map (ask_packet id view) (filter p (clients_below clients))) }) sessions
          ∙ ap (λ (ps : List Packet). record { sessions = map h (clients_below clients); sent = ps }) sent;
      fresh = λ c lower first.
          let apart : c.0 ≢ n = λ same. omega (arith, same, first) in
          ap (λ (m : Mail). session_at m c) given ∙ get_or-set_other others.sessions n c.0 (session_at mail client) no_session apart ∙ is.fresh c lower (omega (arith, first));
    }
