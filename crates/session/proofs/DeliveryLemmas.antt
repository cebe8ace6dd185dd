-- Both directions of a session keep what the law says, event by event.
use Rattle.std.proofs.Common.{◌≡◌, ◌⊎◌, ◌+◌, ◌<◌, ◌≤◌, ◌++◌, ◌∷◌, [], ℕ, zero, suc, Bool, true, false, Option, Some, None, List, length, take, drop, nat_lt, if◌then◌else◌, refl, sym, ap, ◌∙◌, arith, subst, inl, inr, append_assoc, append-nil, length-append}
use Rattle.std.specs.Prelude.{slice_get, option_to_list}
use Rattle.std.proofs.lemmas.List.{length-take, take-append-drop, take_at}
use borrow.Author.Tests.{eqb-true, ltb-true}
use Rattle.cal_base.specs.declared.identity.NodeId.{NodeId}
use Rattle.cal_base.specs.declared.identity.View.{View}
use Rattle.session.specs.declared.packet.Packet.{Packet}
use Rattle.session.specs.Session.{SessionState, queued, numbered, packet_of, packets_from, bare_ack_of, sent_packet, oldest_packet, tick_packet, is_next, taken_after, newly_acknowledged, opened_packets}
use Rattle.session.specs.Delivery.{End, Link, Side, Left, Right, Event, Send, Comes, Tick, Acknowledge, new_end, new_link, comes, happens, happens_at, run, WasSent, IsPrefix, Delivers}

-- a packet's message stands among those that were sent, at its number
pub record Spelled (sent : List (List ℕ)) (limit : ℕ) (p : Packet) : Type 0 where
  pub before : List (List ℕ)
  pub after : List (List ℕ)
  pub whole : sent ≡ before ++ p.body ∷ after
  pub number : p.seq ≡ length before + 1
  pub within : p.seq ≤ limit

-- a packet carries no message, or one of those that were sent
abbrev pub Known : List (List ℕ) → ℕ → Packet → Type 0
Known sent limit p = (p.seq ≡ 0) ⊎ Spelled sent limit p

-- a packet goes from this end to its peer
pub record IsFrom (s : SessionState) (p : Packet) : Type 0 where
  pub from : p.from ≡ s.me
  pub to : p.to ≡ s.peer
  pub view : p.view ≡ s.view

-- two ends are each other's peer
pub record ArePeers (s t : SessionState) : Type 0 where
  pub from : s.me ≡ t.peer
  pub to : s.peer ≡ t.me
  pub view : s.view ≡ t.view

-- one direction: what `a` sent and `b` took
pub record Flow (a b : End) : Type 0 where
  pub done : List (List ℕ)
  pub whole : a.sent ≡ done ++ a.session.bodies
  pub count : length done ≡ a.session.acknowledged
  pub known : (p : Packet) → WasSent p a.packets → Known a.sent (a.session.acknowledged + 8) p
  pub ours : (p : Packet) → WasSent p a.packets → IsFrom a.session p
  pub peers : ArePeers a.session b.session
  pub taken : b.session.taken ≡ length b.taken
  pub prefix : IsPrefix b.taken a.sent

-- sent among the first or among the last
sent_cases : (p : Packet) (xs ys : List Packet) → WasSent p (xs ++ ys) → WasSent p xs ⊎ WasSent p ys
sent_cases p [] ys h = inr h
sent_cases p (x ∷ xs) ys (inl e) = inl (inl e)
sent_cases p (x ∷ xs) ys (inr h) = elim (sent_cases p xs ys h) [ inl a ↦ inl (inr a) | inr b ↦ inr b ]

-- what is at a place was sent
sent_at : (xs : List Packet) (i : ℕ) (p : Packet) → slice_get xs i ≡ Some p → WasSent p xs
sent_at [] i p h = cc
sent_at (x ∷ xs) zero p h = let e : p ≡ x = cc in inl e
sent_at (x ∷ xs) (suc i) p h = inr (sent_at xs i p h)

-- more that is sent, and a further limit, change nothing for a packet
known_more : (sent more : List (List ℕ)) (limit further : ℕ) (p : Packet) → limit ≤ further → Known sent limit p → Known (sent ++ more) further p
known_more sent more limit further p h (inl e) = inl e
known_more sent more limit further p h (inr k) = inr (record {
  before = k.before;
  after = k.after ++ more;
  whole = ap (λ (xs : List (List ℕ)). xs ++ more) k.whole ∙ append_assoc k.before (p.body ∷ k.after) more;
  number = k.number;
  within = (let w = k.within in omega arith);
})

known_further : (sent : List (List ℕ)) (limit further : ℕ) (p : Packet) → limit ≤ further → Known sent limit p → Known sent further p
known_further sent limit further p h (inl e) = inl e
known_further sent limit further p h (inr k) = inr (record { before = k.before; after = k.after; whole = k.whole; number = k.number; within = (let w = k.within in omega arith) })

-- packets of bodies that follow those sent before spell them
known_from : (s : SessionState) (taken number limit : ℕ) (before bodies after : List (List ℕ)) (p : Packet)
    → number ≡ length before + 1 → length before + length bodies ≤ limit → WasSent p (packets_from s taken number bodies)
    → Known (before ++ (bodies ++ after)) limit p
known_from s taken number limit before [] after p e h w = absurd w
known_from s taken number limit before (body ∷ bodies) after p e h (inl same) =
    inr (record {
      before = before;
      after = bodies ++ after;
      whole = ap (λ (b : List ℕ). before ++ b ∷ (bodies ++ after)) (sym (ap (λ (q : Packet). q.body) same));
      number = ap (λ (q : Packet). q.seq) same ∙ e;
      within = (let n : p.seq ≡ number = ap (λ (q : Packet). q.seq) same in omega arith);
    })
known_from s taken number limit before (body ∷ bodies) after p e h (inr w) =
    let regrouped : (before ++ body ∷ []) ++ (bodies ++ after) ≡ before ++ body ∷ (bodies ++ after) = append_assoc before (body ∷ []) (bodies ++ after) in
    let longer : length (before ++ body ∷ []) ≡ length before + 1 = length-append before (body ∷ []) in
    subst (λ (xs : List (List ℕ)). Known xs limit p) regrouped
    (known_from s taken (number + 1) limit (before ++ body ∷ []) bodies after p (omega arith) (omega arith) w)

ours_from : (s : SessionState) (taken number : ℕ) (bodies : List (List ℕ)) (p : Packet) → WasSent p (packets_from s taken number bodies) → IsFrom s p
ours_from s taken number [] p w = absurd w
ours_from s taken number (body ∷ bodies) p (inl e) = record { from = ap (λ (q : Packet). q.from) e; to = ap (λ (q : Packet). q.to) e; view = ap (λ (q : Packet). q.view) e }
ours_from s taken number (body ∷ bodies) p (inr w) = ours_from s taken (number + 1) bodies p w

-- the packet with which a message goes out first
first_known : (s : SessionState) (sent done : List (List ℕ)) (body : List ℕ) (p : Packet) (room : Bool) → nat_lt (length s.bodies) 8 ≡ room
    → sent ≡ done ++ s.bodies → length done ≡ s.acknowledged
    → WasSent p (option_to_list (if room then Some (packet_of s s.taken (s.acknowledged + length s.bodies + 1) body) else None))
    → Known (sent ++ body ∷ []) (s.acknowledged + 8) p × IsFrom s p
first_known s sent done body p false e whole count w = absurd w
first_known s sent done body p true e whole count (inr w) = absurd w
first_known s sent done body p true e whole count (inl same) =
    let few : length s.bodies < 8 = ltb-true _ _ e in
    let long : length sent ≡ s.acknowledged + length s.bodies = ap length whole ∙ omega (arith, length-append done s.bodies) in
    let number : p.seq ≡ s.acknowledged + length s.bodies + 1 = ap (λ (q : Packet). q.seq) same in (
      inr (record {
        before = sent;
        after = [];
        whole = ap (λ (b : List ℕ). sent ++ b ∷ []) (sym (ap (λ (q : Packet). q.body) same));
        number = omega arith;
        within = omega arith;
      }),
      record { from = ap (λ (q : Packet). q.from) same; to = ap (λ (q : Packet). q.to) same; view = ap (λ (q : Packet). q.view) same },
    )

-- the packet with which the oldest message goes out again
oldest_known : (s : SessionState) (sent done bodies : List (List ℕ)) (p : Packet) → sent ≡ done ++ bodies → length done ≡ s.acknowledged
    → WasSent p (option_to_list (oldest_packet s bodies)) → Known sent (s.acknowledged + 8) p × IsFrom s p
oldest_known s sent done [] p whole count w = absurd w
oldest_known s sent done (body ∷ bodies) p whole count (inr w) = absurd w
oldest_known s sent done (body ∷ bodies) p whole count (inl same) =
    let number : p.seq ≡ s.acknowledged + 1 = ap (λ (q : Packet). q.seq) same in (
      inr (record {
        before = done;
        after = bodies;
        whole = whole ∙ ap (λ (b : List ℕ). done ++ b ∷ bodies) (sym (ap (λ (q : Packet). q.body) same));
        number = omega arith;
        within = omega arith;
      }),
      record { from = ap (λ (q : Packet). q.from) same; to = ap (λ (q : Packet). q.to) same; view = ap (λ (q : Packet). q.view) same },
    )

-- the packets of the messages that leave the queue
opened_known : (s : SessionState) (sent done : List (List ℕ)) (taken k : ℕ) (p : Packet) → sent ≡ done ++ s.bodies → length done ≡ s.acknowledged
    → WasSent p (packets_from s taken (numbered s + 1) (take k (queued s))) → Known sent (s.acknowledged + k + 8) p
opened_known s sent done taken k p whole count w =
    let before = done ++ take 8 s.bodies in
    let long : length before ≡ s.acknowledged + length (take 8 s.bodies) = omega (arith, length-append done (take 8 s.bodies)) in
    let eight : length (take 8 s.bodies) ≤ 8 = omega (arith, length-take 8 s.bodies) in
    let few : length (take k (queued s)) ≤ k = omega (arith, length-take k (queued s)) in
    let joined : before ++ (take k (queued s) ++ drop k (queued s)) ≡ sent =
    ap (λ (xs : List (List ℕ)). before ++ xs) (take-append-drop k (queued s))
    ∙ append_assoc done (take 8 s.bodies) (drop 8 s.bodies)
    ∙ ap (λ (xs : List (List ℕ)). done ++ xs) (take-append-drop 8 s.bodies)
    ∙ sym whole in
    subst (λ (xs : List (List ℕ)). Known xs (s.acknowledged + k + 8) p) joined
    (known_from s taken (numbered s + 1) (s.acknowledged + k + 8) before (take k (queued s)) (drop k (queued s)) p (omega arith) (omega arith) w)

-- a packet that comes to the end that sends
sender_comes : (a b : End) (o : Option Packet) → Flow a b → Flow (comes a o) b
sender_comes a b None f = f
sender_comes a b (Some q) f =
    let s = a.session in
    let k = newly_acknowledged s q in
    let some : k ≤ length s.bodies = omega (arith, length-take 8 s.bodies) in
    record {
      done = f.done ++ take k s.bodies;
      whole = f.whole ∙ ap (λ (xs : List (List ℕ)). f.done ++ xs) (sym (take-append-drop k s.bodies)) ∙ sym (append_assoc f.done (take k s.bodies) (drop k s.bodies));
      count = (let c = f.count in omega (arith, length-append f.done (take k s.bodies), length-take k s.bodies));
      known = λ p w. elim (sent_cases p a.packets (opened_packets s q) w) [
        | inl old ↦ known_further a.sent (s.acknowledged + 8) (s.acknowledged + k + 8) p (omega arith) (f.known p old)
        | inr new ↦ opened_known s a.sent f.done (taken_after s q) k p f.whole f.count new
      ];
      ours = λ p w. elim (sent_cases p a.packets (opened_packets s q) w) [
        | inl old ↦ (let o = f.ours p old in record { from = o.from; to = o.to; view = o.view })
        | inr new ↦ (let o = ours_from s (taken_after s q) (numbered s + 1) (take k (queued s)) p new in record { from = o.from; to = o.to; view = o.view })
      ];
      peers = record { from = f.peers.from; to = f.peers.to; view = f.peers.view };
      taken = f.taken;
      prefix = f.prefix;
    }

-- an event at the end that sends
sender : (a b : End) (packets : List Packet) (event : Event) → Flow a b → Flow (happens a packets event) b
sender a b packets (Send body) f =
    let s = a.session in
    record {
      done = f.done;
      whole = ap (λ (xs : List (List ℕ)). xs ++ body ∷ []) f.whole ∙ append_assoc f.done s.bodies (body ∷ []);
      count = f.count;
      known = λ p w. elim (sent_cases p a.packets (option_to_list (sent_packet s body)) w) [
        | inl old ↦ known_more a.sent (body ∷ []) (s.acknowledged + 8) (s.acknowledged + 8) p (omega arith) (f.known p old)
        | inr new ↦ (first_known s a.sent f.done body p (nat_lt (length s.bodies) 8) refl f.whole f.count new).0
      ];
      ours = λ p w. elim (sent_cases p a.packets (option_to_list (sent_packet s body)) w) [
        | inl old ↦ (let o = f.ours p old in record { from = o.from; to = o.to; view = o.view })
        | inr new ↦ (let o = (first_known s a.sent f.done body p (nat_lt (length s.bodies) 8) refl f.whole f.count new).1 in record { from = o.from; to = o.to; view = o.view })
      ];
      peers = record { from = f.peers.from; to = f.peers.to; view = f.peers.view };
      taken = f.taken;
      prefix = (f.prefix.0 ++ body ∷ [], ap (λ (xs : List (List ℕ)). xs ++ body ∷ []) f.prefix.1 ∙ append_assoc b.taken f.prefix.0 (body ∷ []));
    }
sender a b packets (Comes which) f = sender_comes a b (slice_get packets which) f
sender a b packets Tick f =
    let s = a.session in
    record {
      done = f.done;
      whole = f.whole;
      count = f.count;
      known = λ p w. elim (sent_cases p a.packets (option_to_list (tick_packet s)) w) [
        | inl old ↦ f.known p old
        | inr new ↦ (oldest_known s a.sent f.done s.bodies p f.whole f.count new).0
      ];
      ours = λ p w. elim (sent_cases p a.packets (option_to_list (tick_packet s)) w) [
        | inl old ↦ f.ours p old
        | inr new ↦ (oldest_known s a.sent f.done s.bodies p f.whole f.count new).1
      ];
      peers = f.peers;
      taken = f.taken;
      prefix = f.prefix;
    }
sender a b packets Acknowledge f =
    let s = a.session in
    record {
      done = f.done;
      whole = f.whole;
      count = f.count;
      known = λ p w. elim (sent_cases p a.packets (bare_ack_of s ∷ []) w) [
        | inl old ↦ f.known p old
        | inr new ↦ elim new [ inl same ↦ inl (ap (λ (q : Packet). q.seq) same) | inr none ↦ absurd none ]
      ];
      ours = λ p w. elim (sent_cases p a.packets (bare_ack_of s ∷ []) w) [
        | inl old ↦ f.ours p old
        | inr new ↦ ours_from s s.taken 0 ([] ∷ []) p new
      ];
      peers = f.peers;
      taken = f.taken;
      prefix = f.prefix;
    }

-- what the end that takes has taken, after one of these packets
taking : (a b : End) (q : Packet) (next : Bool) → is_next b.session q ≡ next → Flow a b → WasSent q a.packets
    → ((if next then b.session.taken + 1 else b.session.taken) ≡ length (b.taken ++ option_to_list (if next then Some q.body else None)))
    × IsPrefix (b.taken ++ option_to_list (if next then Some q.body else None)) a.sent
taking a b q false e f w = (
  f.taken ∙ ap length (sym (append-nil b.taken)),
  (f.prefix.0, f.prefix.1 ∙ ap (λ (xs : List (List ℕ)). xs ++ f.prefix.0) (sym (append-nil b.taken))),
)
taking a b q true e f w =
    let number : q.seq ≡ b.session.taken + 1 = eqb-true _ _ e in
    let count = f.taken in
    elim (f.known q w) [
      | inl none ↦ absurd (omega arith)
      | inr k ↦ (
          let place = k.number in
          let same_length : length b.taken ≡ length k.before = omega arith in
          let same : k.before ≡ b.taken =
          sym (take_at k.before (q.body ∷ k.after) (length k.before) refl)
          ∙ ap (take (length k.before)) (sym k.whole ∙ f.prefix.1)
          ∙ take_at b.taken f.prefix.0 (length k.before) same_length in (
            omega (arith, length-append b.taken (q.body ∷ [])),
            (k.after, k.whole ∙ ap (λ (xs : List (List ℕ)). xs ++ q.body ∷ k.after) same ∙ sym (append_assoc b.taken (q.body ∷ []) k.after)),
          ))
    ]

-- a packet that comes to the end that takes
receiver_comes : (a b : End) (which : ℕ) (o : Option Packet) → slice_get a.packets which ≡ o → Flow a b → Flow a (comes b o)
receiver_comes a b which None at f = f
receiver_comes a b which (Some q) at f =
    let t = taking a b q (is_next b.session q) refl f (sent_at a.packets which q at) in
    record {
      done = f.done;
      whole = f.whole;
      count = f.count;
      known = f.known;
      ours = f.ours;
      peers = record { from = f.peers.from; to = f.peers.to; view = f.peers.view };
      taken = t.0;
      prefix = t.1;
    }

-- an event at the end that takes
receiver : (a b : End) (event : Event) → Flow a b → Flow a (happens b a.packets event)
receiver a b (Send body) f = record {
  done = f.done;
  whole = f.whole;
  count = f.count;
  known = f.known;
  ours = f.ours;
  peers = record { from = f.peers.from; to = f.peers.to; view = f.peers.view };
  taken = f.taken;
  prefix = f.prefix;
}
receiver a b (Comes which) f = receiver_comes a b which (slice_get a.packets which) refl f
receiver a b Tick f = record {
  done = f.done;
  whole = f.whole;
  count = f.count;
  known = f.known;
  ours = f.ours;
  peers = f.peers;
  taken = f.taken;
  prefix = f.prefix;
}
receiver a b Acknowledge f = record {
  done = f.done;
  whole = f.whole;
  count = f.count;
  known = f.known;
  ours = f.ours;
  peers = f.peers;
  taken = f.taken;
  prefix = f.prefix;
}

-- both directions of a link
pub record Flows (l : Link) : Type 0 where
  pub to_right : Flow l.left l.right
  pub to_left : Flow l.right l.left

flows_at : (l : Link) (side : Side) (event : Event) → Flows l → Flows (happens_at l side event)
flows_at l Left event f = record { to_right = sender l.left l.right l.right.packets event f.to_right; to_left = receiver l.right l.left event f.to_left }
flows_at l Right event f = record { to_right = receiver l.left l.right event f.to_right; to_left = sender l.right l.left l.left.packets event f.to_left }

flows_run : (events : List (Side × Event)) (l : Link) → Flows l → Flows (run events l)
flows_run [] l f = f
flows_run (e ∷ events) l f = flows_run events (happens_at l e.0 e.1) (flows_at l e.0 e.1 f)

flow_new : (me peer : NodeId) (view : View) → Flow (new_end me peer view) (new_end peer me view)
flow_new me peer view = record {
  done = [];
  whole = refl;
  count = refl;
  known = λ p w. absurd w;
  ours = λ p w. absurd w;
  peers = record { from = refl; to = refl; view = refl };
  taken = refl;
  prefix = ([], refl);
}

-- both directions, after all events
pub flows_all : (me peer : NodeId) (view : View) (events : List (Side × Event)) → Flows (run events (new_link me peer view))
flows_all me peer view events = flows_run events (new_link me peer view) (record { to_right = flow_new me peer view; to_left = flow_new peer me view })

-- what a Flow says is what the law says
pub delivers : (a b : End) → Flow a b → Delivers a b
delivers a b f = record {
  prefix = f.prefix;
  session = λ p w. (let o = f.ours p w in record { from = o.from ∙ f.peers.from; to = o.to ∙ f.peers.to; view = o.view ∙ f.peers.view });
  window = λ p w. elim (f.known p w) [ inl e ↦ omega arith | inr k ↦ k.within ];
}
