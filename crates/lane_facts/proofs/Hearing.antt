-- What a step hears on the other lane is of the session.
use Rattle.std.proofs.Common.{◌≡◌, ◌+◌, ◌≤◌, ℕ, Bool, true, false, not, ◌&&◌, ◌||◌, if◌then◌else◌, Option, Some, None, List, [], ◌∷◌, refl, sym, ap, ◌∙◌, arith, subst, nat_eq, nat_lt, rules}
use Rattle.std.proofs.lemmas.Bool.{eqb-true}
use Rattle.std.proofs.lemmas.Bool.Decides.{nat_tests}
use Rattle.cal_base.specs.declared.identity.ClientId.{ClientId}
use Rattle.cal_base.specs.declared.identity.NodeId.{NodeId}
use Rattle.cal_base.specs.declared.identity.NodeId.TheVariants.{Client, Server}
use Rattle.cal_base.specs.declared.identity.ServerId.{ServerId}
use Rattle.cal_base.specs.declared.identity.ServerId.TheVariants.{A, B}
use Rattle.session.specs.Session.{SessionState, is_of_session, same_node}
use Rattle.session.specs.declared.packet.Packet.{Packet}
use Rattle.cluster_law.specs.declared.step.Event.{Event}
use Rattle.cluster_law.specs.declared.step.Event.TheVariants.{Start, Deliver, Tick, Crash, NewView, Gone, WriteBack}
use Rattle.cluster_law.specs.Ends.{SessionFits, hearer, speaker}
use Rattle.cluster_law.specs.Lanes.{Lane, Way, Up, Down, back}
use Rattle.cluster_law.specs.Lists.{only_if}
use Rattle.cluster_law.specs.Noted.{Setting, Noted, halts}
use Rattle.cluster_law.specs.Sessions.{client_view, goes_on, heard, heard_in, hears_at, is_lane, lane_between, serves}
use Rattle.cluster_law.specs.Trace.{given, is_server, opened, opens, own_sectors, is_marked, same_server, seat, seat_after, server_of, views}

-- two tests that hold together, hold
both : (a b : Bool) → (a && b) ≡ true → (a ≡ true) × (b ≡ true)
both true b h = (refl, h)
both false b h = cc

-- what both of two choices ask for
common : (a b c d e : Bool) → (a && b || (a && c && d && e)) ≡ true → a ≡ true
common true b c d e h = refl
common false b c d e h = cc

-- three tests that hold, hold together
all-three : (a b c : Bool) → a ≡ true → b ≡ true → c ≡ true → (a && b && c) ≡ true
all-three true true true h k l = refl
all-three true true false h k l = l
all-three true false c h k l = cc
all-three false b c h k l = cc

-- servers that are the same are one
same-server-is : (a b : ServerId) → same_server a b ≡ true → a ≡ b
same-server-is A A h = refl
same-server-is A B h = cc
same-server-is B A h = cc
same-server-is B B h = refl

-- what was not left out was there
not-none : {X : Type 0} (t : Bool) (o : Option X) (x : X) → (if t then None else o) ≡ Some x → o ≡ Some x
not-none true o x h = cc
not-none false o x h = h

-- an option that passed a test
passed : {X : Type 0} (test : X → Bool) (o : Option X) (x : X) → only_if test o ≡ Some x → (o ≡ Some x) × (test x ≡ true)
passed test None x h = cc
passed test (Some y) x h = one (test y) refl h
  where
    one : (t : Bool) → test y ≡ t → (if t then Some y else None) ≡ Some x → (Some y ≡ Some x) × (test x ≡ true)
    one true e g = let q : y ≡ x = cc in (g, subst (λ z. test z ≡ true) q e)
    one false e g = cc

-- the server of a view, which is one of those that were opened
record Seats (view : ℕ) (server of : ServerId) (count : ℕ) : Type 0 where
  pub is : of ≡ server
  pub old : view ≤ count

-- a boot gives its server a new view, and no other event alters who serves which
booted : (server other of : ServerId) (old : Option ℕ) (n view : ℕ) (t : Bool) → same_server server other ≡ t → (old ≡ Some view → Seats view server of n) → (if t then Some (n + 1) else old) ≡ Some view
    → Seats view server (if nat_eq view (n + 1) then other else of) (n + 1)
booted server other of old n view true e f h =
    let new : n + 1 ≡ view = cc in
    record { is = ap (λ (b : Bool). if b then other else of) (let q : nat_eq view (n + 1) ≡ true = grind (arith, nat_tests) in q) ∙ sym (same-server-is server other e); old = omega arith }
booted server other of old n view false e f h =
    let before = f h in
    let low = before.old in
    record { is = ap (λ (b : Bool). if b then other else of) (let q : nat_eq view (n + 1) ≡ false = grind (arith, nat_tests) in q) ∙ before.is; old = omega arith }

-- whoever runs in a view after an event is its server
seat-stays : (server of : ServerId) (old : Option ℕ) (n view : ℕ) (event : Event) → (old ≡ Some view → Seats view server of n) → seat_after server old (n + 1) event ≡ Some view → Seats view server (opened view (n + 1) of event) (n + opens event)
seat-stays server of old n view (NewView other stop) f h = booted server other of old n view (same_server server other) refl f h
seat-stays server of old n view (Crash (Server other)) f h = let b = f (not-none (same_server server other) old view h) in let low = b.old in record { is = b.is; old = omega arith }
seat-stays server of old n view (Crash (Client c)) f h = let b = f h in let low = b.old in record { is = b.is; old = omega arith }
seat-stays server of old n view (Start client call) f h = let b = f h in let low = b.old in record { is = b.is; old = omega arith }
seat-stays server of old n view (Deliver packet stop) f h = let b = f h in let low = b.old in record { is = b.is; old = omega arith }
seat-stays server of old n view (Tick node stop) f h = let b = f h in let low = b.old in record { is = b.is; old = omega arith }
seat-stays server of old n view (Gone client) f h = let b = f h in let low = b.old in record { is = b.is; old = omega arith }
seat-stays server of old n view (WriteBack client fd) f h = let b = f h in let low = b.old in record { is = b.is; old = omega arith }

-- at first a server runs in view 1 alone, which is A's
first-seat : (server : ServerId) (view : ℕ) → seat server [] ≡ Some view → Seats view server A 1
unfolding seat
first-seat A view h = let one : 1 ≡ view = cc in record { is = refl; old = omega arith }
first-seat B view h = cc

-- whoever runs in a view is its server
seated : (server : ServerId) (view : ℕ) (trace : List Noted) → seat server trace ≡ Some view → Seats view server (server_of view trace) (views trace)
unfolding seat server_of views
seated server view [] h = first-seat server view h
seated server view (s ∷ earlier) h = seat-stays server (server_of view earlier) (seat server earlier) (views earlier) view s.step.event (seated server view earlier) (not-none (halts s && is_server s.step.node server) (seat_after server (seat server earlier) (views earlier + 1) s.step.event) view h)

-- a packet comes from the other end of a lane, and is for its speaker
record Comes (lane : Lane) (server : ServerId) (source target : NodeId) (number : ℕ) : Type 0 where
  pub from : source ≡ hearer lane.way lane.client server
  pub to : target ≡ speaker lane.way lane.client server
  pub view : number ≡ lane.view

-- a server hears a client in the view in which it runs
served : (w : Setting) (earlier : List Noted) (o : Option ℕ) (c : ClientId) (number : ℕ) → serves w earlier o (Client c) number ≡ true → o ≡ Some number
served w earlier None c number h = cc
served w earlier (Some v) c number h = ap Some (eqb-true v number (both (nat_eq v number) (not (is_marked (own_sectors w v earlier) c.0)) h).0)

-- a packet that is heard on the other lane comes from the other end
comes : (w : Setting) (earlier : List Noted) (way : Way) (client view : ℕ) (source target : NodeId) (p : Packet) → is_lane (lane_between source target p.view.0) (back (record { client = client; view = view; way = way })) ≡ true
    → hears_at w earlier target (record p { from = source; to = target }) ≡ true → Comes (record { client = client; view = view; way = way }) (server_of view earlier) source target p.view.0
comes w earlier Up client view (Server s) (Client c) p h k =
    let q = both (nat_eq c.0 client) (nat_eq p.view.0 view) (both (nat_eq c.0 client && nat_eq p.view.0 view) true h).0 in
    let v : p.view.0 ≡ view = eqb-true p.view.0 view q.1 in
    let n : c.0 ≡ client = eqb-true c.0 client q.0 in
    let from-server = common (same_server s (server_of p.view.0 earlier)) (nat_eq p.view.0 (client_view c.0 earlier)) (nat_eq c.0 c.0) (nat_lt (client_view c.0 earlier) p.view.0) (nat_eq p.seq 1) k in
    record { from = ap Server (same-server-is s (server_of p.view.0 earlier) from-server ∙ ap (λ x. server_of x earlier) v); to = λ i. Client (record { 0 = n i }); view = v }
comes w earlier Up client view (Client c) (Server s) p h k = let q = (both (nat_eq c.0 client && nat_eq p.view.0 view) false h).1 in cc
comes w earlier Up client view (Client c) (Client d) p h k = cc
comes w earlier Up client view (Server s) (Server r) p h k = cc
comes w earlier Down client view (Client c) (Server s) p h k =
    let q = both (nat_eq c.0 client) (nat_eq p.view.0 view) (both (nat_eq c.0 client && nat_eq p.view.0 view) true h).0 in
    let v : p.view.0 ≡ view = eqb-true p.view.0 view q.1 in
    let n : c.0 ≡ client = eqb-true c.0 client q.0 in
    let runs = seated s p.view.0 earlier (served w earlier (seat s earlier) c p.view.0 k) in
    record { from = λ i. Client (record { 0 = n i }); to = ap Server (sym runs.is ∙ ap (λ x. server_of x earlier) v); view = v }
comes w earlier Down client view (Server s) (Client c) p h k = let q = (both (nat_eq c.0 client && nat_eq p.view.0 view) false h).1 in cc
comes w earlier Down client view (Client c) (Client d) p h k = cc
comes w earlier Down client view (Server s) (Server r) p h k = cc

-- nodes that are one pass the test, and so do numbers
same-nodes : (a b : NodeId) → a ≡ b → same_node a b ≡ true
same-nodes a b e = search rules

same-numbers : (a b : ℕ) → a ≡ b → nat_eq a b ≡ true
same-numbers a b e = grind (arith, nat_tests)

-- a packet that a step hears on the other lane is of a session that fits the lane
pub of-session : (w : Setting) (lane : Lane) (s : Noted) (earlier : List Noted) (session : SessionState) (p : Packet) → SessionFits w earlier lane session → heard_in w (back lane) earlier s ≡ Some p → is_of_session session p ≡ true
unfolding heard_in heard
of-session w lane s earlier session p fits h =
    let a = passed (goes_on (back lane)) (heard w earlier s) p h in
    let b = passed (λ q. hears_at w earlier q.to q) (given earlier s) p a.0 in
    let c = comes w earlier lane.way lane.client lane.view p.from p.to p a.1 b.1 in
    all-three (same_node p.from session.peer) (same_node p.to session.me) (nat_eq p.view.0 session.view.0)
    (same-nodes p.from session.peer (c.from ∙ sym fits.peer)) (same-nodes p.to session.me (c.to ∙ sym fits.me)) (same-numbers p.view.0 session.view.0 (c.view ∙ sym fits.view))
