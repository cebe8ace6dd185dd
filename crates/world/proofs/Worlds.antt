-- What stands of a world stands after each of its changes.
use Rattle.std.proofs.Common.{◌≡◌, ◌⊎◌, ◌<◌, ◌≤◌, ◌+◌, ℕ, Bool, true, false, Option, Some, None, List, length, is_some, nat_lt, if◌then◌else◌, slice_get, slice_set, replicate, ltb-true, ltb-false, arith, refl, sym, ap, ◌∙◌, subst, inl, inr}
use Rattle.std.proofs.Common.{length-set}
use Rattle.cal_base.specs.declared.identity.ClientId.{ClientId}
use Rattle.cal_base.specs.declared.identity.ServerId.{ServerId}
use Rattle.cal_base.specs.declared.identity.ServerId.TheVariants.{A, B}
use Rattle.client_node.specs.Node.{NodeValue as ClientNode}
use Rattle.membership.specs.Membership.{Membership, standing_of, with_standing}
use Rattle.membership.specs.declared.standing.Standing.{Standing}
use Rattle.membership.specs.declared.standing.Standing.TheVariants.{Runs as IsUp, Crashed as HasCrashed, Gone as IsGone}
use Rattle.server_node.specs.Node.{IsNew, NodeValue as ServerNode}
use Rattle.world.specs.World.{IsClientOf, IsServerOf, IsWorld, WorldValue, client_at, counted, if_running, server_at, stands_running, with_client, with_server}
use Rattle.cal_base.specs.declared.identity.NodeId.{NodeId}
use Rattle.cal_base.specs.declared.identity.NodeId.TheVariants.{Client, Server}
use Rattle.cal_base.specs.declared.identity.View.{View}
use Rattle.client_node.specs.Step.{node_after}
use Rattle.cluster_law.specs.declared.node.ClientInput.{ClientInput}
use Rattle.cluster_law.specs.declared.step.Event.TheVariants.{Gone}
use Rattle.session.specs.declared.packet.Packet.{Packet}
use Rattle.world.specs.Made.{Begins, new_client}
use Rattle.world.specs.Refusals.{CanHappen}
use Rattle.world.specs.Step.{crashed, delivering}
use Rattle.world.proofs.Places.{get_other, no_place, past_end, replicate_at, same_or_other, set_again, set_down, set_found, set_up, standing_down}

same_client : (c d : ClientId) → d.0 ≡ c.0 → d ≡ c
same_client c d e = ap (λ (n : ℕ). let it : ClientId = record { 0 = n } in it) e

-- one more step was counted
pub counts_on : (w : WorldValue) → IsWorld w → IsWorld (counted w)
counts_on w k = record {
  count = k.count;
  client = λ c node at. record { id = (k.client c node at).id; made = (let l = (k.client c node at).made in omega arith) };
  server = λ s node at. record { id = (k.server s node at).id; made = (let l = (k.server s node at).made in omega arith) };
  running = k.running;
  flags = k.flags;
  view = (let l = k.view in omega arith);
}

-- a client made a step
stands_at : (w : WorldValue) (c : ClientId) (next : ClientNode) → IsWorld w → IsClientOf (w.steps + 1) c next → (d : ClientId) (node : ClientNode) → client_at (with_client w c (Some next)) d ≡ Some node → (d.0 ≡ c.0) ⊎ (d.0 ≡ c.0 → ⊥) → IsClientOf (w.steps + 1) d node
stands_at w c next k own d node at (inl e) =
    let same : d ≡ c = same_client c d e in
    let found : Some next ≡ Some node = set_found w.clients c.0 (Some next) node (subst (λ (n : ℕ). if_running (slice_get (slice_set w.clients c.0 (Some next)) n) ≡ Some node) e at) in
    let this : next ≡ node = cc in
    subst (λ (x : ClientId). IsClientOf (w.steps + 1) x node) (sym same) (subst (λ (x : ClientNode). IsClientOf (w.steps + 1) c x) this own)
stands_at w c next k own d node at (inr other) =
    let before : client_at w d ≡ Some node = sym (ap if_running (get_other w.clients c.0 d.0 (Some next) other)) ∙ at in
    (counts_on w k).client d node before

runs_on : (w : WorldValue) (c : ClientId) (next : ClientNode) → IsWorld w → is_some (client_at w c) ≡ true → (d : ClientId) → (d.0 ≡ c.0) ⊎ (d.0 ≡ c.0 → ⊥) → is_some (client_at (with_client w c (Some next)) d) ≡ stands_running (standing_of w.members d)
runs_on w c next k up d (inl e) = subst (λ (x : ClientId). is_some (client_at (with_client w c (Some next)) x) ≡ stands_running (standing_of w.members x)) (sym (same_client c d e)) (set_up w.clients c.0 next up ∙ sym up ∙ k.running c)
runs_on w c next k up d (inr other) = ap (λ (o : Option (Option ClientNode)). is_some (if_running o)) (get_other w.clients c.0 d.0 (Some next) other) ∙ k.running d

pub client_keeps : (w : WorldValue) (c : ClientId) (node next : ClientNode) → IsWorld w → client_at w c ≡ Some node → next.id ≡ node.id → next.steps ≡ node.steps + 1 → IsWorld (counted (with_client w c (Some next)))
client_keeps w c node next k at id steps =
    let old = k.client c node at in
    let own : IsClientOf (w.steps + 1) c next = record { id = id ∙ old.id; made = (let l = old.made in omega arith) } in
    let on = counts_on w k in
    record {
      count = length-set w.clients c.0 (Some next) ∙ k.count;
      client = λ d one here. stands_at w c next k own d one here (same_or_other c.0 d.0);
      server = on.server;
      running = λ d. runs_on w c next k (ap is_some at) d (same_or_other c.0 d.0);
      flags = k.flags;
      view = on.view;
    }

-- a client crashed
abbrev pub client_down : WorldValue → ClientId → WorldValue
client_down w c = record w { clients = slice_set w.clients c.0 None; members = with_standing w.members c HasCrashed }

stands_down : (m : Membership) (c : ClientId) (s : Standing) (b : Bool) → stands_running (Some s) ≡ false → stands_running (if b then slice_get (slice_set m.standings c.0 s) c.0 else None) ≡ false
stands_down m c s true e = standing_down m.standings c.0 s e
stands_down m c s false e = refl

-- the others stand as they stood
other_stands : (m : Membership) (c d : ClientId) (s : Standing) → (d.0 ≡ c.0 → ⊥) → standing_of (with_standing m c s) d ≡ standing_of m d
other_stands m c d s other = ap (λ (o : Option Standing). if nat_lt d.0 m.clients then o else None) (get_other m.standings c.0 d.0 s other)

left_at : (w : WorldValue) (c : ClientId) → IsWorld w → (d : ClientId) (node : ClientNode) → client_at (client_down w c) d ≡ Some node → (d.0 ≡ c.0) ⊎ (d.0 ≡ c.0 → ⊥) → IsClientOf (w.steps + 1) d node
left_at w c k d node at (inl e) =
    let found : None ≡ Some node = set_found w.clients c.0 None node (subst (λ (n : ℕ). if_running (slice_get (slice_set w.clients c.0 None) n) ≡ Some node) e at) in
    cc
left_at w c k d node at (inr other) =
    let before : client_at w d ≡ Some node = sym (ap if_running (get_other w.clients c.0 d.0 None other)) ∙ at in
    (counts_on w k).client d node before

crash_runs : (w : WorldValue) (c : ClientId) → IsWorld w → (d : ClientId) → (d.0 ≡ c.0) ⊎ (d.0 ≡ c.0 → ⊥) → is_some (client_at (client_down w c) d) ≡ stands_running (standing_of (client_down w c).members d)
crash_runs w c k d (inl e) = subst (λ (x : ClientId). is_some (client_at (client_down w c) x) ≡ stands_running (standing_of (client_down w c).members x)) (sym (same_client c d e)) (set_down w.clients c.0 ∙ sym (stands_down w.members c HasCrashed (nat_lt c.0 w.members.clients) refl))
crash_runs w c k d (inr other) = ap (λ (o : Option (Option ClientNode)). is_some (if_running o)) (get_other w.clients c.0 d.0 None other) ∙ k.running d ∙ sym (ap stands_running (other_stands w.members c d HasCrashed other))

pub crash_keeps : (w : WorldValue) (c : ClientId) → IsWorld w → IsWorld (counted (client_down w c))
crash_keeps w c k =
    let on = counts_on w k in
    record {
      count = length-set w.clients c.0 None ∙ k.count;
      client = λ d one here. left_at w c k d one here (same_or_other c.0 d.0);
      server = on.server;
      running = λ d. crash_runs w c k d (same_or_other c.0 d.0);
      flags = k.flags;
      view = on.view;
    }

abbrev pub crashed_with : WorldValue → ClientId → List (Option ClientNode) → WorldValue
crashed_with w c clients = record w { clients = clients; members = with_standing w.members c HasCrashed }

-- a client that doesn't run was declared gone
gone_runs : (w : WorldValue) (c : ClientId) → IsWorld w → stands_running (standing_of w.members c) ≡ false → (d : ClientId) → (d.0 ≡ c.0) ⊎ (d.0 ≡ c.0 → ⊥) → is_some (client_at w d) ≡ stands_running (standing_of (with_standing w.members c IsGone) d)
gone_runs w c k down d (inl e) = subst (λ (x : ClientId). is_some (client_at w x) ≡ stands_running (standing_of (with_standing w.members c IsGone) x)) (sym (same_client c d e)) (k.running c ∙ down ∙ sym (stands_down w.members c IsGone (nat_lt c.0 w.members.clients) refl))
gone_runs w c k down d (inr other) = k.running d ∙ sym (ap stands_running (other_stands w.members c d IsGone other))

pub gone_keeps : (w : WorldValue) (c : ClientId) → IsWorld w → stands_running (standing_of w.members c) ≡ false → IsWorld (counted (record w { members = with_standing w.members c IsGone }))
gone_keeps w c k down =
    let on = counts_on w k in
    record {
      count = k.count;
      client = on.client;
      server = on.server;
      running = λ d. gone_runs w c k down d (same_or_other c.0 d.0);
      flags = k.flags;
      view = on.view;
    }

-- a server ended
no_server : (x : WorldValue) (s : ServerId) → IsWorld x → (t : ServerId) (node : ServerNode) → server_at (with_server x s None) t ≡ Some node → IsServerOf x.steps t node
no_server x A k A node at = cc
no_server x A k B node at = k.server B node at
no_server x B k A node at = k.server A node at
no_server x B k B node at = cc

-- as those of a world that is alike but for its servers
pub ended_in : (x : WorldValue) (s : ServerId) → IsWorld x → IsWorld (with_server x s None)
ended_in x A k = record { count = k.count; client = k.client; server = no_server x A k; running = k.running; flags = k.flags; view = k.view }
ended_in x B k = record { count = k.count; client = k.client; server = no_server x B k; running = k.running; flags = k.flags; view = k.view }

pub end_keeps : (w : WorldValue) (s : ServerId) → IsWorld w → IsWorld (counted (with_server w s None))
end_keeps w s k = counts_on (with_server w s None) (ended_in w s k)

-- a server runs that has made no more steps than the world
this_server : (x : WorldValue) (s : ServerId) (next : ServerNode) → IsWorld x → IsServerOf x.steps s next → (t : ServerId) (node : ServerNode) → server_at (with_server x s (Some next)) t ≡ Some node → IsServerOf x.steps t node
this_server x A next k own A node at = (let this : next ≡ node = cc in subst (λ (n : ServerNode). IsServerOf x.steps A n) this own)
this_server x A next k own B node at = k.server B node at
this_server x B next k own A node at = k.server A node at
this_server x B next k own B node at = (let this : next ≡ node = cc in subst (λ (n : ServerNode). IsServerOf x.steps B n) this own)

put_in : (x : WorldValue) (s : ServerId) (next : ServerNode) → IsWorld x → IsServerOf x.steps s next → IsWorld (with_server x s (Some next))
put_in x A next k own = record { count = k.count; client = k.client; server = this_server x A next k own; running = k.running; flags = k.flags; view = k.view }
put_in x B next k own = record { count = k.count; client = k.client; server = this_server x B next k own; running = k.running; flags = k.flags; view = k.view }

-- the same where a step is counted then
pub put_counted : (v : WorldValue) (s : ServerId) (next : ServerNode) → IsWorld (counted v) → next.id ≡ s → next.steps ≤ v.steps + 1 → IsWorld (counted (with_server v s (Some next)))
put_counted v A next k id few = put_in (counted v) A next k (record { id = id; made = few })
put_counted v B next k id few = put_in (counted v) B next k (record { id = id; made = few })

-- a server made a step
pub server_keeps : (w taken moved : WorldValue) (s : ServerId) (node next : ServerNode) → IsWorld w → server_at w s ≡ Some node → taken ≡ with_server w s None → moved ≡ with_server taken s (Some next) → next.id ≡ node.id → next.steps ≡ node.steps + 1 → IsWorld (counted moved)
server_keeps w taken moved A node next k at e f id steps =
    let old = k.server A node at in
    subst (λ (m : WorldValue). IsWorld (counted m)) (sym (f ∙ ap (λ (v : WorldValue). with_server v A (Some next)) e)) (put_counted (with_server w A None) A next (end_keeps w A k) (id ∙ old.id) (let l = old.made in omega arith))
server_keeps w taken moved B node next k at e f id steps =
    let old = k.server B node at in
    subst (λ (m : WorldValue). IsWorld (counted m)) (sym (f ∙ ap (λ (v : WorldValue). with_server v B (Some next)) e)) (put_counted (with_server w B None) B next (end_keeps w B k) (id ∙ old.id) (let l = old.made in omega arith))

-- the next view was opened
pub opened_keeps : (e : WorldValue) (m : Membership) (view : View) (s : ServerId) → IsWorld e → view.0 ≡ e.members.view.0 + 1 → m ≡ record e.members { view = view; server = s } → IsWorld (counted (record e { members = m }))
opened_keeps e m view s k next is =
    let on = counts_on e k in
    let opened : IsWorld (counted (record e { members = record e.members { view = view; server = s } })) = record { count = k.count; client = on.client; server = on.server; running = k.running; flags = k.flags; view = (let l = k.view in omega arith) } in
    subst (λ (n : Membership). IsWorld (counted (record e { members = n }))) (sym is) opened

-- and its server booted
pub booted_keeps : (e moved : WorldValue) (m : Membership) (view : View) (s : ServerId) (node : ServerNode) → IsWorld e → view.0 ≡ e.members.view.0 + 1 → m ≡ record e.members { view = view; server = s } → moved ≡ with_server (record e { members = m }) s (Some node) → IsNew s node → IsWorld (counted moved)
booted_keeps e moved m view s node k next is f new = subst (λ (v : WorldValue). IsWorld (counted v)) (sym f) (put_counted (record e { members = m }) s node (opened_keeps e m view s k next is) new.id_is (let none = new.steps in omega arith))

-- a node crashed
pub crashed_keeps : (w moved : WorldValue) (node : NodeId) → IsWorld w → moved ≡ crashed w node → IsWorld (counted moved)
crashed_keeps w moved (Client c) k e = subst (λ (m : WorldValue). IsWorld (counted m)) (sym e) (crash_keeps w c k)
crashed_keeps w moved (Server s) k e = subst (λ (m : WorldValue). IsWorld (counted m)) (sym e) (end_keeps w s k)

-- memory ran out as a client made its step
pub lost_keeps : (w moved : WorldValue) (c : ClientId) (taken : List (Option ClientNode)) → IsWorld w → taken ≡ slice_set w.clients c.0 None → moved ≡ record w { clients = taken; members = with_standing w.members c HasCrashed } → IsWorld (counted moved)
lost_keeps w moved c taken k e f = subst (λ (m : WorldValue). IsWorld (counted m)) (sym (f ∙ ap (λ (cs : List (Option ClientNode)). crashed_with w c cs) e)) (crash_keeps w c k)

-- a client that was taken out of its place came back from its step
pub stepped_keeps : (w : WorldValue) (c : ClientId) (taken put : List (Option ClientNode)) (node next : ClientNode) (input : ClientInput) → IsWorld w → client_at w c ≡ Some node → taken ≡ slice_set w.clients c.0 None → put ≡ slice_set taken c.0 (Some next) → next ≡ node_after node input → IsWorld (counted (record w { clients = put }))
stepped_keeps w c taken put node next input k at e f is =
    subst (λ (cs : List (Option ClientNode)). IsWorld (counted (record w { clients = cs }))) (sym (f ∙ ap (λ (cs : List (Option ClientNode)). slice_set cs c.0 (Some next)) e ∙ set_again w.clients c.0 None (Some next)))
    (client_keeps w c node next k at (ap (λ (n : ClientNode). n.id) is) (ap (λ (n : ClientNode). n.steps) is))

-- a packet was marked as delivered
pub marked_keeps : (w moved : WorldValue) (n : ℕ) → IsWorld w → moved ≡ delivering w n → IsWorld moved
marked_keeps w moved n k e =
    let marked : IsWorld (delivering w n) = record { count = k.count; client = k.client; server = k.server; running = k.running; flags = length-set w.delivered n true ∙ k.flags; view = k.view } in
    subst IsWorld (sym e) marked

-- packets were kept, each with its flag
pub kept_keeps : (w : WorldValue) (packets : List Packet) (delivered : List Bool) → IsWorld (counted w) → (length w.delivered ≡ length w.packets → length delivered ≡ length packets) → IsWorld (record w { packets = packets; delivered = delivered; steps = w.steps + 1 })
kept_keeps w packets delivered k even = record { count = k.count; client = k.client; server = k.server; running = k.running; flags = even k.flags; view = k.view }

-- a client was declared gone
pub declared_keeps : (w : WorldValue) (c : ClientId) (m : Membership) → IsWorld w → CanHappen w (Gone c) → m ≡ with_standing w.members c IsGone → IsWorld (counted (record w { members = m }))
declared_keeps w c m k can e = subst (λ (n : Membership). IsWorld (counted (record w { members = n }))) (sym e) (gone_keeps w c k can.ended)

-- all clients run and have done nothing
first_client : (clients window : ℕ) (w : WorldValue) → Begins clients window w → length w.clients ≡ clients → (c : ClientId) (node : ClientNode) → client_at w c ≡ Some node → IsClientOf w.steps c node
first_client clients window w b count c node at =
    let within : c.0 < length w.clients = no_place w.clients c.0 node at in
    let new = b.clients_run c (omega arith) in
    let this : new_client c ≡ node = cc in
    subst (λ (n : ClientNode). IsClientOf w.steps c n) this (record { id = refl; made = omega arith })

first_server : (clients window : ℕ) (w : WorldValue) → Begins clients window w → (s : ServerId) (node : ServerNode) → server_at w s ≡ Some node → IsServerOf w.steps s node
first_server clients window w b A node at =
    let this : b.server ≡ node = (let e = b.server_runs in cc) in
    let steps : b.server.steps ≡ 0 = b.is_new.steps in
    subst (λ (n : ServerNode). IsServerOf w.steps A n) this (record { id = b.is_new.id_is; made = omega arith })
first_server clients window w b B node at = (let e = b.alone in cc)

up_first : (clients n : ℕ) (yes : Bool) → nat_lt n clients ≡ yes → true ≡ yes → clients ≤ 16 → stands_running (if yes then slice_get (replicate 16 IsUp) n else None) ≡ true
up_first clients n true e f l = (let under : n < clients = ltb-true n clients e in ap stands_running (replicate_at 16 n IsUp (omega arith)))
up_first clients n false e f l = cc

first_running : (clients window : ℕ) (w : WorldValue) → Begins clients window w → length w.clients ≡ clients → clients ≤ 16 → (c : ClientId) (yes : Bool) → nat_lt c.0 clients ≡ yes → is_some (client_at w c) ≡ stands_running (if yes then slice_get (replicate 16 IsUp) c.0 else None)
first_running clients window w b count few c true e =
    let within : c.0 < clients = ltb-true c.0 clients e in
    ap is_some (b.clients_run c within) ∙ sym (up_first clients c.0 true e refl few)
first_running clients window w b count few c false e =
    let over : clients ≤ c.0 = ltb-false c.0 clients e in
    ap (λ (o : Option (Option ClientNode)). is_some (if_running o)) (past_end w.clients c.0 (omega arith))

pub first_world : (clients window : ℕ) (w : WorldValue) → Begins clients window w → length w.clients ≡ clients → clients ≤ 16 → IsWorld w
first_world clients window w b count few =
    let members = b.members_are in
    record {
      count = count ∙ sym (ap (λ (m : Membership). m.clients) members);
      client = first_client clients window w b count;
      server = first_server clients window w b;
      running = λ c. first_running clients window w b count few c (nat_lt c.0 clients) refl ∙ sym (ap (λ (m : Membership). stands_running (standing_of m c)) members);
      flags = ap length b.undelivered ∙ sym (ap length b.unsent);
      view = (let one : w.members.view.0 ≡ 1 = ap (λ (m : Membership). m.view.0) members in omega arith);
    }
