-- What is asked of all nodes, one node after the other.
use Rattle.std.proofs.Common.{◌≡◌, ◌⊎◌, ◌+◌, ◌<◌, ◌≤◌, ◌∙◌, inl, inr, ℕ, suc, Bool, true, false, List, Option, Some, None, Contains, [], min, nat_lt, if◌then◌else◌, refl, sym, subst, ap, arith}
use Rattle.std.proofs.lemmas.Bool.{cases_lt}
use Rattle.cal_base.specs.Limits.{clients}
use Rattle.cal_base.specs.declared.identity.ClientId.{ClientId}
use Rattle.cal_base.specs.declared.identity.NodeId.{NodeId}
use Rattle.cal_base.specs.declared.identity.NodeId.TheVariants.{Client, Server}
use Rattle.cal_base.specs.declared.identity.ServerId.{ServerId}
use Rattle.cal_base.specs.declared.identity.ServerId.TheVariants.{A, B}
use Rattle.packet_links.specs.Links.{LinksValue, IsLeast, Waits, WaitsFor, first_from, lesser, link_at, waiting_of}
use Rattle.world.specs.Quiet.{TellsIdle}
use Rattle.world.specs.World.{WorldValue, is_busy, runs}
use Rattle.schedule.specs.Nodes.{AreDue, IsFirstIf, IsFirstToRunning, WaitsToRun, node_of, one_if, outstanding, with_due}
use Rattle.schedule.specs.Nodes.AreDue.{none, more}

-- one client more is asked whether its call is outstanding
pub outstanding_more : (w : WorldValue) (number count one : ℕ) → count ≡ outstanding w number → one ≡ one_if (is_busy w (record { 0 = number })) → count + one ≡ outstanding w (number + 1)
outstanding_more w number count one e f = ap (λ (n : ℕ). n + one) e ∙ ap (λ (n : ℕ). outstanding w number + n) f ∙ ap (outstanding w) next
  where
    next : suc number ≡ number + 1
    next = omega arith

pub none_due : (w : WorldValue) (due : List NodeId) → due ≡ [] → AreDue w 0 due
none_due w due e = subst (AreDue w 0) (sym e) none

-- one node more is asked whether it is idle
pub due_more : (w : WorldValue) (number : ℕ) (node : NodeId) (idle : Bool) (due after : List NodeId) → node ≡ node_of number → TellsIdle w node idle → after ≡ with_due due node idle → AreDue w number due → AreDue w (number + 1) after
due_more w number node idle due after same tells e are =
    subst (AreDue w (number + 1)) (sym (e ∙ ap (λ (node : NodeId). with_due due node idle) same))
    (more number due idle are (subst (λ (node : NodeId). TellsIdle w node idle) same tells))

-- a packet waits for one of the first so many nodes, which runs
pub record WaitsAmong (w : WorldValue) (links : LinksValue) (count packet : ℕ) : Type 0 where
  pub place : ℕ
  pub below : place < count
  pub running : runs w (node_of place) ≡ true
  pub waits : WaitsFor links (node_of place) packet

-- nothing waits for none of the nodes
pub nobody : (w : WorldValue) (links : LinksValue) → IsLeast (WaitsAmong w links 0) None
nobody w links = λ n waits. let low = waits.below in absurd (omega (arith, low))

least-joined : (P Q R : ℕ → Type 0) (a b : Option ℕ) → ((n : ℕ) → P n → R n) → ((n : ℕ) → Q n → R n) → ((n : ℕ) → R n → P n ⊎ Q n) → IsLeast P a → IsLeast Q b → IsLeast R (lesser a b)
least-joined P Q R None None first second split no_first no_second = λ n r. by n (split n r)
  where
    by : (n : ℕ) → P n ⊎ Q n → ⊥
    by n (inl p) = no_first n p
    by n (inr q) = no_second n q
least-joined P Q R None (Some b) first second split no_first is_second = (second b is_second.0, λ n r. by n (split n r))
  where
    by : (n : ℕ) → P n ⊎ Q n → b ≤ n
    by n (inl p) = absurd (no_first n p)
    by n (inr q) = is_second.1 n q
least-joined P Q R (Some a) None first second split is_first no_second = (first a is_first.0, λ n r. by n (split n r))
  where
    by : (n : ℕ) → P n ⊎ Q n → a ≤ n
    by n (inl p) = is_first.1 n p
    by n (inr q) = absurd (no_second n q)
least-joined P Q R (Some a) (Some b) first second split is_first is_second = (least (cases_lt a b), λ n r. by n (split n r))
  where
    least : (a < b) ⊎ (b ≤ a) → R (min a b)
    least (inl low) = let same : a ≡ min a b = omega (arith, low) in subst R same (first a is_first.0)
    least (inr high) = let same : b ≡ min a b = omega (arith, high) in subst R same (second b is_second.0)

    by : (n : ℕ) → P n ⊎ Q n → min a b ≤ n
    by n (inl p) = let low : a ≤ n = is_first.1 n p in omega (arith, low)
    by n (inr q) = let low : b ≤ n = is_second.1 n q in omega (arith, low)

-- a packet waits for this node, which runs
record WaitsOn (w : WorldValue) (links : LinksValue) (to : NodeId) (packet : ℕ) : Type 0 where
  running : runs w to ≡ true
  waits : WaitsFor links to packet

least_on : (w : WorldValue) (links : LinksValue) (to : NodeId) (b : Option ℕ) → IsFirstIf (runs w to) links to b → IsLeast (WaitsOn w links to) b
least_on w links to b is = by (runs w to) refl b is
  where
    by : (r : Bool) → runs w to ≡ r → (b : Option ℕ) → IsFirstIf r links to b → IsLeast (WaitsOn w links to) b
    by false e b lacks = subst (IsLeast (WaitsOn w links to)) (sym lacks) (λ n waits. let runs_on = waits.running in absurd (cc))
    by true e None nothing = λ n waits. nothing n waits.waits
    by true e (Some b) least = (record { running = e; waits = least.0 }, λ n waits. least.1 n waits.waits)

-- one node more is asked what waits for it
pub first_more : (w : WorldValue) (links : LinksValue) (number : ℕ) (node : NodeId) (a b first : Option ℕ) → node ≡ node_of number → IsFirstIf (runs w node) links node b → first ≡ lesser a b → IsLeast (WaitsAmong w links number) a → IsLeast (WaitsAmong w links (number + 1)) first
first_more w links number node a b first same is_b e is_a = subst (IsLeast (WaitsAmong w links (number + 1))) (sym e)
    (least-joined (WaitsAmong w links number) (WaitsOn w links (node_of number)) (WaitsAmong w links (number + 1)) a b
    (λ n waits. record { place = waits.place; below = (let low = waits.below in omega (arith, low)); running = waits.running; waits = waits.waits })
    (λ n waits. record { place = number; below = omega arith; running = waits.running; waits = waits.waits })
    (λ n waits. by n waits (cases_lt waits.place number))
    is_a
    (least_on w links (node_of number) b (subst (λ (node : NodeId). IsFirstIf (runs w node) links node b) same is_b)))
  where
    by : (n : ℕ) (waits : WaitsAmong w links (number + 1) n) → (waits.place < number) ⊎ (number ≤ waits.place) → WaitsAmong w links number n ⊎ WaitsOn w links (node_of number) n
    by n waits (inl low) = inl (record { place = waits.place; below = low; running = waits.running; waits = waits.waits })
    by n waits (inr high) =
        let below = waits.below in
        let same : waits.place ≡ number = omega (arith, high, below) in
        inr (subst (λ (k : ℕ). WaitsOn w links (node_of k) n) same (record { running = waits.running; waits = waits.waits }))

no_number : (m : ℕ) → Contains [] m → ⊥
no_number m c = let low = c.1 in omega (arith, low)

-- a packet that waits for a client waits for one of the clients that there are
is_client : (links : LinksValue) (client : ClientId) (n : ℕ) → WaitsFor links (Client client) n → nat_lt client.0 clients ≡ true
is_client links client n waits = from_node waits.from waits.waits
  where
    from_server : (server : ServerId) (b : Bool) → nat_lt client.0 clients ≡ b → Waits links (Server server) (Client client) n → nat_lt client.0 clients ≡ true
    from_server server true e waits = e
    from_server server false e waits = absurd (no_number n (subst (λ (b : Bool). Contains (waiting_of (link_at links (if b then Some (first_from server + client.0) else None))) n) e waits))

    from_node : (from : NodeId) → Waits links from (Client client) n → nat_lt client.0 clients ≡ true
    from_node (Client other) waits = absurd (no_number n waits)
    from_node (Server server) waits = from_server server (nat_lt client.0 clients) refl waits

-- the place of a node for which a packet waits
record IsPlaced (to : NodeId) : Type 0 where
  place : ℕ
  below : place < 18
  node : node_of place ≡ to

placed : (links : LinksValue) (to : NodeId) (n : ℕ) → WaitsFor links to n → IsPlaced to
placed links (Client client) n waits =
    let there : nat_lt client.0 16 ≡ true = is_client links client n waits in
    record { place = client.0; below = grind (arith, there); node = ap (λ (b : Bool). if b then Client client else if nat_lt client.0 17 then Server A else Server B) there }
placed links (Server A) n waits = record { place = 16; below = omega arith; node = refl }
placed links (Server B) n waits = record { place = 17; below = omega arith; node = refl }

-- what waits for one of all nodes is what waits for a running node
pub all_nodes : (w : WorldValue) (links : LinksValue) (count : ℕ) (a : Option ℕ) → count ≡ 18 → IsLeast (WaitsAmong w links count) a → IsFirstToRunning w links a
all_nodes w links count a all is = same a (subst (λ (count : ℕ). IsLeast (WaitsAmong w links count) a) all is)
  where
    from : (n : ℕ) → WaitsToRun w links n → WaitsAmong w links 18 n
    from n waits =
        let at = placed links waits.to n waits.waits in
        record { place = at.place; below = at.below; running = subst (λ (to : NodeId). runs w to ≡ true) (sym at.node) waits.running; waits = subst (λ (to : NodeId). WaitsFor links to n) (sym at.node) waits.waits }

    to_run : (n : ℕ) → WaitsAmong w links 18 n → WaitsToRun w links n
    to_run n waits = record { to = node_of waits.place; running = waits.running; waits = waits.waits }

    same : (a : Option ℕ) → IsLeast (WaitsAmong w links 18) a → IsFirstToRunning w links a
    same None nothing = λ n waits. nothing n (from n waits)
    same (Some a) least = (to_run a least.0, λ n waits. least.1 n (from n waits))
