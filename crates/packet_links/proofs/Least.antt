-- The least of what waits for a node, from the least of what waits on each of its links.
use Rattle.std.proofs.Common.{◌≡◌, ◌⊎◌, ◌+◌, ◌<◌, ◌≤◌, inl, inr, ℕ, Bool, true, false, Option, Some, None, Contains, min, nat_lt, if◌then◌else◌, refl, subst, arith}
use Rattle.std.proofs.lemmas.Bool.{cases_lt}
use Rattle.cal_base.specs.Limits.{clients}
use Rattle.cal_base.specs.declared.identity.ClientId.{ClientId}
use Rattle.cal_base.specs.declared.identity.NodeId.{NodeId}
use Rattle.cal_base.specs.declared.identity.NodeId.TheVariants.{Client, Server}
use Rattle.cal_base.specs.declared.identity.ServerId.{ServerId}
use Rattle.cal_base.specs.declared.identity.ServerId.TheVariants.{A, B}
use Rattle.packet_links.proofs.Numbers.{no_number}
use Rattle.packet_links.specs.Links.{LinksValue, Waits, WaitsFor, IsLeast, lesser, first_to, link_at, waiting_of}

-- the least of the numbers of two sets is the lesser of their least
least-joined : (P Q R : ℕ → Type 0) (a b : Option ℕ) → ((n : ℕ) → P n → R n) → ((n : ℕ) → Q n → R n) → ((n : ℕ) → R n → P n ⊎ Q n) → IsLeast P a → IsLeast Q b → IsLeast R (lesser a b)
least-joined P Q R None None first second split no_first no_second = λ n r. by n (split n r)
  where
    by : (n : ℕ) → P n ⊎ Q n → ⊥
    by n (inl p) = no_first n p
    by n (inr q) = no_second n q
least-joined P Q R None (Some b) first second split no_first is_second = (second b is_second.0, λ n r. by n (split n r))
  where
    by : (n : ℕ) → P n ⊎ Q n → b ≤ n
    by n (inl p) = absurd (no_first n p)
    by n (inr q) = is_second.1 n q
least-joined P Q R (Some a) None first second split is_first no_second = (first a is_first.0, λ n r. by n (split n r))
  where
    by : (n : ℕ) → P n ⊎ Q n → a ≤ n
    by n (inl p) = is_first.1 n p
    by n (inr q) = absurd (no_second n q)
least-joined P Q R (Some a) (Some b) first second split is_first is_second = (least (cases_lt a b), λ n r. by n (split n r))
  where
    least : (a < b) ⊎ (b ≤ a) → R (min a b)
    least (inl low) = let same : a ≡ min a b = omega (arith, low) in subst R same (first a is_first.0)
    least (inr high) = let same : b ≡ min a b = omega (arith, high) in subst R same (second b is_second.0)

    by : (n : ℕ) → P n ⊎ Q n → min a b ≤ n
    by n (inl p) = let low : a ≤ n = is_first.1 n p in omega (arith, low)
    by n (inr q) = let low : b ≤ n = is_second.1 n q in omega (arith, low)

-- two sets of the same numbers have the same least
least-same : (P R : ℕ → Type 0) (a : Option ℕ) → ((n : ℕ) → P n → R n) → ((n : ℕ) → R n → P n) → IsLeast P a → IsLeast R a
least-same P R None to from none = λ n r. none n (from n r)
least-same P R (Some a) to from is = (to a is.0, λ n r. is.1 n (from n r))

-- a packet waits for a server on the link from one of the first so many clients
pub record WaitsAmong (links : LinksValue) (server : ServerId) (count number : ℕ) : Type 0 where
  pub client : ℕ
  pub below : client < count
  pub waits : Waits links (Client (record { 0 = client })) (Server server) number

-- nothing waits on the links from no clients
pub nobody : (links : LinksValue) (server : ServerId) → IsLeast (WaitsAmong links server 0) None
nobody links server = λ n w. let low = w.below in absurd (omega (arith, low))

-- one client more
pub one_more : (links : LinksValue) (server : ServerId) (count : ℕ) (a b : Option ℕ) → IsLeast (WaitsAmong links server count) a → IsLeast (Waits links (Client (record { 0 = count })) (Server server)) b → IsLeast (WaitsAmong links server (count + 1)) (lesser a b)
one_more links server count a b is_a is_b = least-joined (WaitsAmong links server count) (Waits links (Client (record { 0 = count })) (Server server)) (WaitsAmong links server (count + 1)) a b
    (λ n w. record { client = w.client; below = (let low = w.below in omega (arith, low)); waits = w.waits })
    (λ n w. record { client = count; below = omega arith; waits = w })
    (λ n w. by n w (cases_lt w.client count))
    is_a is_b
  where
    by : (n : ℕ) (w : WaitsAmong links server (count + 1) n) → (w.client < count) ⊎ (count ≤ w.client) → WaitsAmong links server count n ⊎ Waits links (Client (record { 0 = count })) (Server server) n
    by n w (inl low) = inl (record { client = w.client; below = low; waits = w.waits })
    by n w (inr high) =
        let below = w.below in
        let same : w.client ≡ count = omega (arith, high, below) in
        inr (subst (λ (k : ℕ). Waits links (Client (record { 0 = k })) (Server server) n) same w.waits)

-- what waits on a client's link waits for one of the clients that there are
inside : (links : LinksValue) (server : ServerId) (client : ClientId) (number : ℕ) → Waits links (Client client) (Server server) number → client.0 < clients
inside links server client number w = by (nat_lt client.0 clients) refl
  where
    by : (b : Bool) → nat_lt client.0 clients ≡ b → client.0 < clients
    by true e = grind (arith, e)
    by false e = absurd (no_number number (subst (λ (b : Bool). Contains (waiting_of (link_at links (if b then Some (first_to server + client.0) else None))) number) e w))

-- the least that waits on the links from all clients is the least that waits for the server
pub all_clients : (links : LinksValue) (server : ServerId) (a : Option ℕ) → IsLeast (WaitsAmong links server clients) a → IsLeast (WaitsFor links (Server server)) a
all_clients links server a is = least-same (WaitsAmong links server clients) (WaitsFor links (Server server)) a
    (λ n w. record { from = Client (record { 0 = w.client }); waits = w.waits })
    (λ n w. by n w.from w.waits)
    is
  where
    by : (n : ℕ) (from : NodeId) → Waits links from (Server server) n → WaitsAmong links server clients n
    by n (Client client) w = record { client = client.0; below = inside links server client n w; waits = w }
    by n (Server other) w = absurd (no_number n w)

-- a client's two links are those from the two servers
pub both_servers : (links : LinksValue) (client : ClientId) (a b : Option ℕ) → IsLeast (Waits links (Server A) (Client client)) a → IsLeast (Waits links (Server B) (Client client)) b → IsLeast (WaitsFor links (Client client)) (lesser a b)
both_servers links client a b is_a is_b = least-joined (Waits links (Server A) (Client client)) (Waits links (Server B) (Client client)) (WaitsFor links (Client client)) a b
    (λ n w. record { from = Server A; waits = w })
    (λ n w. record { from = Server B; waits = w })
    (λ n w. by n w.from w.waits)
    is_a is_b
  where
    by : (n : ℕ) (from : NodeId) → Waits links from (Client client) n → Waits links (Server A) (Client client) n ⊎ Waits links (Server B) (Client client) n
    by n (Client other) w = absurd (no_number n w)
    by n (Server A) w = inl w
    by n (Server B) w = inr w
