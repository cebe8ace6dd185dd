-- What the records of a server's acts and a client's step rule out.
use Rattle.std.proofs.Common.{◌≡◌, ◌⊎◌, inl, inr, ◌<◌, ◌++◌, ◌∷◌, [], ℕ, zero, suc, Bool, true, false, ◌&&◌, if◌then◌else◌, IsTrue, Option, Some, None, List, map, filter, refl, subst, arith, rules, Contains, nat_eq}
use Rattle.std.specs.List.{filter_map, flat_map, cons_option}
use Rattle.std.proofs.lemmas.List.Elements.{Contains-get_or, Contains-append_left, Contains-append_right, Contains-append_cases, Contains-push_cases, Contains-push}
use Rattle.cal_base.specs.declared.identity.ClientId.{ClientId}
use Rattle.token_table.specs.Blockers.{clients_below}
use Rattle.std.proofs.lemmas.Bool.{eqb-false, eqb-true}
use Rattle.cluster_law.specs.Lists.{first_of}
use Rattle.cluster_law.specs.Removing.{due}
use Rattle.cluster_law.specs.ServerState.{ServerState, is_present}

none_in : {X : Type 0} (x : X) → Contains [] x → ⊥
none_in x c = absurd-lt c.1
  where
    absurd-lt : {k : ℕ} → k < 0 → ⊥
    absurd-lt h = omega arith

-- a list that is empty has empty parts
pub parts-empty : {X : Type 0} (xs ys : List X) → xs ++ ys ≡ [] → (xs ≡ []) × (ys ≡ [])
parts-empty [] ys e = (refl, e)
parts-empty (x ∷ xs) ys e = cc

-- a choice that gives something was the first
pub given-if : {X : Type 0} (b : Bool) (o : Option X) (x : X) → (if b then o else None) ≡ Some x → (b ≡ true) × (o ≡ Some x)
given-if true o x e = (refl, e)
given-if false o x e = cc

pub both-true : (a b : Bool) → a && b ≡ true → (a ≡ true) × (b ≡ true)
both-true true b e = (refl, e)
both-true false b e = cc

pub both-held : (a b : Bool) → a ≡ true → b ≡ true → a && b ≡ true
both-held true b e f = f
both-held false b e f = cc

module _ {X Y : Type 0} (f : X → List Y) where
  -- what nothing of a list gives, none of it gives
  pub flat-none : (xs : List X) (x : X) → Contains xs x → flat_map f xs ≡ [] → f x ≡ []
  flat-none [] x c e = absurd (none_in x c)
  flat-none (z ∷ zs) x c e = by (Contains-append_cases (z ∷ []) zs x c) (parts-empty (f z) (flat_map f zs) e) (λ rest later. flat-none zs x rest later)
    where
      by : Contains (z ∷ []) x ⊎ Contains zs x → (f z ≡ []) × (flat_map f zs ≡ []) → (Contains zs x → flat_map f zs ≡ [] → f x ≡ []) → f x ≡ []
      by (inl one) p later = here (Contains-push_cases [] z x one) p
        where
          here : Contains [] x ⊎ (z ≡ x) → (f z ≡ []) × (flat_map f zs ≡ []) → f x ≡ []
          here (inl d) p = absurd (none_in x d)
          here (inr same) p = subst (λ y. f y ≡ []) same p.0
      by (inr rest) p later = later rest p.1

module _ {X Y : Type 0} (f : X → Option Y) where
  pub gathered-none : (xs : List X) (x : X) → Contains xs x → filter_map f xs ≡ [] → f x ≡ None
  gathered-none [] x c e = absurd (none_in x c)
  gathered-none (z ∷ zs) x c e = by (Contains-append_cases (z ∷ []) zs x c) (apart (f z) e) (λ rest later. gathered-none zs x rest later)
    where
      apart : (o : Option Y) → cons_option o (filter_map f zs) ≡ [] → (o ≡ None) × (filter_map f zs ≡ [])
      apart None e = (refl, e)
      apart (Some y) e = cc

      by : Contains (z ∷ []) x ⊎ Contains zs x → (f z ≡ None) × (filter_map f zs ≡ []) → (Contains zs x → filter_map f zs ≡ [] → f x ≡ None) → f x ≡ None
      by (inl one) p later = here (Contains-push_cases [] z x one) p
        where
          here : Contains [] x ⊎ (z ≡ x) → (f z ≡ None) × (filter_map f zs ≡ []) → f x ≡ None
          here (inl d) p = absurd (none_in x d)
          here (inr same) p = subst (λ y. f y ≡ None) same p.0
      by (inr rest) p later = later rest p.1

module _ {X Y : Type 0} (f : X → Y) where
  pub Contains-map : (xs : List X) (x : X) → Contains xs x → Contains (map f xs) (f x)
  Contains-map [] x c = absurd (none_in x c)
  Contains-map (z ∷ zs) x c = by (Contains-append_cases (z ∷ []) zs x c) (λ rest. Contains-map zs x rest)
    where
      by : Contains (z ∷ []) x ⊎ Contains zs x → (Contains zs x → Contains (map f zs) (f x)) → Contains (f z ∷ map f zs) (f x)
      by (inl one) later = here (Contains-push_cases [] z x one)
        where
          here : Contains [] x ⊎ (z ≡ x) → Contains (f z ∷ map f zs) (f x)
          here (inl d) = absurd (none_in x d)
          here (inr same) = subst (λ y. Contains (f z ∷ map f zs) (f y)) same (Contains-get_or (f z ∷ map f zs) 0 (f z) (omega arith))
      by (inr rest) later = Contains-append_right (f z ∷ []) (map f zs) (f x) (later rest)

-- each client below a number is among the clients below it
pub client-below : (n : ℕ) (c : ClientId) → c.0 < n → Contains (clients_below n) c
unfolding clients_below
client-below zero c lt = absurd (none-below lt)
  where
    none-below : {k : ℕ} → k < 0 → ⊥
    none-below h = omega arith
client-below (suc n) c lt = by (nat_eq c.0 n) refl (λ less. client-below n c less)
  where
    apart : nat_eq c.0 n ≡ false → c.0 < n
    apart e = let differ = eqb-false c.0 n e in omega (arith, differ)

    by : (b : Bool) → nat_eq c.0 n ≡ b → (c.0 < n → Contains (clients_below n) c) → Contains (clients_below n ++ record { 0 = n } ∷ []) c
    by true e later = subst (λ m. Contains (clients_below n ++ record { 0 = m } ∷ []) c) (eqb-true c.0 n e) (Contains-push (clients_below n) c)
    by false e later = Contains-append_left (clients_below n) (record { 0 = n } ∷ []) c (later (apart e))

module _ {X : Type 0} (test : X → Bool) where
  -- what stands in a filtered list stood in the list, and passes
  pub from-filter : (xs : List X) (x : X) → Contains (filter test xs) x → Contains xs x × (test x ≡ true)
  from-filter [] x c = absurd (none_in x c)
  from-filter (z ∷ zs) x c = by (test z) refl (λ rest. from-filter zs x rest) c
    where
      behind : Contains zs x × (test x ≡ true) → Contains (z ∷ zs) x × (test x ≡ true)
      behind p = (Contains-append_right (z ∷ []) zs x p.0, p.1)

      one : test z ≡ true → Contains [] x ⊎ (z ≡ x) → Contains (z ∷ zs) x × (test x ≡ true)
      one t (inl d) = absurd (none_in x d)
      one t (inr same) = subst (λ y. Contains (z ∷ zs) y × (test y ≡ true)) same (Contains-get_or (z ∷ zs) 0 z (omega arith), t)

      parted : test z ≡ true → (Contains (filter test zs) x → Contains zs x × (test x ≡ true)) → Contains (z ∷ []) x ⊎ Contains (filter test zs) x → Contains (z ∷ zs) x × (test x ≡ true)
      parted t later (inl first) = one t (Contains-push_cases [] z x first)
      parted t later (inr rest) = behind (later rest)

      by : (b : Bool) → test z ≡ b → (Contains (filter test zs) x → Contains zs x × (test x ≡ true)) → Contains (filter test (z ∷ zs)) x → Contains (z ∷ zs) x × (test x ≡ true)
      by true t later c = parted t later (Contains-append_cases (z ∷ []) (filter test zs) x (subst (λ b. Contains (if b then z ∷ filter test zs else filter test zs) x) t c))
      by false t later c = behind (later (subst (λ b. Contains (if b then z ∷ filter test zs else filter test zs) x) t c))

-- the first of a list is in it
pub first-in : {X : Type 0} (xs : List X) (x : X) → first_of xs ≡ Some x → Contains xs x
first-in [] x e = cc
first-in (y ∷ ys) x e = subst (λ z. Contains (y ∷ ys) z) (given e) (Contains-get_or (y ∷ ys) 0 y (omega arith))
  where
    given : Some y ≡ Some x → y ≡ x
    given e = search rules

-- a client that is due was declared gone
pub due-gone : (gone : ClientId → Bool) (server : ServerState) (client : ClientId) → due gone server ≡ Some client → IsTrue (gone client)
due-gone gone server client e =
    let member = first-in (filter (λ c. gone c && is_present server.volume c) (clients_below server.volume.clients)) client e in
    let passes = from-filter (λ c. gone c && is_present server.volume c) (clients_below server.volume.clients) client member in
    is-true (both-true (gone client) (is_present server.volume client) passes.1).0
  where
    is-true : {b : Bool} → b ≡ true → IsTrue b
    is-true e = search rules
