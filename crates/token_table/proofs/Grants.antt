use Rattle.std.proofs.Common.{◌≡◌, ℕ, zero, suc, ◌<◌, ◌≤◌, ◌⊎◌, inl, inr, List, [], ◌∷◌, ◌++◌, Bool, true, false, ◌&&◌, not, Option, Some, None, if◌then◌else◌, refl, sym, ap, subst, ◌∙◌, true≢false, arith}
use Rattle.std.specs.List.{filter_map, All}
use Rattle.std.specs.Option.{option_to_list}
use Rattle.std.proofs.lemmas.Bool.{cases_lt}
use Rattle.std.proofs.lemmas.List.Elements.{All-cons}
use Rattle.cal_base.specs.declared.identity.ClientId.{ClientId}
use Rattle.cal_base.specs.declared.identity.Ino.{Ino}
use Rattle.token_kind.specs.Hold.{conflict}
use Rattle.token_kind.specs.declared.«class».Class.{Class}
use Rattle.token_kind.specs.declared.blocker.Blocker.{Blocker}
use Rattle.token_kind.specs.declared.hold.Hold.{Hold}
use Rattle.token_kind.specs.declared.hold.Hold.TheVariants.{None as Nothing, Read, Write}
use Rattle.token_kind.specs.declared.token.Token.{Token}
use Rattle.token_table.specs.Blockers.{blocks, blocker_of, blockers_of, clients_below, asked_for}
use Rattle.token_table.specs.Changes.{Sets}
use Rattle.token_table.specs.declared.hold_key.HoldKey.{HoldKey}
use Rattle.token_table.specs.Table.{Table, IsTable, IsGrantable, key_of, same_key, same_client, held_of, is_held}
use Rattle.token_table.proofs.Conflicts.{conflict-none}
use Rattle.token_table.proofs.Keys.{same_key-true, same_client-refl}
use Rattle.token_table.proofs.Lists.{filter_map-push}

-- where nothing is gathered of a list in two parts, nothing is of either
nothing_of_parts : {X : Type 0} (xs ys : List X) → xs ++ ys ≡ [] → (xs ≡ []) × (ys ≡ [])
nothing_of_parts [] ys e = (refl, e)
nothing_of_parts (x ∷ xs) ys e = absurd (cc)

none_of_list : (o : Option Blocker) → option_to_list o ≡ [] → o ≡ None
none_of_list None e = refl
none_of_list (Some b) e = absurd (cc)

-- where nothing is gathered of the clients below n, nothing is of each
nothing_of_client : (f : ClientId → Option Blocker) (n k : ℕ) → filter_map f (clients_below n) ≡ [] → k < n → f (record { 0 = k }) ≡ None
unfolding clients_below
nothing_of_client f zero k e below = absurd (omega arith)
nothing_of_client f (suc n) k e below = by (λ lt. nothing_of_client f n k parts.0 lt) (cases_lt k n)
  where
    parts : (filter_map f (clients_below n) ≡ []) × (option_to_list (f (record { 0 = n })) ≡ [])
    parts = nothing_of_parts (filter_map f (clients_below n)) (option_to_list (f (record { 0 = n }))) (sym (filter_map-push f (clients_below n) (record { 0 = n })) ∙ e)

    by : (k < n → f (record { 0 = k }) ≡ None) → (k < n) ⊎ (n ≤ k) → f (record { 0 = k }) ≡ None
    by before (inl lt) = before lt
    by before (inr ge) = let same : n ≡ k = omega arith in subst (λ m. f (record { 0 = m }) ≡ None) same (none_of_list (f (record { 0 = n })) parts.1)

module _ (t : Table) (table : IsTable t) (c : ClientId) where
  -- who is no client of the cluster is in nobody's way
  no_member : (need : Token) (d : ClientId) → 16 ≤ d.0 → (h : Hold) → held_of t d need.ino need.«class» ≡ h → conflict need.hold h ≡ false
  no_member need d ge Nothing e = conflict-none need.hold
  no_member need d ge Read e = let low : (d.0 < 16) × (need.ino.0 < 512) = table.within d need.ino need.«class» (ap is_held e) in absurd (omega arith)
  no_member need d ge Write e = let low : (d.0 < 16) × (need.ino.0 < 512) = table.within d need.ino need.«class» (ap is_held e) in absurd (omega arith)

  -- a client whose hold is no blocker has none that conflicts
  no_conflict : (need : Token) (d : ClientId) → same_client c d ≡ false → blocker_of t c need d ≡ None → conflict need.hold (held_of t d need.ino need.«class») ≡ false
  no_conflict need d ne none = by (conflict need.hold (held_of t d need.ino need.«class»)) refl
    where
      by : (b : Bool) → conflict need.hold (held_of t d need.ino need.«class») ≡ b → b ≡ false
      by true e =
          let found : blocker_of t c need d ≡ Some (record { client = d; ino = need.ino; «class» = need.«class»; asked = asked_for need.hold }) =
          ap (λ (s : Bool). if not s && conflict need.hold (held_of t d need.ino need.«class») then Some (record { client = d; ino = need.ino; «class» = need.«class»; asked = asked_for need.hold }) else None) ne
          ∙ ap (λ (s : Bool). if s then Some (record { client = d; ino = need.ino; «class» = need.«class»; asked = asked_for need.hold }) else None) e in
          absurd (cc)
      by false e = refl

  -- a need without blockers may be granted
  need_is_grantable : (need : Token) → filter_map (blocker_of t c need) (clients_below 16) ≡ [] → IsGrantable t c need
  need_is_grantable need none d ne = by (cases_lt d.0 16)
    where
      by : (d.0 < 16) ⊎ (16 ≤ d.0) → conflict need.hold (held_of t d need.ino need.«class») ≡ false
      by (inl lt) = no_conflict need d ne (nothing_of_client (blocker_of t c need) 16 d.0 none lt)
      by (inr ge) = no_member need d ge (held_of t d need.ino need.«class») refl

  -- a need that no client of the cluster blocks may be granted
  pub grantable_from_free : (need : Token) → ((k : ℕ) → k < 16 → blocks t c need (record { 0 = k }) ≡ false) → IsGrantable t c need
  grantable_from_free need free d ne = by (cases_lt d.0 16)
    where
      by : (d.0 < 16) ⊎ (16 ≤ d.0) → conflict need.hold (held_of t d need.ino need.«class») ≡ false
      by (inl lt) = sym (ap (λ (s : Bool). not s && conflict need.hold (held_of t d need.ino need.«class»)) ne) ∙ free d.0 lt
      by (inr ge) = no_member need d ge (held_of t d need.ino need.«class») refl

  -- and so may all needs that have none
  pub all_grantable : (needs : List Token) → blockers_of t c needs ≡ [] → All (IsGrantable t c) needs
  all_grantable [] none = λ k d lt. absurd (omega arith)
  all_grantable (need ∷ needs) none =
      let parts = nothing_of_parts (filter_map (blocker_of t c need) (clients_below 16)) (blockers_of t c needs) none in
      All-cons (IsGrantable t c) need needs (need_is_grantable need parts.0) (all_grantable needs parts.1)

-- what a client may be granted it may be granted still once another hold of its own is set
pub grantable_after : (old new : Table) (c : ClientId) (ino : Ino) (cls : Class) (hold : Hold) (token : Token) → Sets old new c ino cls hold → IsGrantable old c token → IsGrantable new c token
grantable_after old new c ino cls hold token sets before d ne = rw (sets.holds (key_of d token.ino token.«class»)) (by (same_key (key_of c ino cls) (key_of d token.ino token.«class»)) refl)
  where
    by : (b : Bool) → same_key (key_of c ino cls) (key_of d token.ino token.«class») ≡ b → conflict token.hold (if b then hold else held_of old d token.ino token.«class») ≡ false
    by true e =
        let one : key_of c ino cls ≡ key_of d token.ino token.«class» = same_key-true (key_of c ino cls) (key_of d token.ino token.«class») e in
        absurd (true≢false (sym (same_client-refl c) ∙ ap (λ (k : HoldKey). same_client c k.client) one ∙ ne))
    by false e = before d ne

-- what may be granted is blocked by no client
pub free_from_grantable : (t : Table) (c : ClientId) (need : Token) (d : ClientId) → IsGrantable t c need → blocks t c need d ≡ false
free_from_grantable t c need d may = by (same_client c d) refl
  where
    by : (b : Bool) → same_client c d ≡ b → blocks t c need d ≡ false
    by true e = rw e refl
    by false e = rw e (may d e)
