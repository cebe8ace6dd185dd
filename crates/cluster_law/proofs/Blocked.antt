-- What nothing blocks.
use Rattle.std.proofs.Common.{◌≡◌, ◌<◌, ◌+◌, ◌∷◌, [], ℕ, Bool, true, false, not, ◌&&◌, if◌then◌else◌, IsTrue, Option, Some, None, List, refl, subst, arith, rules, Contains, nat_lt}
use Rattle.std.specs.List.{filter_map}
use Rattle.cal_base.specs.declared.identity.ClientId.{ClientId}
use Rattle.cal_base.specs.declared.identity.Ino.{Ino}
use Rattle.revocation.specs.Waiting.{asked_at, own_blocker, own_blockers}
use Rattle.token_kind.specs.Hold.{conflict}
use Rattle.token_kind.specs.declared.blocker.Blocker.{Blocker}
use Rattle.token_kind.specs.declared.grant_item.GrantItem.{GrantItem}
use Rattle.token_kind.specs.declared.hold.Hold.{Hold}
use Rattle.token_kind.specs.declared.token.Token.{Token}
use Rattle.token_table.specs.Blockers.{blocker_of, blockers_of, clients_below}
use Rattle.token_table.specs.Table.{held_of, key_of, same_client}
use Rattle.tree_law.specs.declared.request.Asked.TheVariants.{Want as Wants}
use Rattle.tree_law.specs.declared.request.Want.{Want}
use Rattle.volume_plan.specs.Plans.{free_count}
use Rattle.cluster_law.specs.Blocking.{blocks, blocks_for, first_write, holds_for, is_shown, lacking, lacks_space, needed, or_space, reserved}
use Rattle.cluster_law.specs.Granting.{Grants}
use Rattle.cluster_law.specs.Lists.{is_empty}
use Rattle.cluster_law.specs.ServerState.{ServerState, as_request, granted_token, table_in}
use Rattle.cluster_law.proofs.RuledOut.{Contains-map, both-true, client-below, flat-none, from-filter, gathered-none, parts-empty}
use Rattle.std.proofs.lemmas.Bool.{ltb-true, lt-ltb}

-- where nothing blocks, no hold does
unblocked : (server : ServerState) (wanted : ℕ) (holds : List Blocker) → or_space server wanted holds ≡ [] → holds ≡ []
unblocked server wanted [] e = refl
unblocked server wanted (b ∷ bs) e = cc

blocking-none : (b : Bool) (x : Blocker) (c : Bool) → (if b && c then Some x else None) ≡ None → b ≡ true → c ≡ false
blocking-none true x true e h = cc
blocking-none true x false e h = refl
blocking-none false x c e h = cc

not-true : (b : Bool) → b ≡ false → not b ≡ true
not-true false e = refl
not-true true e = cc

opened-up : (server : ServerState) (client : ClientId) (number : ℕ) (want : Want) → blocks server (as_request client number (Wants want)) ≡ [] → or_space server (blocks_for server client number (Wants want)) (holds_for server client number (Wants want)) ≡ []
unfolding blocks
opened-up server client number want e = e

pub others-apart : (server : ServerState) (client : ClientId) (number : ℕ) (items : List GrantItem) (item : GrantItem) (other : ClientId) → Grants server client number items → Contains items item
    → other.0 < 16 → same_client client other ≡ false → conflict item.hold (held_of (table_in server) other item.ino item.«class») ≡ false
others-apart server client number items item other g member lt apart =
    let free = unblocked server (blocks_for server client number (Wants g.want)) (holds_for server client number (Wants g.want)) (opened-up server client number g.want g.unblocked) in
    let parts = parts-empty (blockers_of (table_in server) client (lacking server client g.want)) (own_blockers server.asked client (needed server g.want)) free in
    let need : Contains (lacking server client g.want) (granted_token item) = subst (λ tokens. Contains tokens (granted_token item)) g.lacks (Contains-map granted_token items item member) in
    let none = flat-none (λ need. filter_map (blocker_of (table_in server) client need) (clients_below 16)) (lacking server client g.want) (granted_token item) need parts.0 in
    let not_there = gathered-none (blocker_of (table_in server) client (granted_token item)) (clients_below 16) other (client-below 16 other lt) none in
    blocking-none (not (same_client client other)) _ (conflict item.hold (held_of (table_in server) other item.ino item.«class»)) not_there (not-true (same_client client other) apart)

own-none : (client : ClientId) (need : Token) (asked : Option Hold) → own_blocker client need asked ≡ None → asked ≡ None
own-none client need None e = refl
own-none client need (Some hold) e = cc

pub own-unasked : (server : ServerState) (client : ClientId) (number : ℕ) (items : List GrantItem) (item : GrantItem) → Grants server client number items → Contains items item
    → asked_at server.asked (key_of client item.ino item.«class») ≡ None
own-unasked server client number items item g member =
    let free = unblocked server (blocks_for server client number (Wants g.want)) (holds_for server client number (Wants g.want)) (opened-up server client number g.want g.unblocked) in
    let parts = parts-empty (blockers_of (table_in server) client (lacking server client g.want)) (own_blockers server.asked client (needed server g.want)) free in
    let need : Contains (lacking server client g.want) (granted_token item) = subst (λ tokens. Contains tokens (granted_token item)) g.lacks (Contains-map granted_token items item member) in
    let wanted = (from-filter (λ need. not (is_shown (table_in server) client need)) (needed server g.want) (granted_token item) need).0 in
    own-none client (granted_token item) _ (gathered-none (λ need. own_blocker client need (asked_at server.asked (key_of client need.ino need.«class»))) (needed server g.want) (granted_token item) wanted parts.1)

-- nothing blocks, though fewer blocks are free than are wanted: so nobody holds Data Write
empty-writes : (writes : List (ClientId × Ino)) → first_write writes ≡ [] → writes ≡ []
empty-writes [] e = refl
empty-writes (x ∷ xs) e = cc

nothing-writes : (server : ServerState) (wanted : ℕ) (holds : List Blocker) → is_empty (or_space server wanted holds) ≡ true → nat_lt (free_count server.volume) wanted ≡ true → (table_in server).writes ≡ []
nothing-writes server wanted [] e short = by (nat_lt (free_count server.volume) (wanted + reserved server)) refl
  where
    by : (b : Bool) → nat_lt (free_count server.volume) (wanted + reserved server) ≡ b → (table_in server).writes ≡ []
    by true t = empty-writes (table_in server).writes (emptied _ (subst (λ b. is_empty (if b then first_write (table_in server).writes else []) ≡ true) t e))
      where
        emptied : (xs : List Blocker) → is_empty xs ≡ true → xs ≡ []
        emptied [] e = refl
        emptied (x ∷ xs) e = cc
    by false t = absurd (more (free_count server.volume) wanted (reserved server) (ltb-true _ _ short) t)
      where
        more : (a b c : ℕ) → a < b → nat_lt a (b + c) ≡ false → ⊥
        more a b c lt not_less = let less : nat_lt a (b + c) ≡ true = lt-ltb a (b + c) (omega arith) in cc
nothing-writes server wanted (b ∷ bs) e short = cc

pub no-writes : (server : ServerState) (client : ClientId) (number : ℕ) (want : Want) → IsTrue (lacks_space server (as_request client number (Wants want))) → (table_in server).writes ≡ []
unfolding blocks
no-writes server client number want lacks =
    let both = both-true (is_empty (blocks server (as_request client number (Wants want)))) (nat_lt (free_count server.volume) (blocks_for server client number (Wants want))) (search rules) in
    nothing-writes server (blocks_for server client number (Wants want)) (holds_for server client number (Wants want)) both.0 both.1
