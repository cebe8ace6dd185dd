-- Nodes in their places, where one of them was set.
use Rattle.std.proofs.Common.{◌≡◌, ◌⊎◌, ◌<◌, ◌≤◌, ◌++◌, ℕ, zero, suc, true, false, Option, Some, None, List, [], ◌∷◌, length, replicate, is_some, slice_get, slice_set, arith, inl, inr, refl, ap}
use Rattle.client_node.specs.Node.{NodeValue as ClientNode}
use Rattle.membership.specs.declared.standing.Standing.{Standing}
use Rattle.world.specs.World.{if_running, stands_running}

pub same_or_other : (i j : ℕ) → (j ≡ i) ⊎ (j ≡ i → ⊥)
same_or_other zero zero = inl refl
same_or_other zero (suc j) = inr (λ e. omega arith)
same_or_other (suc i) zero = inr (λ e. omega arith)
same_or_other (suc i) (suc j) = elim (same_or_other i j) [ inl e ↦ inl (ap suc e) | inr n ↦ inr (λ e. n (omega arith)) ]

-- another place stands as it was
pub get_other : {X : Type 0} (xs : List X) (i j : ℕ) (v : X) → (j ≡ i → ⊥) → slice_get (slice_set xs i v) j ≡ slice_get xs j
get_other [] i j v n = refl
get_other (x ∷ xs) zero zero v n = absurd (n refl)
get_other (x ∷ xs) zero (suc j) v n = refl
get_other (x ∷ xs) (suc i) zero v n = refl
get_other (x ∷ xs) (suc i) (suc j) v n = get_other xs i j v (λ e. n (ap suc e))

-- who runs at a place that was set is who was set there
pub set_found : (xs : List (Option ClientNode)) (i : ℕ) (v : Option ClientNode) (x : ClientNode) → if_running (slice_get (slice_set xs i v) i) ≡ Some x → v ≡ Some x
set_found [] i v x e = cc
set_found (y ∷ ys) zero v x e = e
set_found (y ∷ ys) (suc i) v x e = set_found ys i v x e

-- nobody runs where nobody was put
pub set_down : (xs : List (Option ClientNode)) (i : ℕ) → is_some (if_running (slice_get (slice_set xs i None) i)) ≡ false
set_down [] i = refl
set_down (y ∷ ys) zero = refl
set_down (y ∷ ys) (suc i) = set_down ys i

-- where somebody ran, another runs who was put there
pub set_up : (xs : List (Option ClientNode)) (i : ℕ) (v : ClientNode) → is_some (if_running (slice_get xs i)) ≡ true → is_some (if_running (slice_get (slice_set xs i (Some v)) i)) ≡ true
set_up [] i v e = e
set_up (y ∷ ys) zero v e = refl
set_up (y ∷ ys) (suc i) v e = set_up ys i v e

-- a member that was noted as not running doesn't
pub standing_down : (all : List Standing) (i : ℕ) (s : Standing) → stands_running (Some s) ≡ false → stands_running (slice_get (slice_set all i s) i) ≡ false
standing_down [] i s e = refl
standing_down (x ∷ xs) zero s e = e
standing_down (x ∷ xs) (suc i) s e = standing_down xs i s e

-- a place where somebody runs is one of the list
pub is_place : (xs : List (Option ClientNode)) (i : ℕ) → is_some (if_running (slice_get xs i)) ≡ true → i < length xs
is_place [] i e = cc
is_place (y ∷ ys) zero e = omega arith
is_place (y ∷ ys) (suc i) e = (let l = is_place ys i e in omega arith)

-- a number where something stands is one of the list
pub is_index : {X : Type 0} (xs : List X) (i : ℕ) → is_some (slice_get xs i) ≡ true → i < length xs
is_index [] i e = cc
is_index (x ∷ xs) zero e = omega arith
is_index (x ∷ xs) (suc i) e = (let l = is_index xs i e in omega arith)

-- what was set last stands
pub set_again : {X : Type 0} (xs : List X) (i : ℕ) (v w : X) → slice_set (slice_set xs i v) i w ≡ slice_set xs i w
set_again [] i v w = refl
set_again (x ∷ xs) zero v w = refl
set_again (x ∷ xs) (suc i) v w = ap (λ ys. x ∷ ys) (set_again xs i v w)

-- one more at the end of a list: those before stand as they stood, and it is the last
pub get_before : {X : Type 0} (xs : List X) (v : X) (i : ℕ) → i < length xs → slice_get (xs ++ v ∷ []) i ≡ slice_get xs i
get_before [] v i l = absurd (omega arith)
get_before (x ∷ xs) v zero l = refl
get_before (x ∷ xs) v (suc i) l = get_before xs v i (omega arith)

pub get_last : {X : Type 0} (xs : List X) (v : X) → slice_get (xs ++ v ∷ []) (length xs) ≡ Some v
get_last [] v = refl
get_last (x ∷ xs) v = get_last xs v

pub replicate_more : {X : Type 0} (n : ℕ) (v : X) → replicate n v ++ v ∷ [] ≡ replicate (suc n) v
replicate_more zero v = refl
replicate_more (suc n) v = ap (λ ys. v ∷ ys) (replicate_more n v)

pub replicate_at : {X : Type 0} (n i : ℕ) (v : X) → i < n → slice_get (replicate n v) i ≡ Some v
replicate_at zero i v l = absurd (omega arith)
replicate_at (suc n) zero v l = refl
replicate_at (suc n) (suc i) v l = replicate_at n i v (omega arith)

pub past_end : {X : Type 0} (xs : List X) (i : ℕ) → length xs ≤ i → slice_get xs i ≡ None
past_end [] i l = refl
past_end (x ∷ xs) zero l = absurd (omega arith)
past_end (x ∷ xs) (suc i) l = past_end xs i (omega arith)

pub no_place : (xs : List (Option ClientNode)) (i : ℕ) (x : ClientNode) → if_running (slice_get xs i) ≡ Some x → i < length xs
no_place [] i x e = cc
no_place (y ∷ ys) zero x e = omega arith
no_place (y ∷ ys) (suc i) x e = (let l = no_place ys i x e in omega arith)
