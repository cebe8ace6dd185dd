-- Packets are kept one after the other, and clients are made so.
use Rattle.std.proofs.Common.{◌≡◌, ◌⊎◌, ◌<◌, ◌+◌, ◌++◌, ◌∷◌, [], ℕ, zero, suc, Bool, false, Option, Some, List, get_or, length, replicate, slice_get, take, append_assoc, arith, refl, sym, ap, ◌∙◌, subst, inl, inr}
use Rattle.cal_base.specs.declared.identity.ClientId.{ClientId}
use Rattle.client_node.specs.Node.{NodeValue as ClientNode}
use Rattle.session.specs.declared.packet.Packet.{Packet}
use Rattle.world.specs.Made.{new_client}
use Rattle.world.specs.World.{if_running}
use Rattle.world.proofs.Places.{get_before, get_last, replicate_more, same_or_other}

take_one : {X : Type 0} (xs : List X) (i : ℕ) (x : X) → i < length xs → x ≡ get_or xs i x → take i xs ++ x ∷ [] ≡ take (suc i) xs
take_one [] i x l e = absurd (omega arith)
take_one (y ∷ ys) zero x l e = ap (λ z. z ∷ []) e
take_one (y ∷ ys) (suc i) x l e = ap (λ zs. y ∷ zs) (take_one ys i x (omega arith) e)

pub sent_more : (base old new : List Packet) (xs : List Packet) (i : ℕ) (item copy : Packet) → i < length xs → item ≡ get_or xs i item → copy ≡ item → old ≡ base ++ take i xs → new ≡ old ++ copy ∷ [] → new ≡ base ++ take (i + 1) xs
sent_more base old new xs i item copy l is same was now = now ∙ ap (λ (p : Packet). old ++ p ∷ []) same ∙ ap (λ (ps : List Packet). ps ++ item ∷ []) was ∙ append_assoc base (take i xs) (item ∷ []) ∙ ap (λ (ps : List Packet). base ++ ps) (take_one xs i item l is) ∙ (let e : suc i ≡ i + 1 = omega arith in ap (λ (n : ℕ). base ++ take n xs) e)

pub flags_more : (base old new : List Bool) (i : ℕ) → old ≡ base ++ replicate i false → new ≡ old ++ false ∷ [] → new ≡ base ++ replicate (i + 1) false
flags_more base old new i was now = now ∙ ap (λ (fs : List Bool). fs ++ false ∷ []) was ∙ append_assoc base (replicate i false) (false ∷ []) ∙ ap (λ (fs : List Bool). base ++ fs) (replicate_more i false) ∙ (let e : suc i ≡ i + 1 = omega arith in ap (λ (n : ℕ). base ++ replicate n false) e)

-- the clients with numbers below n are new
abbrev pub AreNew : List (Option ClientNode) → ℕ → Type 0
AreNew nodes n = (client : ClientId) → client.0 < n → if_running (slice_get nodes client.0) ≡ Some (new_client client)

new_at : (nodes : List (Option ClientNode)) (n : ℕ) (node : ClientNode) → length nodes ≡ n → AreNew nodes n → node ≡ new_client (record { 0 = n }) → (client : ClientId) → client.0 < n + 1 → (client.0 ≡ n) ⊎ (client.0 ≡ n → ⊥) → if_running (slice_get (nodes ++ Some node ∷ []) client.0) ≡ Some (new_client client)
new_at nodes n node len new is client l (inl e) =
    let this : client ≡ record { 0 = n } = ap (λ (k : ℕ). let it : ClientId = record { 0 = k } in it) e in
    ap (λ (k : ℕ). if_running (slice_get (nodes ++ Some node ∷ []) k)) (e ∙ sym len) ∙ ap if_running (get_last nodes (Some node)) ∙ ap Some (is ∙ ap new_client (sym this))
new_at nodes n node len new is client l (inr other) = ap if_running (get_before nodes (Some node) client.0 (let a = len in let b = l in grind arith)) ∙ new client (grind arith)

pub new_more : (nodes more : List (Option ClientNode)) (n : ℕ) (node : ClientNode) → length nodes ≡ n → AreNew nodes n → node ≡ new_client (record { 0 = n }) → more ≡ nodes ++ Some node ∷ [] → AreNew more (n + 1)
new_more nodes more n node len new is e = λ client l. subst (λ (all : List (Option ClientNode)). if_running (slice_get all client.0) ≡ Some (new_client client)) (sym e) (new_at nodes n node len new is client l (same_or_other n client.0))

length_one : {X : Type 0} (xs : List X) (x : X) → length (xs ++ x ∷ []) ≡ length xs + 1
length_one [] x = refl
length_one (y ∷ ys) x = (let e = length_one ys x in omega arith)

pub length_more : {X : Type 0} (xs ys : List X) (x : X) (n : ℕ) → length xs ≡ n → ys ≡ xs ++ x ∷ [] → length ys ≡ n + 1
length_more xs ys x n len e = ap length e ∙ length_one xs x ∙ ap (λ (k : ℕ). k + 1) len
