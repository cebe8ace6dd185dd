-- A packet with a number that a step hears is answered.
use Rattle.std.proofs.Common.{◌≡◌, ◌++◌, true, false, ◌&&◌, if◌then◌else◌, IsTrue, Option, Some, List, [], ◌∷◌, refl, sym, ◌∙◌, subst, nat_lt}
use Rattle.session.specs.declared.packet.Packet.{Packet}
use Rattle.cluster_law.specs.Delivery.{KeepsDelivery, speaks, sent_on, again, fresh, bare, as_packet, has_number}
use Rattle.cluster_law.specs.Lanes.{Lane, back}
use Rattle.cluster_law.specs.Lists.{is_empty}
use Rattle.cluster_law.specs.Noted.{Setting, Noted, halts}
use Rattle.cluster_law.specs.Sessions.{heard_in}

both-empty : (xs ys : List Packet) → xs ++ ys ≡ [] → (xs ≡ []) × (ys ≡ [])
both-empty [] ys e = (refl, e)
both-empty (x ∷ xs) ys e = cc

-- the bare acknowledgement that is owed where nothing else goes
owed : (o : Option Packet) (xs : List Packet) (x : Packet) → has_number o ≡ true → xs ≡ [] → (if has_number o && is_empty xs then x ∷ [] else []) ≡ [] → ⊥
owed o [] x numbered empty e = let shown : (if true && true then x ∷ [] else []) ≡ [] = subst (λ b. (if b && true then x ∷ [] else []) ≡ []) numbered e in cc
owed o (y ∷ xs) x numbered empty e = cc

has-number : (o : Option Packet) (p : Packet) → o ≡ Some p → nat_lt 0 p.seq ≡ true → has_number o ≡ true
has-number o p e lt = subst (λ q. has_number q ≡ true) (sym e) lt

pub answered : (w : Setting) (lane : Lane) (s : Noted) (earlier : List Noted) (p : Packet) → KeepsDelivery w s earlier → IsTrue (speaks earlier s lane) → halts s ≡ false → heard_in w (back lane) earlier s ≡ Some p → nat_lt 0 p.seq ≡ true → sent_on lane s ≡ [] → ⊥
answered w lane s earlier p k speaking runs heard lt silent =
    let q = both-empty (again w lane s earlier ++ fresh w lane s earlier) (bare w lane s earlier) (sym (k.sent lane speaking runs) ∙ silent) in
    owed (heard_in w (back lane) earlier s) (again w lane s earlier ++ fresh w lane s earlier) (as_packet w lane s earlier 0 []) (has-number (heard_in w (back lane) earlier s) p heard lt) q.0 q.1
