-- Each link has a place of its own.
use Rattle.std.proofs.Common.{◌≡◌, ◌<◌, ◌≤◌, ◌+◌, ◌-◌, ◌∙◌, ℕ, Bool, true, false, Some, None, if◌then◌else◌, nat_lt, refl, sym, ap, arith}
use Rattle.std.proofs.lemmas.Bool.Decides.{nat_tests}
use Rattle.cal_base.specs.Limits.{clients}
use Rattle.cal_base.specs.declared.identity.ClientId.{ClientId}
use Rattle.cal_base.specs.declared.identity.NodeId.{NodeId}
use Rattle.cal_base.specs.declared.identity.NodeId.TheVariants.{Client, Server}
use Rattle.cal_base.specs.declared.identity.ServerId.TheVariants.{A, B}
use Rattle.packet_links.specs.Links.{link_between, place_of}

-- the two nodes of a link
record Ends : Type 0 where
  from : NodeId
  to : NodeId

-- the nodes of the link at a place
ends_at : ℕ → Ends
ends_at place = if nat_lt place 16 then record { from = Client (record { 0 = place }); to = Server A }
    else (if nat_lt place 32 then record { from = Client (record { 0 = place - 16 }); to = Server B }
    else (if nat_lt place 48 then record { from = Server A; to = Client (record { 0 = place - 32 }) }
    else record { from = Server B; to = Client (record { 0 = place - 48 }) }))

if-true : {X : Type 0} (b : Bool) (x y : X) → b ≡ true → (if b then x else y) ≡ x
if-true true x y e = refl
if-true false x y e = (let both : false ≡ true = e in cc)

if-false : {X : Type 0} (b : Bool) (x y : X) → b ≡ false → (if b then x else y) ≡ y
if-false true x y e = (let both : true ≡ false = e in cc)
if-false false x y e = refl

below : (m n : ℕ) → m < n → nat_lt m n ≡ true
below m n low = grind (arith, nat_tests)

above : (m n : ℕ) → n ≤ m → nat_lt m n ≡ false
above m n high = grind (arith, nat_tests)

-- a client that has a place is one of the clients, and its place is known
placed : (first : ℕ) (client : ClientId) (place : ℕ) → place_of first client ≡ Some place → (client.0 < clients) × (place ≡ first + client.0)
placed first client place e = by (nat_lt client.0 clients) refl e
  where
    by : (b : Bool) → nat_lt client.0 clients ≡ b → (if b then Some (first + client.0) else None) ≡ Some place → (client.0 < clients) × (place ≡ first + client.0)
    by true is same = (grind (arith, nat_tests), cc)
    by false is same = (let both : None ≡ Some place = same in cc)

-- the nodes of a link are those of its place
ends : (from to : NodeId) (place : ℕ) → link_between from to ≡ Some place → ends_at place ≡ record { from = from; to = to }
unfolding ends_at
ends (Client c) (Client d) place e = (let both : None ≡ Some place = e in cc)
ends (Server s) (Server t) place e = (let both : None ≡ Some place = e in cc)
ends (Client c) (Server A) place e =
    let at = placed 0 c place e in
    let low = at.0 in let is = at.1 in
    let same : place ≡ c.0 = omega (arith, is) in
    if-true (nat_lt place 16) _ _ (below place 16 (omega (arith, low, is))) ∙ ap (λ (k : ℕ). record { from = Client (record { 0 = k }); to = Server A }) same
ends (Client c) (Server B) place e =
    let at = placed 16 c place e in
    let low = at.0 in let is = at.1 in
    let same : place - 16 ≡ c.0 = omega (arith, is) in
    if-false (nat_lt place 16) _ _ (above place 16 (omega (arith, is)))
    ∙ if-true (nat_lt place 32) _ _ (below place 32 (omega (arith, low, is)))
    ∙ ap (λ (k : ℕ). record { from = Client (record { 0 = k }); to = Server B }) same
ends (Server A) (Client c) place e =
    let at = placed 32 c place e in
    let low = at.0 in let is = at.1 in
    let same : place - 32 ≡ c.0 = omega (arith, is) in
    if-false (nat_lt place 16) _ _ (above place 16 (omega (arith, is)))
    ∙ if-false (nat_lt place 32) _ _ (above place 32 (omega (arith, is)))
    ∙ if-true (nat_lt place 48) _ _ (below place 48 (omega (arith, low, is)))
    ∙ ap (λ (k : ℕ). record { from = Server A; to = Client (record { 0 = k }) }) same
ends (Server B) (Client c) place e =
    let at = placed 48 c place e in
    let is = at.1 in
    let same : place - 48 ≡ c.0 = omega (arith, is) in
    if-false (nat_lt place 16) _ _ (above place 16 (omega (arith, is)))
    ∙ if-false (nat_lt place 32) _ _ (above place 32 (omega (arith, is)))
    ∙ if-false (nat_lt place 48) _ _ (above place 48 (omega (arith, is)))
    ∙ ap (λ (k : ℕ). record { from = Server B; to = Client (record { 0 = k }) }) same

-- at one place there is one link
pub one_link : (from to a b : NodeId) (place : ℕ) → link_between from to ≡ Some place → link_between a b ≡ Some place → (a ≡ from) × (b ≡ to)
one_link from to a b place first second =
    let same : record { from = a; to = b } ≡ record { from = from; to = to } = sym (ends a b place second) ∙ ends from to place first in
    (ap (λ (e : Ends). e.from) same, ap (λ (e : Ends). e.to) same)
