-- How many messages acts make for a client.
use Rattle.std.proofs.Common.{◌≡◌, ◌≤◌, ◌<◌, ◌+◌, ◌++◌, ◌∷◌, [], ℕ, suc, Bool, true, false, nat_eq, ◌||◌, List, All, Contains, Some, slice_get, length, map, ap, refl, subst, sym, ◌∙◌, if◌then◌else◌, arith, rules}
use Rattle.std.specs.List.{AllByRecursion, IsDistinct, list_any}
use Rattle.std.proofs.lemmas.List.Elements.{All-contains, All-head, All-tail}
use Rattle.std.proofs.lemmas.Map.Steps.{length-le_from_distinct_below}
use Rattle.cal_base.specs.Limits as limits
use Rattle.cal_base.specs.declared.identity.ClientId.{ClientId}
use Rattle.message.specs.declared.message.Message.{Message}
use Rattle.token_kind.specs.Kept.{IsRevoke}
use Rattle.token_kind.specs.declared.blocker.Blocker.{Blocker}
use Rattle.token_kind.specs.declared.«class».Class.{Class}
use Rattle.token_kind.specs.declared.hold.Hold.{Hold}
use Rattle.token_kind.specs.declared.revoke.Revoke.{Revoke}
use Rattle.revocation.specs.Order.{AreInOrder, first_place, sent_to}
use Rattle.revocation.specs.Reasons.{IsOfBlockers}
use Rattle.server_draft.specs.Acts.{asked_back, tells, told_to}
use Rattle.server_draft.specs.Draft.{IsWithin}
use Rattle.server_draft.specs.declared.act.Act.{Act}
use Rattle.server_draft.specs.declared.act.Act.TheVariants.{Tells}

plus-zero : (n : ℕ) → n + 0 ≡ n
plus-zero n = omega arith

zero-plus : (n : ℕ) → 0 + n ≡ n
zero-plus n = omega arith

plus-plus : (a b c : ℕ) → a + (b + c) ≡ (a + b) + c
plus-plus a b c = omega arith

-- acts that are put to others make their messages beside
pub told-append : (to : ℕ) (acts more : List Act) → told_to to (acts ++ more) ≡ told_to to acts + told_to to more
unfolding told_to
told-append to [] more = sym (zero-plus (told_to to more))
told-append to (act ∷ acts) more = ap (λ (n : ℕ). tells to act + n) (told-append to acts more) ∙ plus-plus (tells to act) (told_to to acts) (told_to to more)

-- and so does one
pub counted-one : (old new : List Act) (act : Act) (to : ℕ) → new ≡ old ++ act ∷ [] → told_to to new ≡ told_to to old + tells to act
unfolding told_to
counted-one old new act to is = ap (told_to to) is ∙ told-append to old (act ∷ []) ∙ ap (λ (n : ℕ). told_to to old + n) (plus-zero (tells to act))

-- one that is no message makes none
pub counted-none : (old new : List Act) (act : Act) (to : ℕ) → tells to act ≡ 0 → new ≡ old ++ act ∷ [] → told_to to new ≡ told_to to old
counted-none old new act to none is = counted-one old new act to is ∙ ap (λ (n : ℕ). told_to to old + n) none ∙ plus-zero (told_to to old)

-- a message is at most one for a client
pub one-at-most : (to : ℕ) (c : ClientId) (message : Message) (old new : List Act) → told_to to new ≡ told_to to old + tells to (Tells c message) → told_to to new ≤ told_to to old + 1
one-at-most to c message old new count = by (nat_eq c.0 to) count
  where
    by : (b : Bool) → told_to to new ≡ told_to to old + (if b then 1 else 0) → told_to to new ≤ told_to to old + 1
    by true is = omega (arith, is)
    by false is = omega (arith, is)

-- the inodes about which Revokes go to a client
abbrev inodes_to : ℕ → List (ClientId × Revoke) → List ℕ
inodes_to to [] = []
inodes_to to (sent ∷ revokes) = if nat_eq sent.0.0 to then sent.1.ino.0 ∷ inodes_to to revokes else inodes_to to revokes

-- are as many as these Revokes
asked-amount : (to : ℕ) (revokes : List (ClientId × Revoke)) → told_to to (map asked_back revokes) ≡ length (inodes_to to revokes)
unfolding told_to
asked-amount to [] = refl
asked-amount to (sent ∷ revokes) = by (nat_eq sent.0.0 to) (asked-amount to revokes)
  where
    by : (b : Bool) → told_to to (map asked_back revokes) ≡ length (inodes_to to revokes)
        → (if b then 1 else 0) + told_to to (map asked_back revokes) ≡ length (if b then sent.1.ino.0 ∷ inodes_to to revokes else inodes_to to revokes)
    by true rest = omega (arith, rest)
    by false rest = omega (arith, rest)

-- Revokes to one client whose places differ are about different inodes
ino-apart : (bs : List Blocker) (to : ℕ) (first second : ClientId × Revoke) → nat_eq first.0.0 to ≡ true → nat_eq second.0.0 to ≡ true
    → first_place bs (sent_to first) < first_place bs (sent_to second) → nat_eq first.1.ino.0 second.1.ino.0 ≡ false
ino-apart bs to first second a b before = by (nat_eq first.1.ino.0 second.1.ino.0) refl
  where
    client : first.0.0 ≡ second.0.0
    client = search rules

    by : (t : Bool) → nat_eq first.1.ino.0 second.1.ino.0 ≡ t → t ≡ false
    by false e = refl
    by true e =
        let ino : first.1.ino.0 ≡ second.1.ino.0 = search rules in
        let both : first.0 ≡ second.0 = search rules in
        let inos : first.1.ino ≡ second.1.ino = search rules in
        let same : sent_to first ≡ sent_to second = cc in
        let place : first_place bs (sent_to first) ≡ first_place bs (sent_to second) = ap (first_place bs) same in
        absurd (omega (arith, place, before))

ahead : (bs : List Blocker) (to : ℕ) (sent : ClientId × Revoke) (revokes : List (ClientId × Revoke)) → nat_eq sent.0.0 to ≡ true
    → ((j : ℕ) (second : ClientId × Revoke) → slice_get revokes j ≡ Some second → first_place bs (sent_to sent) < first_place bs (sent_to second))
    → AllByRecursion (λ m. nat_eq sent.1.ino.0 m ≡ false) (inodes_to to revokes)
ahead bs to sent [] mine before = tt
ahead bs to sent (next ∷ revokes) mine before = by (nat_eq next.0.0 to) refl (ahead bs to sent revokes mine (λ j second at. before (suc j) second at))
  where
    by : (b : Bool) → nat_eq next.0.0 to ≡ b → AllByRecursion (λ m. nat_eq sent.1.ino.0 m ≡ false) (inodes_to to revokes)
        → AllByRecursion (λ m. nat_eq sent.1.ino.0 m ≡ false) (if b then next.1.ino.0 ∷ inodes_to to revokes else inodes_to to revokes)
    by true e rest = (ino-apart bs to sent next mine e (before 0 next refl), rest)
    by false e rest = rest

inodes-differ : (bs : List Blocker) (to : ℕ) (revokes : List (ClientId × Revoke)) → AreInOrder bs revokes → IsDistinct nat_eq (inodes_to to revokes)
unfolding IsDistinct
inodes-differ bs to [] order = tt
inodes-differ bs to (sent ∷ revokes) order = by (nat_eq sent.0.0 to) refl (inodes-differ bs to revokes (λ i j first second lt a b. order (suc i) (suc j) first second (omega (arith, lt)) a b))
  where
    by : (b : Bool) → nat_eq sent.0.0 to ≡ b → IsDistinct nat_eq (inodes_to to revokes) → IsDistinct nat_eq (if b then sent.1.ino.0 ∷ inodes_to to revokes else inodes_to to revokes)
    by true e rest = (ahead bs to sent revokes e (λ j second at. order 0 (suc j) sent second (omega arith) refl at), rest)
    by false e rest = rest

-- a Revoke is about an inode of the volume
one-inside : (bs : List Blocker) (sent : ClientId × Revoke) (items : List (Class × Hold)) → sent.1.items ≡ items → 1 ≤ length items → All IsWithin bs → IsOfBlockers bs sent → sent.1.ino.0 < limits.inodes
one-inside bs sent [] is some within of = absurd (omega arith)
one-inside bs sent (item ∷ items) is some within of =
    let first : Contains bs (record { client = sent.0; ino = sent.1.ino; «class» = item.0; asked = item.1 }) =
    subst (λ (xs : List (Class × Hold)). All (λ (x : Class × Hold). Contains bs (record { client = sent.0; ino = sent.1.ino; «class» = x.0; asked = x.1 })) xs) is of 0 item (omega arith) in
    (All-contains IsWithin bs _ within first).ino

inodes-inside : (bs : List Blocker) (to : ℕ) (revokes : List (ClientId × Revoke)) → All (IsOfBlockers bs) revokes → All IsWithin bs → All (λ (sent : ClientId × Revoke). IsRevoke sent.1) revokes
    → (q : ℕ) → list_any (nat_eq q) (inodes_to to revokes) ≡ true → q < limits.inodes
inodes-inside bs to [] of within formed q e = absurd (cc)
inodes-inside bs to (sent ∷ revokes) of within formed q e =
    by (nat_eq sent.0.0 to) e
    (inodes-inside bs to revokes (All-tail (IsOfBlockers bs) sent revokes of) within (All-tail (λ (s : ClientId × Revoke). IsRevoke s.1) sent revokes formed) q)
  where
    inside : sent.1.ino.0 < limits.inodes
    inside = one-inside bs sent sent.1.items refl (All-head (λ (s : ClientId × Revoke). IsRevoke s.1) sent revokes formed).some within (All-head (IsOfBlockers bs) sent revokes of)

    found : (b : Bool) → nat_eq q sent.1.ino.0 ≡ b → (b || list_any (nat_eq q) (inodes_to to revokes)) ≡ true → (list_any (nat_eq q) (inodes_to to revokes) ≡ true → q < limits.inodes) → q < limits.inodes
    found true same e rest = let one : q ≡ sent.1.ino.0 = search rules in let here : sent.1.ino.0 < limits.inodes = inside in omega (arith, one, here)
    found false same e rest = rest e

    by : (b : Bool) → list_any (nat_eq q) (if b then sent.1.ino.0 ∷ inodes_to to revokes else inodes_to to revokes) ≡ true → (list_any (nat_eq q) (inodes_to to revokes) ≡ true → q < limits.inodes) → q < limits.inodes
    by true e rest = found (nat_eq q sent.1.ino.0) refl e rest
    by false e rest = rest e

-- a client is sent at most one Revoke for each inode
pub asked-few : (bs : List Blocker) (to : ℕ) (old new : List Act) (revokes : List (ClientId × Revoke)) → AreInOrder bs revokes → All (IsOfBlockers bs) revokes → All IsWithin bs
    → All (λ (sent : ClientId × Revoke). IsRevoke sent.1) revokes → new ≡ old ++ map asked_back revokes → told_to to new ≤ told_to to old + limits.inodes
asked-few bs to old new revokes order of within formed is =
    let put : told_to to new ≡ told_to to old + told_to to (map asked_back revokes) = ap (told_to to) is ∙ told-append to old (map asked_back revokes) in
    let amount : told_to to (map asked_back revokes) ≡ length (inodes_to to revokes) = asked-amount to revokes in
    let few : length (inodes_to to revokes) ≤ limits.inodes = length-le_from_distinct_below (inodes_to to revokes) limits.inodes (inodes-differ bs to revokes order) (inodes-inside bs to revokes of within formed) in
    omega (arith, put, amount, few)
