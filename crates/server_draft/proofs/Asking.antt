-- Clients that are asked back what blocks.
use Rattle.std.proofs.Common.{◌≡◌, ◌≤◌, ◌++◌, ◌∷◌, [], List, All, Contains, length, map, ap, subst, sym, ◌∙◌, arith, refl}
use Rattle.std.proofs.lemmas.List.{append_assoc}
use Rattle.std.proofs.lemmas.List.Elements.{All-contains}
use Rattle.cal_base.specs.declared.identity.ClientId.{ClientId}
use Rattle.token_kind.specs.Kept.{IsRevoke}
use Rattle.token_kind.specs.declared.blocker.Blocker.{Blocker}
use Rattle.token_kind.specs.declared.«class».Class.{Class}
use Rattle.token_kind.specs.declared.hold.Hold.{Hold}
use Rattle.token_kind.specs.declared.revoke.Revoke.{Revoke}
use Rattle.revocation.specs.Reasons.{IsOfBlockers}
use Rattle.server_draft.specs.Acts.{CanBeDone, asked_back}
use Rattle.server_draft.specs.Draft.{IsWithin}
use Rattle.server_draft.specs.declared.act.Act.{Act}

-- a Revoke for holds of clients of the cluster can be sent
one-done : (bs : List Blocker) (sent : ClientId × Revoke) (items : List (Class × Hold)) → sent.1.items ≡ items → 1 ≤ length items → All IsWithin bs → IsOfBlockers bs sent → IsRevoke sent.1 → CanBeDone (asked_back sent)
one-done bs sent [] is some within of formed = absurd (omega arith)
one-done bs sent (item ∷ items) is some within of formed =
    let first : Contains bs (record { client = sent.0; ino = sent.1.ino; «class» = item.0; asked = item.1 }) =
    subst (λ (xs : List (Class × Hold)). All (λ (x : Class × Hold). Contains bs (record { client = sent.0; ino = sent.1.ino; «class» = x.0; asked = x.1 })) xs) is of 0 item (omega arith) in
    let is-within = All-contains IsWithin bs _ within first in
    (is-within.client, (is-within.ino, formed))

pub all-done : (bs : List Blocker) (revokes : List (ClientId × Revoke)) → All (IsOfBlockers bs) revokes → All IsWithin bs → All (λ (sent : ClientId × Revoke). IsRevoke sent.1) revokes
    → All (λ (sent : ClientId × Revoke). CanBeDone (asked_back sent)) revokes
all-done bs revokes of within formed k d lt = one-done bs _ _ refl (formed k d lt).some within (of k d lt) (formed k d lt)

-- one Revoke less is left to be made
pub asked-more : (old now next : List Act) (all left rest : List (ClientId × Revoke)) (sent : ClientId × Revoke) → left ≡ sent ∷ rest → next ≡ now ++ asked_back sent ∷ [] → now ++ map asked_back left ≡ old ++ map asked_back all
    → next ++ map asked_back rest ≡ old ++ map asked_back all
asked-more old now next all left rest sent is put so =
    ap (λ (acts : List Act). acts ++ map asked_back rest) put
    ∙ append_assoc now (asked_back sent ∷ []) (map asked_back rest)
    ∙ ap (λ (list : List (ClientId × Revoke)). now ++ map asked_back list) (sym is)
    ∙ so
