use Rattle.std.specs.Prelude.{◌≡◌, ◌<◌, ◌↔◌, ℕ, false, List, Contains, Some, slice_get}
use Rattle.std.specs.List.{position_or_len}
use Rattle.cal_base.specs.declared.identity.ClientId.{ClientId}
use Rattle.token_kind.specs.declared.blocker.Blocker.{Blocker}
use Rattle.token_kind.specs.declared.hold.Hold.{Hold}
use Rattle.token_kind.specs.declared.revoke.Revoke.{Revoke}
use Rattle.token_table.specs.declared.hold_key.HoldKey.{HoldKey}
use Rattle.revocation.specs.Revokes.{same_owner, owner_of, is_asked}
use Rattle.revocation.specs.declared.owner.Owner.{Owner}

-- the client that a Revoke goes to, and the inode that it is about
abbrev pub sent_to : ClientId × Revoke → Owner
sent_to sent = record { client = sent.0; ino = sent.1.ino }

-- where a client and inode first stand in a list of blockers
abbrev pub first_place : List Blocker → Owner → ℕ
first_place blockers o = position_or_len (λ b. same_owner o (owner_of b)) blockers

-- of two Revokes that goes out first whose client and inode first stand earlier in the list of blockers; so no two have the same
abbrev pub AreInOrder : List Blocker → List (ClientId × Revoke) → Type 0
AreInOrder blockers revokes =
    (i j : ℕ) (first second : ClientId × Revoke) → i < j → slice_get revokes i ≡ Some first → slice_get revokes j ≡ Some second
    → first_place blockers (sent_to first) < first_place blockers (sent_to second)

-- a Revoke of an inode goes to a client
abbrev pub IsSent : List (ClientId × Revoke) → Owner → Type 0
IsSent revokes o = (sent : ClientId × Revoke) × Contains revokes sent × (sent_to sent ≡ o)

-- a hold of a client on an inode stands among the blockers and isn't asked yet
abbrev pub IsToAsk : List (HoldKey × Hold) → List Blocker → Owner → Type 0
IsToAsk asked blockers o = (b : Blocker) × Contains blockers b × (owner_of b ≡ o) × (is_asked asked b ≡ false)

-- a Revoke of an inode goes to a client exactly where one of its holds on it is a blocker that isn't asked yet
abbrev pub AreSentWhereNeeded : List (HoldKey × Hold) → List Blocker → List (ClientId × Revoke) → Type 0
AreSentWhereNeeded asked blockers revokes = (o : Owner) → IsSent revokes o ↔ IsToAsk asked blockers o
