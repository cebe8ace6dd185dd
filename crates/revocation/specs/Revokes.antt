use Rattle.std.specs.Prelude.{◌≡◌, List, ◌∷◌, [], Bool, false, ◌&&◌, ◌||◌, not, nat_le, nat_lt, fold, Option, Some, None, if◌then◌else◌}
use Rattle.std.specs.List.{filter_map}
use Rattle.std.specs.Option.{option_or}
use Rattle.cal_base.specs.declared.identity.ClientId.{ClientId}
use Rattle.indexmap.specs.IndexSet.{insert_key}
use Rattle.token_kind.specs.Hold.{hold_number, lesser_of}
use Rattle.token_kind.specs.declared.blocker.Blocker.{Blocker}
use Rattle.token_kind.specs.declared.«class».Class.{Class}
use Rattle.token_kind.specs.declared.«class».Class.TheVariants.{Names, Data, Attr}
use Rattle.token_kind.specs.declared.hold.Hold.{Hold}
use Rattle.token_kind.specs.declared.revoke.Revoke.{Revoke}
use Rattle.token_table.specs.Blockers.{is_open}
use Rattle.token_table.specs.Table.{key_of, same_key}
use Rattle.token_table.specs.declared.hold_key.HoldKey.{HoldKey}
use Rattle.revocation.specs.Waiting.{asked_at}
use Rattle.revocation.specs.declared.owner.Owner.{Owner}
use Rattle.revocation.specs.contracts.owner.OwnerPartialEq.TheImpl as owner_eq

-- two clients and inodes are the same
abbrev pub same_owner : Owner → Owner → Bool
same_owner = (owner_eq.ghosts).eq

-- whose hold on which inode a blocker is
abbrev pub owner_of : Blocker → Owner
owner_of b = record { client = b.client; ino = b.ino }

-- the key of the hold that a blocker is
abbrev pub key_of_blocker : Blocker → HoldKey
key_of_blocker b = key_of b.client b.ino b.«class»

-- the lower of what is asked, if anything is, and a further mode
abbrev pub lower_asked : Option Hold → Hold → Hold
lower_asked None mode = mode
lower_asked (Some asked) mode = lesser_of asked mode

-- something is asked already, at or below a mode
abbrev pub is_within : Option Hold → Hold → Bool
is_within None mode = false
is_within (Some asked) mode = nat_le (hold_number asked) (hold_number mode)

-- a blocker is asked already: to its mode or a lower one; or it is Open, which is never asked back
abbrev pub is_asked : List (HoldKey × Hold) → Blocker → Bool
is_asked asked b = is_open b.«class» || is_within (asked_at asked (key_of_blocker b)) b.asked

-- what is asked of a hold once a blocker is asked too; Open is never asked back
abbrev pub asked_with : HoldKey → Option Hold → Blocker → Option Hold
asked_with q asked b = if not (is_open b.«class») && same_key (key_of_blocker b) q then Some (lower_asked asked b.asked) else asked

-- what is asked of a hold once all these blockers are asked
abbrev pub asked_after : List (HoldKey × Hold) → List Blocker → HoldKey → Option Hold
asked_after asked blockers q = fold (asked_with q) (asked_at asked q) blockers

-- what is asked of a hold by what is asked now, or else what was asked before
abbrev pub now_at : List (HoldKey × Hold) → List (HoldKey × Hold) → HoldKey → Option Hold
now_at asked now q = option_or (asked_at now q) (asked_at asked q)

-- what a Revoke says of a class by what was asked of its hold and is asked now: the mode, where less may be kept than before
abbrev pub item_of : Class → Option Hold → Option Hold → Option (Class × Hold)
item_of cls before None = None
item_of cls None (Some now) = Some (cls, now)
item_of cls (Some before) (Some now) = if nat_lt (hold_number now) (hold_number before) then Some (cls, now) else None

-- what a Revoke says of the classes of an inode to a client, by rising class, by what was asked before and is asked now
abbrev pub items_of : (HoldKey → Option Hold) → (HoldKey → Option Hold) → Owner → List (Class × Hold)
items_of before now o = filter_map (λ cls. item_of cls (before (key_of o.client o.ino cls)) (now (key_of o.client o.ino cls))) (Names ∷ Data ∷ Attr ∷ [])

-- the Revoke to a client of an inode with these items, if there are any
abbrev pub revoke_with : Owner → List (Class × Hold) → Option (ClientId × Revoke)
revoke_with o [] = None
revoke_with o (item ∷ items) = Some (o.client, record { ino = o.ino; items = item ∷ items })

-- the Revoke to a client of an inode, if there is anything to ask, by what was asked before and is asked now
abbrev pub revoke_of : (HoldKey → Option Hold) → (HoldKey → Option Hold) → Owner → Option (ClientId × Revoke)
revoke_of before now o = revoke_with o (items_of before now o)

-- the clients and inodes of blockers, each once, in the order in which they first stand
abbrev pub owners : List Blocker → List Owner
owners blockers = fold (λ os b. insert_key same_owner os (owner_of b)) [] blockers

-- the Revokes for blockers: one for each client and inode, for the holds that weren't asked to that mode or a lower one yet
abbrev pub revokes_of : List (HoldKey × Hold) → List Blocker → List (ClientId × Revoke)
revokes_of asked blockers = filter_map (revoke_of (asked_at asked) (asked_after asked blockers)) (owners blockers)

-- the holds of blockers are asked, and all others are asked as before
abbrev pub AsksAll : List (HoldKey × Hold) → List (HoldKey × Hold) → List Blocker → Type 0
AsksAll old new blockers = (q : HoldKey) → asked_at new q ≡ asked_after old blockers q
