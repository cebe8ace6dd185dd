use Rattle.std.specs.Prelude.{◌≡◌, ℕ, zero, suc, List, [], ◌∷◌, ◌++◌, Bool, true, false, ◌&&◌, not, Option, Some, None, if◌then◌else◌}
use Rattle.std.specs.List.{filter_map, flat_map}
use Rattle.cal_base.specs.Limits.{clients}
use Rattle.cal_base.specs.declared.identity.ClientId.{ClientId}
use Rattle.cal_base.specs.declared.identity.Ino.{Ino}
use Rattle.token_kind.specs.Hold.{conflict}
use Rattle.token_kind.specs.declared.blocker.Blocker.{Blocker}
use Rattle.token_kind.specs.declared.«class».Class.{Class}
use Rattle.token_kind.specs.declared.«class».Class.TheVariants.{Names, Data, Attr, Open}
use Rattle.token_kind.specs.declared.hold.Hold.{Hold}
use Rattle.token_kind.specs.declared.hold.Hold.TheVariants.{None as Nothing, Read, Write}
use Rattle.token_kind.specs.declared.token.Token.{Token}
use Rattle.token_table.specs.declared.hold_key.HoldKey.{HoldKey}
use Rattle.token_table.specs.Table.{Table, same_client, held_of, is_held}

-- the clients below n, in order
unfoldable pub clients_below : ℕ → List ClientId
clients_below zero = []
clients_below (suc n) = clients_below n ++ record { 0 = n } ∷ []

-- a class is Open
abbrev pub is_open : Class → Bool
is_open Names = false
is_open Data = false
is_open Attr = false
is_open Open = true

-- what the holder in the way of a need may keep: Read beside a reader, nothing beside a writer
abbrev pub asked_for : Hold → Hold
asked_for Nothing = Nothing
asked_for Read = Read
asked_for Write = Nothing

-- client d has a hold that is in the way of what client c needs
abbrev pub blocks : Table → ClientId → Token → ClientId → Bool
blocks t c need d = not (same_client c d) && conflict need.hold (held_of t d need.ino need.«class»)

-- the hold of client d, where it is in the way of what client c needs
abbrev pub blocker_of : Table → ClientId → Token → ClientId → Option Blocker
blocker_of t c need d =
    if not (same_client c d) && conflict need.hold (held_of t d need.ino need.«class»)
    then Some (record { client = d; ino = need.ino; «class» = need.«class»; asked = asked_for need.hold })
    else None

-- all holds of others that conflict with what client c needs: by needs in their order, then by clients in order
abbrev pub blockers_of : Table → ClientId → List Token → List Blocker
blockers_of t c needs = flat_map (λ need. filter_map (blocker_of t c need) (clients_below clients)) needs

-- the hold of client d in a class that is touched
abbrev pub toucher_of : Table → Ino × Class → ClientId → Option Blocker
toucher_of t touch d =
    if is_held (held_of t d touch.0 touch.1)
    then Some (record { client = d; ino = touch.0; «class» = touch.1; asked = Nothing })
    else None

-- all holds in the classes that are touched: by touches in their order, then by clients in order
abbrev pub touchers_of : Table → List (Ino × Class) → List Blocker
touchers_of t touches = flat_map (λ touch. filter_map (toucher_of t touch) (clients_below clients)) touches

-- some client has the file open
abbrev pub IsOpened : Table → Ino → Type 0
IsOpened t ino = (c : ClientId) × (is_held (held_of t c ino Open) ≡ true)

-- a client has the file open
abbrev pub has_open : Table → Ino → ClientId → Bool
has_open t ino c = is_held (held_of t c ino Open)

-- the inode of an entry that is an Open hold
abbrev pub opened_by : HoldKey × Hold → Option Ino
opened_by e = if is_open e.0.«class» && is_held e.1 then Some e.0.ino else None
