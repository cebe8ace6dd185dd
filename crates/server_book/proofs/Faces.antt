-- What is decided by a table and by what is asked is decided by what each look-up finds.
use Rattle.std.specs.Prelude.{◌≡◌, ◌&&◌, Bool, not, nat_le, List, Option, Some, None, filter, fold, if◌then◌else◌, map}
use Rattle.std.specs.List.{filter_map, flat_map, list_any}
use Rattle.cal_base.specs.Limits.{clients, inodes}
use Rattle.cal_base.specs.declared.identity.ClientId.{ClientId}
use Rattle.cal_base.specs.declared.identity.Ino.{Ino}
use Rattle.revocation.specs.Revokes.{asked_with, owners, revoke_of}
use Rattle.revocation.specs.Waiting.{asked_at, own_blocker}
use Rattle.token_kind.specs.Hold.{conflict, hold_number, is_held}
use Rattle.token_kind.specs.declared.blocker.Blocker.{Blocker}
use Rattle.token_kind.specs.declared.«class».Class.{Class}
use Rattle.token_kind.specs.declared.«class».Class.TheVariants.{Open}
use Rattle.token_kind.specs.declared.hold.Hold.{Hold}
use Rattle.token_kind.specs.declared.hold.Hold.TheVariants.{None as Nothing}
use Rattle.token_kind.specs.declared.revoke.Revoke.{Revoke}
use Rattle.token_kind.specs.declared.token.Token.{Token}
use Rattle.token_table.specs.Blockers.{asked_for, clients_below}
use Rattle.token_table.specs.Series.{Same}
use Rattle.token_table.specs.Table.{Table, hold_at, key_of, same_client}
use Rattle.token_table.specs.declared.hold_key.HoldKey.{HoldKey}
use Rattle.tree_law.specs.Needs.{needs_of_want}
use Rattle.tree_law.specs.declared.request.Want.{Want}
use Rattle.volume.specs.Volume.{Volume}
use Rattle.volume_plan.specs.Shown.{shown}
use Rattle.cluster_law.specs.Lists.{inodes_below}
use Rattle.cluster_law.specs.Tokens.{token_of}

-- what every client holds, and what is asked of it
abbrev pub Held : Type 0
Held = HoldKey → Hold

abbrev pub Back : Type 0
Back = HoldKey → Option Hold

-- tables that are the same hold the same at all keys at once
pub holds-path : (t u : Table) → Same t u → hold_at t.holds ≡ hold_at u.holds
holds-path t u same = λ i. λ q. same.holds q i

-- and what is asked alike at each key is asked alike at all
pub asked-path : (old new : List (HoldKey × Hold)) → ((q : HoldKey) → asked_at old q ≡ asked_at new q) → asked_at old ≡ asked_at new
asked-path old new same = λ i. λ q. same q i

-- the holds in the way of needs, and those in touched classes
abbrev pub blockers_by : Held → ClientId → List Token → List Blocker
blockers_by held c needs = flat_map (λ need. filter_map (λ d.
    if not (same_client c d) && conflict need.hold (held (key_of d need.ino need.«class»))
    then Some (record { client = d; ino = need.ino; «class» = need.«class»; asked = asked_for need.hold })
    else None) (clients_below clients)) needs

abbrev pub touchers_by : Held → List (Ino × Class) → List Blocker
touchers_by held touches = flat_map (λ touch. filter_map (λ d.
    if is_held (held (key_of d touch.0 touch.1))
    then Some (record { client = d; ino = touch.0; «class» = touch.1; asked = Nothing })
    else None) (clients_below clients)) touches

-- the caller's own needed holds that it was asked to give up
abbrev pub own_by : Back → ClientId → List Token → List Blocker
own_by back c needs = filter_map (λ need. own_blocker c need (back (key_of c need.ino need.«class»))) needs

-- what a client needs and doesn't hold
abbrev pub needed_by : Volume → Want → List Token
needed_by volume want = map token_of (needs_of_want (shown volume) want)

abbrev pub lacking_by : Held → Volume → ClientId → Want → List Token
lacking_by held volume client want = filter (λ need. not (nat_le (hold_number need.hold) (hold_number (held (key_of client need.ino need.«class»))))) (needed_by volume want)

-- whether someone has a file open, and the files that someone has
abbrev pub is_open_by : Held → Ino → Bool
is_open_by held ino = list_any (λ c. is_held (held (key_of c ino Open))) (clients_below clients)

abbrev pub opened_by : Held → List Ino
opened_by held = filter (is_open_by held) (inodes_below inodes)

-- what is asked once blockers are asked too, and the Revokes for them
abbrev pub after_by : Back → List Blocker → Back
after_by back blockers q = fold (asked_with q) (back q) blockers

abbrev pub revokes_by : Back → List Blocker → List (ClientId × Revoke)
revokes_by back blockers = filter_map (revoke_of back (after_by back blockers)) (owners blockers)
