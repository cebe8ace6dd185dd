use Rattle.std.specs.Prelude.{◌≡◌, ◌<◌, ◌≤◌, true, All, List, ◌∷◌, [], ◌++◌, Bool, ◌&&◌, not, nat_eq, nat_le, filter, Option, Some, None, if◌then◌else◌}
use Rattle.std.specs.List.{list_any, filter_map, IsDistinct}
use Rattle.std.specs.Map.{lookup}
use Rattle.cal_base.specs.Limits.{clients, inodes}
use Rattle.cal_base.specs.declared.identity.ClientId.{ClientId}
use Rattle.token_kind.specs.Hold.{hold_number}
use Rattle.token_kind.specs.declared.hold.Hold.{Hold}
use Rattle.token_table.specs.Table.{same_client, same_key}
use Rattle.token_table.specs.declared.hold_key.HoldKey.{HoldKey}
use Rattle.token_kind.specs.declared.blocker.Blocker.{Blocker}
use Rattle.token_kind.specs.declared.token.Token.{Token}
use Rattle.token_table.specs.Table.{key_of}
use Rattle.tree_law.specs.Change.{is_change}
use Rattle.tree_law.specs.declared.request.Asked.{Asked}
use Rattle.tree_law.specs.declared.request.Asked.TheVariants.{Want as Wants, Change}
use Rattle.tree_law.specs.declared.request.Request.{Request}
use Rattle.tree_law.specs.declared.request.Want.{Want}
use Rattle.tree_law.specs.declared.request.Want.TheVariants.{Stat, Open, Readdir, Read, Write}

-- the requests that wait, in order of arrival; and what clients are asked to keep at most of their holds
pub record Waiting : Type 0 where
  pub requests : List Request
  pub asked : List (HoldKey × Hold)

-- two requests are one: the client and the number of its call are the same
abbrev pub same_request : Request → Request → Bool
same_request a b = same_client a.client b.client && nat_eq a.number b.number

-- what a client may want: an inode that it names is one of the volume
abbrev pub IsWant : Want → Type 0
IsWant (Stat path) = Unit {0}
IsWant (Open path) = Unit {0}
IsWant (Readdir path) = Unit {0}
IsWant (Read ino) = ino.0 < inodes
IsWant (Write ino) = ino.0 < inodes

-- what a client may ask: what it may want, or a change
abbrev pub IsAsked : Asked → Type 0
IsAsked (Wants want) = IsWant want
IsAsked (Change call) = is_change call ≡ true

-- what a request may be: of a client of the cluster, with a number from 1
pub record IsRequest (r : Request) : Type 0 where
  pub client : r.client.0 < clients
  pub number : 1 ≤ r.number
  pub asked : IsAsked r.asked

-- the rule of a line: each request stands once, and is what a request may be
pub record IsLine (requests : List Request) : Type 0 where
  pub once : IsDistinct same_request requests
  pub each : All IsRequest requests

-- requests, and one that arrives: it goes to the end, unless it stands in line already
abbrev pub queued : List Request → Request → List Request
queued requests r = if list_any (same_request r) requests then requests else requests ++ r ∷ []

-- what a client is asked to keep at most of a hold; none: no Revoke of it is unanswered
abbrev pub asked_at : List (HoldKey × Hold) → HoldKey → Option Hold
asked_at asked q = lookup (same_key q) asked

-- a hold is asked to a mode, and all other holds are asked as before
abbrev pub Asks : List (HoldKey × Hold) → List (HoldKey × Hold) → HoldKey → Hold → Type 0
Asks old new key mode = (q : HoldKey) → asked_at new q ≡ (if same_key key q then Some mode else asked_at old q)

-- what is still asked of a hold once it is this: nothing where it is at or below what was asked
abbrev pub still_asked : Option Hold → Hold → Option Hold
still_asked None left = None
still_asked (Some asked) left = if nat_le (hold_number left) (hold_number asked) then None else Some asked

-- a hold is now this, and all other holds are asked as before
abbrev pub Answers : List (HoldKey × Hold) → List (HoldKey × Hold) → HoldKey → Hold → Type 0
Answers old new key left = (q : HoldKey) → asked_at new q ≡ (if same_key key q then still_asked (asked_at old q) left else asked_at old q)

-- nothing is asked of a client, and all others are asked as before
abbrev pub AsksNothing : List (HoldKey × Hold) → List (HoldKey × Hold) → ClientId → Type 0
AsksNothing old new c = (q : HoldKey) → asked_at new q ≡ (if same_client c q.client then None else asked_at old q)

-- requests without those of a client
abbrev pub without_client : List Request → ClientId → List Request
without_client requests c = filter (λ r. not (same_client c r.client)) requests

-- a client's own needed hold, where a Revoke of it is unanswered, by what was asked of it
abbrev pub own_blocker : ClientId → Token → Option Hold → Option Blocker
own_blocker c need None = None
own_blocker c need (Some mode) = Some (record { client = c; ino = need.ino; «class» = need.«class»; asked = mode })

-- a client's own needed holds of which a Revoke is unanswered, in the order of the needs, each with what was asked of it
abbrev pub own_blockers : List (HoldKey × Hold) → ClientId → List Token → List Blocker
own_blockers asked c needs = filter_map (λ need. own_blocker c need (asked_at asked (key_of c need.ino need.«class»))) needs
