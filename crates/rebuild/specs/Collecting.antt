use Rattle.std.specs.Prelude.{ℕ, List, Bool, true, false, Option, Some, None, if◌then◌else◌, nat_lt, unwrap_or, count_by, position, replicate, slice_get, slice_set}
use Rattle.std.specs.Option.{option_map}
use Rattle.cal_base.specs.Limits.{clients}
use Rattle.cal_base.specs.declared.identity.ClientId.{ClientId}
use Rattle.token_table.specs.Table.{Table}
use Rattle.rebuild.specs.declared.phase.Phase.{Phase}
use Rattle.rebuild.specs.declared.phase.Phase.TheVariants.{Collecting as Collects, Admitted}
use Rattle.rebuild.specs.declared.reporting.Reporting.{Reporting}
use Rattle.rebuild.specs.declared.reporting.Reporting.TheVariants.{Unlisted, Listed, Asked, Whole, Purged}

-- how many clients are asked at a time; where each client stands, client 0 first; and what they hold
pub record Collecting : Type 0 where
  pub window : ℕ
  pub standings : List Reporting
  pub table : Table

-- where clients stand before any is listed
abbrev pub none_listed : List Reporting
none_listed = replicate clients Unlisted

-- where a client stands
abbrev pub standing_of : Collecting → ClientId → Reporting
standing_of s c = unwrap_or (slice_get s.standings c.0) Unlisted

-- a client isn't listed
abbrev pub is_unlisted : Reporting → Bool
is_unlisted Unlisted = true
is_unlisted Listed = false
is_unlisted (Asked next) = false
is_unlisted Whole = false
is_unlisted Purged = false

-- a client is listed and not yet asked
abbrev pub is_to_ask : Reporting → Bool
is_to_ask Unlisted = false
is_to_ask Listed = true
is_to_ask (Asked next) = false
is_to_ask Whole = false
is_to_ask Purged = false

-- a client was asked, and its report isn't whole
abbrev pub is_asked : Reporting → Bool
is_asked Unlisted = false
is_asked Listed = false
is_asked (Asked next) = true
is_asked Whole = false
is_asked Purged = false

-- a client is listed, its report isn't whole, and it isn't purged
abbrev pub is_missing : Reporting → Bool
is_missing Unlisted = false
is_missing Listed = true
is_missing (Asked next) = true
is_missing Whole = false
is_missing Purged = false

-- a client stands elsewhere, and all else is the same
abbrev pub with_standing : Collecting → ClientId → Reporting → Collecting
with_standing s c standing = record s { standings = slice_set s.standings c.0 standing }

-- a client is listed, unless it was listed before
abbrev pub listing : Collecting → ClientId → Collecting
listing s c = if is_unlisted (standing_of s c) then with_standing s c Listed else s

-- the client with a number
abbrev pub client : ℕ → ClientId
client n = record { 0 = n }

-- the least client that is to be asked
abbrev pub first_to_ask : Collecting → Option ClientId
first_to_ask s = option_map client (position is_to_ask s.standings)

-- the client that is asked next: while fewer than the window are asked and not whole, the least that is to be asked
abbrev pub next_of : Collecting → Option ClientId
next_of s = if nat_lt (count_by is_asked s.standings) s.window then first_to_ask s else None

-- a client, if there is one, is asked: its piece 0 comes next
abbrev pub asking : Collecting → Option ClientId → Collecting
asking s None = s
asking s (Some c) = with_standing s c (Asked 0)

-- the least client that is listed, not purged and not whole
abbrev pub missing_of : Collecting → Option ClientId
missing_of s = option_map client (position is_missing s.standings)

-- a server collects while a client is missing, and is admitted where none is
abbrev pub phase_by : Option ClientId → Phase
phase_by None = Admitted
phase_by (Some c) = Collects

-- where a server stands in its view
abbrev pub phase_of : Collecting → Phase
phase_of s = phase_by (missing_of s)
