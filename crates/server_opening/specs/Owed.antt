-- What comes to a server in a step, and what it owes for it.
use Rattle.std.specs.Prelude.{[], ℕ, List, IsTrue, if◌then◌else◌, Option, is_none, is_some}
use Rattle.cal_base.specs.declared.identity.ClientId.{ClientId}
use Rattle.message.specs.declared.message.Message.{Message}
use Rattle.message.specs.declared.message.Message.TheVariants.{Acquire, Grant, Refuse, Change, Done, Flush, Flushed, Revoke, Release, Ask, Piece, Wait, Admit}
use Rattle.message.specs.Range.{IsNumber}
use Rattle.rebuild.specs.Collecting.{missing_of}
use Rattle.token_kind.specs.Flush.{IsFlush}
use Rattle.volume.specs.Volume.{Volume}
use Rattle.cluster_law.specs.Asking.{TookRequest, is_flushed, is_wait, was_told}
use Rattle.cluster_law.specs.Granting.{Took}
use Rattle.cluster_law.specs.Lanes as law
use Rattle.cluster_law.specs.ServerState.{ServerState, uses, uses_want}
use Rattle.cluster_law.specs.Sessions.{Taken}
use Rattle.server_desk.specs.Desk.{DeskValue, with_desk}
use Rattle.server_opening.specs.declared.hearing.Owed.{Owed}
use Rattle.server_opening.specs.declared.hearing.Owed.TheVariants.{Nothing, Wait as OwesWait, Flush as OwesFlush}

-- a request that comes while the server waits for reports is told to wait
abbrev pub owed_request : DeskValue → ℕ → Owed
owed_request desk number = if is_none (missing_of desk.collecting) then Nothing else OwesWait number

-- what a server owes a client for a message; an Acquire of the bytes of what is no file is passed over
abbrev pub owed_for : DeskValue → Volume → Message → Owed
owed_for desk volume (Acquire number want) = if uses_want (with_desk desk volume []) want then owed_request desk number else Nothing
owed_for desk volume (Grant number items) = Nothing
owed_for desk volume (Refuse number free needed) = Nothing
owed_for desk volume (Change number call) = owed_request desk number
owed_for desk volume (Done number reply) = Nothing
owed_for desk volume (Flush flush) = OwesFlush flush
owed_for desk volume (Flushed number) = Nothing
owed_for desk volume (Revoke revoke) = Nothing
owed_for desk volume (Release release) = Nothing
owed_for desk volume Ask = Nothing
owed_for desk volume (Piece piece) = Nothing
owed_for desk volume (Wait number client) = Nothing
owed_for desk volume Admit = Nothing

-- what may be owed: for a request of a number, and for a flush
abbrev pub MayBeOwed : Owed → Type 0
MayBeOwed Nothing = Unit {0}
MayBeOwed (OwesWait number) = IsNumber number
MayBeOwed (OwesFlush flush) = IsFlush flush

-- it is owed for the message that the step took
abbrev pub IsOwedFor : Option Taken → ClientId → Owed → Type 0
IsOwedFor took client Nothing = Unit {0}
IsOwedFor took client (OwesWait number) = TookRequest took client number
IsOwedFor took client (OwesFlush flush) = Took took client (Flush flush)

-- what is owed was told: a Wait, while a client is missing, and a flush that isn't passed over
abbrev pub IsPaid : DeskValue → ServerState → ClientId → Owed → List law.Act → Type 0
IsPaid desk start client Nothing acts = Unit {0}
IsPaid desk start client (OwesWait number) acts = IsTrue (is_some (missing_of desk.collecting)) → IsTrue (was_told client.0 is_wait acts)
IsPaid desk start client (OwesFlush flush) acts = IsTrue (uses start client (Flush flush)) → IsTrue (was_told client.0 is_flushed acts)
