-- What a server knows of holds and requests, in one value, and the law's server that holds the same.
use Rattle.std.specs.Prelude.{ℕ, List, Option, Some, None}
use Rattle.cal_base.specs.declared.identity.ClientId.{ClientId}
use Rattle.message.specs.declared.message.Message.TheVariants.{Ask}
use Rattle.rebuild.specs.Collecting.{Collecting, listing}
use Rattle.revocation.specs.Waiting.{Waiting}
use Rattle.token_kind.specs.declared.hold.Hold.{Hold}
use Rattle.token_table.specs.declared.hold_key.HoldKey.{HoldKey}
use Rattle.tree_law.specs.declared.request.Request.{Request}
use Rattle.volume.specs.Volume.{Volume}
use Rattle.cluster_law.specs.ServerState.{ServerState, telling}
use Rattle.server_book.specs.Alike.{Alike}

-- where clients stand with their reports, and what they hold; the requests that wait in line, and what clients
-- were asked to give up
pub record DeskValue : Type 0 where
  pub collecting : Collecting
  pub requests : List Request
  pub asked : List (HoldKey × Hold)

-- what a server has collected, and its line, in one value
abbrev pub desk_of : Collecting → Waiting → DeskValue
desk_of collecting line = record { collecting = collecting; requests = line.requests; asked = line.asked }

-- the state of a server that knows this of holds and requests, and has a volume and files in sectors
abbrev pub with_desk : DeskValue → Volume → List (List ℕ) → ServerState
with_desk desk volume sectors = record {
  collecting = desk.collecting;
  requests = desk.requests;
  asked = desk.asked;
  volume = volume;
  sectors = sectors;
}

-- a server of the law holds the same, asks the same, and has the same requests in line
abbrev pub IsLike : DeskValue → ServerState → Type 0
IsLike desk server = Alike (with_desk desk server.volume server.sectors) server

-- a server lists a client, unless it was listed before
abbrev pub with_listed : ServerState → ClientId → ServerState
with_listed server client = record server { collecting = listing server.collecting client }

-- a server tells a client, if there is one, to report
abbrev pub with_asked : ServerState → Option ClientId → ServerState
with_asked server None = server
with_asked server (Some client) = telling server client Ask
