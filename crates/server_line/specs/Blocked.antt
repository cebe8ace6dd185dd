-- What blocks a request.
use Rattle.std.specs.Prelude.{◌≡◌, ◌++◌, [], ℕ, List, All}
use Rattle.cal_base.specs.declared.identity.ClientId.{ClientId}
use Rattle.revocation.specs.Formed.{AreAskable}
use Rattle.revocation.specs.Revokes.{revokes_of}
use Rattle.token_table.specs.Table.{IsGrantable, IsTable}
use Rattle.tree_law.specs.declared.request.Asked.TheVariants.{Want as Wants}
use Rattle.tree_law.specs.declared.request.Request.{Request}
use Rattle.tree_law.specs.declared.request.Want.{Want}
use Rattle.cluster_law.specs.Blocking.{blocks, blocks_for, lacking}
use Rattle.cluster_law.specs.ServerState.{ServerState, as_request, table_in}
use Rattle.server_draft.specs.Draft.{IsWithin}
use Rattle.server_draft.specs.declared.draft.Draft.{Draft}
use Rattle.server_line.specs.Granted.{AreNeeds}
use Rattle.server_line.specs.Known.{IsHead, known}
use Rattle.server_line.specs.declared.resting.Blockers.{Blockers}
use Rattle.server_line.specs.declared.needing.Gap.{Gap}

-- these block a request, in order. Those that are asked back can be, and the caller's own are asked already
pub record AreBlockers (server : ServerState) (request : Request) (blockers : Blockers) : Type 0 where
  pub all : blocks server request ≡ blockers.to_ask ++ blockers.own
  pub asked : revokes_of server.asked (blockers.to_ask ++ blockers.own) ≡ revokes_of server.asked blockers.to_ask
  pub table : IsTable (table_in server)

-- blockers that can be asked back, of clients of the cluster and inodes of the volume
pub record CanBeAsked (blockers : Blockers) : Type 0 where
  pub askable : AreAskable blockers.to_ask
  pub within : All IsWithin blockers.to_ask

-- what stands between a client and what it wants: what lacks, what blocks that, and how many blocks it takes
pub record IsGap (server : ServerState) (client : ClientId) (number : ℕ) (want : Want) (gap : Gap) : Type 0 where
  pub lacks : gap.lacking ≡ lacking server client want
  pub wanted_is : gap.wanted ≡ blocks_for server client number (Wants want)
  pub blocked : AreBlockers server (as_request client number (Wants want)) gap.blockers
  pub grantable : gap.blockers.to_ask ≡ [] → All (IsGrantable (table_in server) client) gap.lacking
  pub needs : AreNeeds server.volume gap.lacking

-- an Acquire stands at the head of the line, of this client and number, and this stands between the client and it
pub record HasWant (draft : Draft) (client : ClientId) (number : ℕ) (gap : Gap) : Type 0 where
  pub want : Want
  pub head : IsHead draft (as_request client number (Wants want))
  pub is_gap : (sectors : List (List ℕ)) → IsGap (known draft sectors) client number want gap
