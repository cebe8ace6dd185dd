-- What a server knows while it serves its line.
use Rattle.std.specs.Prelude.{◌≡◌, ℕ, true, List, Some, None, is_some}
use Rattle.cal_base.specs.declared.identity.ClientId.{ClientId}
use Rattle.journal.specs.Layout.{outside}
use Rattle.rebuild.specs.Collecting.{missing_of}
use Rattle.revocation.specs.Waiting.{IsRequest}
use Rattle.shared_disk.specs.Disk.{Disk}
use Rattle.tree_law.specs.declared.call.Call.{Call}
use Rattle.tree_law.specs.declared.request.Asked.TheVariants.{Change as Alters}
use Rattle.tree_law.specs.declared.request.Request.{Request}
use Rattle.cluster_law.specs.Lists.{first_of}
use Rattle.cluster_law.specs.ServerState.{ServerState, as_request}
use Rattle.server_desk.specs.Desk.{with_desk}
use Rattle.server_draft.specs.declared.draft.Draft.{Draft}

-- the server that a draft knows, with its files in these sectors
abbrev pub known : Draft → List (List ℕ) → ServerState
known draft sectors = with_desk draft.desk draft.image sectors

-- a request stands at the head of an admitted server's line
pub record IsHead (draft : Draft) (request : Request) : Type 0 where
  pub admitted : missing_of draft.desk.collecting ≡ None
  pub head_is : first_of draft.desk.requests ≡ Some request
  pub request_is : IsRequest request

-- a change stands there, of this client and number
pub record HasChange (draft : Draft) (client : ClientId) (number : ℕ) : Type 0 where
  pub call : Call
  pub head : IsHead draft (as_request client number (Alters call))

-- a disk tells its sectors; where its key is the view they are these, but for the journal's own
pub record TellsOwn (own : List (List ℕ)) (view : ℕ) (disk : Disk) : Type 0 where
  pub sectors : List (List ℕ)
  pub told : disk.sectors ≡ Some sectors
  pub same : disk.key ≡ view → own ≡ outside sectors

-- a server sees on its disk the sectors in which its files are, as long as the key is its view
abbrev pub SeesOwn : ServerState → ℕ → Disk → Type 0
SeesOwn start view disk = TellsOwn start.sectors view disk

-- a request waits at an admitted server
pub record HasHead (draft : Draft) : Type 0 where
  pub admitted : missing_of draft.desk.collecting ≡ None
  pub waits : is_some (first_of draft.desk.requests) ≡ true
