-- What may be granted, and the items of a Grant.
use Rattle.std.specs.Prelude.{◌≡◌, ◌≢◌, ◌<◌, ◌≤◌, ◌+◌, [], ℕ, Bool, true, false, List, All, filter, map, length}
use Rattle.std.specs.List.{list_any}
use Rattle.cal_base.specs.Limits as limits
use Rattle.cal_base.specs.declared.identity.ClientId.{ClientId}
use Rattle.cal_base.specs.declared.identity.Ino.{Ino}
use Rattle.message.specs.Range.{IsGrantItem}
use Rattle.shared_disk.specs.Disk.{Disk}
use Rattle.token_kind.specs.declared.«class».Class.{Class}
use Rattle.token_kind.specs.declared.«class».Class.TheVariants.{Names, Data}
use Rattle.token_kind.specs.declared.grant_item.GrantItem.{GrantItem}
use Rattle.token_kind.specs.declared.token.Token.{Token}
use Rattle.token_table.specs.Table.{IsToken, is_data_write}
use Rattle.revocation.specs.Formed.{is_of_directory}
use Rattle.tree_law.specs.declared.request.Want.{Want}
use Rattle.tree_law.specs.declared.request.Want.TheVariants.{Stat, Open as OpenWant, Readdir, Read as ReadWant, Write as WriteWant}
use Rattle.tree_law.specs.Rename.{is_directory}
use Rattle.tree_law.specs.Tree.{node_at}
use Rattle.volume.specs.Volume.{Volume}
use Rattle.volume_plan.specs.Shown.{shown}
use Rattle.cluster_law.specs.DiskRules.{is_in_blocks, reads_for}
use Rattle.cluster_law.specs.Tokens.{same_class}
use Rattle.volume_names.specs.Named.{AreNamed}
use Rattle.cluster_law.specs.Granting.{IsItem}
use Rattle.cluster_law.specs.Lists.{Each}
use Rattle.cluster_law.specs.ServerState.{ServerState, granted_token}
use Rattle.server_draft.specs.Draft.{reached}
use Rattle.server_draft.specs.declared.draft.Draft.{Draft}
use Rattle.server_line.specs.Known.{SeesOwn, known}

-- Names are of a directory that the volume shows
abbrev pub IsNamed : Volume → Ino → Class → Type 0
IsNamed volume ino cls = cls ≡ Names → is_directory (node_at (shown volume) ino) ≡ true

-- what a client may be granted of a volume: a hold that its class can have, of an inode, and Names of a directory
pub record IsNeed (volume : Volume) (need : Token) : Type 0 where
  pub ino : need.ino.0 < limits.inodes
  pub mode : IsToken need
  pub named : IsNamed volume need.ino need.«class»

-- needs of one request: as many as a path has names, and one; each inode is needed as a directory or as a file, and
-- at most one need is Data Write
pub record AreNeeds (volume : Volume) (needs : List Token) : Type 0 where
  pub each : All (IsNeed volume) needs
  pub count : length needs ≤ limits.path_names + 1
  pub kinds : Ino → Bool
  pub of_kind : All (λ need. is_of_directory need.«class» ≡ kinds need.ino) needs
  pub writes : length (filter (λ need. is_data_write need.«class» need.hold) needs) ≤ 1

-- how many names the path of a want has
abbrev pub names_in : Want → ℕ
names_in (Stat path) = length path
names_in (OpenWant path) = length path
names_in (Readdir path) = length path
names_in (ReadWant ino) = 0
names_in (WriteWant ino) = 0

-- blocks are read for what comes with a class: for Data, where the file has any
abbrev pub MayRead : Draft → Class → Ino → Type 0
MayRead draft cls ino = (same_class cls Data ≡ true) × (is_in_blocks (known draft []) ino ≡ true)

-- an item of a Grant answers a need of a client, as the law asks and within a message's limits; under another
-- view's key nothing was read for it
pub record Answers (draft : Draft) (view : ℕ) (disk : Disk) (client : ClientId) (need : Token) (item : GrantItem) : Type 0 where
  pub token : granted_token item ≡ need
  pub item_is : AreNamed draft.image → (seat : ℕ) (start : ServerState) → SeesOwn start view disk → IsItem (known draft (reached seat start draft).sectors) client item
  pub formed : IsGrantItem item
  pub unread : disk.key ≢ view → reads_for (known draft []) client need ≡ false

pub record AreAnswers (draft : Draft) (view : ℕ) (disk : Disk) (client : ClientId) (needs : List Token) (items : List GrantItem) : Type 0 where
  pub tokens : map granted_token items ≡ needs
  pub each : AreNamed draft.image → (seat : ℕ) (start : ServerState) → SeesOwn start view disk → Each (IsItem (known draft (reached seat start draft).sectors) client) items
  pub formed : All IsGrantItem items
  pub unread : disk.key ≢ view → list_any (reads_for (known draft []) client) needs ≡ false
