-- Which blocks an edit may take.
use Rattle.std.specs.Prelude.{◌≡◌, ◌≢◌, ◌⊎◌, ◌+◌, ◌∷◌, [], ℕ, true, List, Some, IfSome, slice_get, slice_index, ⊤}
use Rattle.shared_disk.specs.Map.{at_block}
use Rattle.volume.specs.Volume.{Volume}
use Rattle.volume_edit.specs.Edit.{inode_at}
use Rattle.volume_edit.specs.declared.edit.Edit.{Edit}
use Rattle.volume_edit.specs.declared.edit.Growth.{Growth}
use Rattle.volume_edit.specs.declared.edit.InodeEdit.{InodeEdit}

-- each pointer of an inode is the one that stood at its place before, or names a free block; no two name one block
pub record IsPointing (v : Volume) (e : InodeEdit) : Type 0 where
  pub known : (place block : ℕ) → slice_index e.inode.blocks place ≡ block + 1 → (slice_index (inode_at v.inodes e.ino.0).blocks place ≡ block + 1) ⊎ (slice_get v.free block ≡ Some true)
  pub apart : (place other block : ℕ) → slice_index e.inode.blocks place ≡ block + 1 → slice_index e.inode.blocks other ≡ block + 1 → place ≡ other

-- a directory gets a free block, and the inode doesn't point at it
pub record IsGrowing (v : Volume) (e : Edit) (g : Growth) : Type 0 where
  pub free : slice_get v.free g.block ≡ Some true
  pub alone : IfSome e.inode (λ i. (place : ℕ) → slice_index i.inode.blocks place ≢ g.block + 1)

-- an edit takes free blocks alone
pub record TakesFree (v : Volume) (e : Edit) : Type 0 where
  pub inode : IfSome e.inode (IsPointing v)
  pub growth : IfSome e.growth (IsGrowing v e)

-- a sector is that of a free block
pub record IsFreeSector (v : Volume) (at : ℕ) : Type 0 where
  pub block : ℕ
  pub sector : at ≡ at_block block
  pub free : slice_get v.free block ≡ Some true

-- each of these writes goes to a free block
abbrev pub GoToFree : Volume → List (ℕ × List ℕ) → Type 0
GoToFree v [] = ⊤
GoToFree v (w ∷ ws) = IsFreeSector v w.0 × GoToFree v ws
