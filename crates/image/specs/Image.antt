-- The volume in a server's memory: what it is at first, and what is kept to find things.
use Rattle.std.specs.Prelude.{◌≡◌, ◌≤◌, ◌<◌, ℕ, Bool, true, false, not, List, [], ◌∷◌, replicate}
use Rattle.cal_base.specs.Limits as limits
use Rattle.inode.specs.declared.inode.Inode.{Inode}
use Rattle.inode.specs.declared.inode.Kind.{Kind}
use Rattle.inode.specs.declared.inode.Kind.TheVariants.{Free, File, Dir}
use Rattle.request_log.specs.declared.slot.Slot.{Slot}
use Rattle.volume.specs.Format.{root_inode}
use Rattle.volume.specs.Volume.{Slots, Volume}
use Rattle.volume_edit.specs.Edit.{IsVolume, first_slot, free_inode, inode_at}
use Rattle.volume_plan.specs.Plans.{is_free}

-- the volume of a fresh format: a root without entries, and all else free
unfoldable pub fresh_slots : List Slot
fresh_slots = replicate limits.clients first_slot

unfoldable pub fresh_inodes : List Inode
fresh_inodes = root_inode ∷ replicate limits.last_inode free_inode

unfoldable pub fresh_map : List Bool
fresh_map = replicate limits.blocks true

unfoldable pub no_directories : List Slots
no_directories = replicate limits.inodes []

abbrev pub fresh_volume : ℕ → Volume
fresh_volume clients = record { clients = clients; free = fresh_map; slots = fresh_slots; inodes = fresh_inodes; directories = no_directories }

-- a free inode; a file that no directory names
abbrev pub is_free_inode : Inode → Bool
is_free_inode inode = is_free inode.kind

abbrev pub is_nameless : Kind → Bool → Bool
is_nameless Free named = false
is_nameless File named = not named
is_nameless Dir named = false

abbrev pub is_orphan : Inode → Bool
is_orphan inode = is_nameless inode.kind inode.named

-- of the first inodes none is so
pub record IsNoneBefore (test : Inode → Bool) (inodes : List Inode) (count : ℕ) : Type 0 where
  pub within : count ≤ limits.inodes
  pub none : (number : ℕ) → number < count → test (inode_at inodes number) ≡ false

-- a volume within its grammar; and no inode below the one number is free, none below the other an orphan
pub record IsImage (v : Volume) (least_free least_orphan : ℕ) : Type 0 where
  pub volume : IsVolume v
  pub free : IsNoneBefore is_free_inode v.inodes least_free
  pub orphan : IsNoneBefore is_orphan v.inodes least_orphan

-- the least orphan from a number on
pub record IsLeastOrphan (inodes : List Inode) (from number : ℕ) : Type 0 where
  pub from_on : from ≤ number
  pub to_511 : number < limits.inodes
  pub orphan : is_orphan (inode_at inodes number) ≡ true
  pub least : (lower : ℕ) → from ≤ lower → lower < number → is_orphan (inode_at inodes lower) ≡ false

abbrev pub HasNoOrphan : List Inode → ℕ → Type 0
HasNoOrphan inodes from = (number : ℕ) → from ≤ number → is_orphan (inode_at inodes number) ≡ false
