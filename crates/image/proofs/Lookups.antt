-- What is found in a volume.
use Rattle.std.proofs.Common.{◌≡◌, ◌≤◌, ◌<◌, ℕ, Bool, true, false, List, Some, None, length, get_or, refl, inl, inr, arith}
use Rattle.cal_base.specs.Limits as limits
use Rattle.std.proofs.lemmas.Bool.{cases_lt}
use Rattle.std.proofs.lemmas.Option.{slice_get-get_or, slice_get_read}
use Rattle.std.specs.List.{position}
use Rattle.inode.specs.Inode.{IsInode}
use Rattle.inode.specs.declared.inode.Inode.{Inode}
use Rattle.space_map.proofs.First.{position_at, position_none}
use Rattle.volume.specs.Volume.{Volume}
use Rattle.volume_edit.specs.Edit.{IsVolume, free_inode, inode_at}
use Rattle.image.specs.Image.{IsNoneBefore, is_free_inode}

pub inode_within : (v : Volume) (number : ℕ) → IsVolume v → number < limits.inodes → IsInode (inode_at v.inodes number)
inode_within v number is below = is.inodes number (inode_at v.inodes number) (slice_get-get_or v.inodes number free_inode (let n = is.inode_count in omega arith))

pub inode_read : (v : Volume) (number : ℕ) (inode : Inode) → IsVolume v → number < limits.inodes → inode ≡ get_or v.inodes number inode → IsInode inode
inode_read v number inode is below read = is.inodes number inode (slice_get_read v.inodes (length v.inodes) number inode refl (let n = is.inode_count in omega arith) read)

-- none before a hint, and none from there to a place, is none before the place
before_place : (test : Inode → Bool) (inodes : List Inode) (hint place : ℕ) → IsNoneBefore test inodes hint
    → ((number : ℕ) → hint ≤ number → number < place → test (inode_at inodes number) ≡ false) → (number : ℕ) → number < place → test (inode_at inodes number) ≡ false
before_place test inodes hint place before rest number low = elim (cases_lt number hint) [
  | inl below ↦ before.none number below
  | inr above ↦ rest number above low
]

-- the first free inode from a hint on is the least
pub least_found : (inodes : List Inode) (hint place : ℕ) → IsNoneBefore is_free_inode inodes hint → place < length inodes → is_free_inode (inode_at inodes place) ≡ true
    → ((number : ℕ) → hint ≤ number → number < place → is_free_inode (inode_at inodes number) ≡ false) → position is_free_inode inodes ≡ Some place
least_found inodes hint place before within here rest =
    position_at is_free_inode inodes place free_inode within here (before_place is_free_inode inodes hint place before rest)

pub none_found : (inodes : List Inode) (hint place : ℕ) → IsNoneBefore is_free_inode inodes hint → length inodes ≤ place
    → ((number : ℕ) → hint ≤ number → number < place → is_free_inode (inode_at inodes number) ≡ false) → position is_free_inode inodes ≡ None
none_found inodes hint place before past rest =
    position_none is_free_inode inodes free_inode (λ number low. before_place is_free_inode inodes hint place before rest number (omega arith))
