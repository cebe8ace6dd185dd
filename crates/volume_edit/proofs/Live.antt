-- The blocks of directories, after an edit.
use Rattle.std.proofs.Common.{◌≡◌, ◌<◌, ◌≤◌, ◌*◌, ◌/◌, ℕ, false, length, slice_index, ◌∙◌, subst, arith}
use Rattle.cal_base.specs.Limits as limits
use Rattle.inode.specs.Inode.{IsDirInode, KindAllows}
use Rattle.inode.specs.declared.inode.Kind.{Kind}
use Rattle.inode.specs.declared.inode.Kind.TheVariants.{Dir}
use Rattle.volume.specs.Volume.{Volume, slots_of}
use Rattle.volume_edit.specs.Edit.{IsEdit, IsEntering, IsLeaving, IsVolume, edited, inode_at, is_edited}
use Rattle.volume_edit.specs.declared.edit.Edit.{Edit}
use Rattle.volume_edit.specs.declared.edit.Entering.{Entering}
use Rattle.volume_edit.specs.declared.edit.Leaving.{Leaving}
use Rattle.volume_edit.proofs.Directories.{count_grown, count_kept, count_left_past}
use Rattle.volume_edit.proofs.Grammar.{count_dir, inode_is, kind_kept}
use Rattle.volume_edit.proofs.Inodes.{does_grow, grows, stays}
use Rattle.volume_edit.proofs.SlotChanges.{length-grown}

-- a block of a directory
pub record IsLive (v : Volume) (number index : ℕ) : Type 0 where
  pub to_511 : number < limits.inodes
  pub kind : (inode_at v.inodes number).kind ≡ Dir
  pub within : 128 * index < length (slots_of v number)

pub is_dir : (v : Volume) → IsVolume v → (number : ℕ) → number < limits.inodes → (inode_at v.inodes number).kind ≡ Dir → IsDirInode (inode_at v.inodes number)
is_dir v h number below dir = subst (λ (k : Kind). KindAllows k (inode_at v.inodes number)) dir (inode_is v h number below).allowed

-- it lies before the end of the directory
pub before_end : (v : Volume) → IsVolume v → (number index : ℕ) → IsLive v number index → index < (inode_at v.inodes number).size / 4096
before_end v h number index live =
    let count = count_dir v h number live.to_511 live.kind in
    let whole = (is_dir v h number live.to_511 live.kind).whole in
    let within = live.within in
    omega arith

-- it has a pointer
pub record IsPointer (pointer : ℕ) : Type 0 where
  pub from_one : 1 ≤ pointer
  pub few : pointer ≤ 2048

pub pointer_is : (v : Volume) → IsVolume v → (number index : ℕ) → IsLive v number index → IsPointer (slice_index (inode_at v.inodes number).blocks index)
pointer_is v h number index live =
    let some = (is_dir v h number live.to_511 live.kind).blocks index (before_end v h number index live) in
    let small = (inode_is v h number live.to_511).pointers index in
    record { from_one = omega arith; few = small }

-- a directory that stays has no fewer slots
pub no_fewer : (v : Volume) (e : Edit) → IsVolume v → IsEdit v e → (number : ℕ) → is_edited e.inode number ≡ false → length (slots_of v number) ≤ length (slots_of (edited v e) number)
no_fewer v e h is number other = elim (does_grow e.growth number) [
  | grows g made same ↦ (
      let all : length (slots_of v g.directory.0) ≤ length (slots_of (edited v e) g.directory.0) = (let size = count_grown v e g h.directory_count is made in let more = length-grown (slots_of v g.directory.0) in omega arith) in
      subst (λ (n : ℕ). length (slots_of v n) ≤ length (slots_of (edited v e) n)) same all)
  | stays apart ↦ (let size = count_kept v e number h.directory_count is other apart in omega arith)
]

-- the blocks in which a slot is changed
pub leaving_live : (v : Volume) (e : Edit) (l : Leaving) → IsVolume v → IsEdit v e → IsLeaving v e l → IsLive (edited v e) l.directory.0 (l.place / 128)
leaving_live v e l h is of =
    let low = of.directory.to_511 in
    let within = of.within in
    let more = no_fewer v e h is l.directory.0 of.directory.stays in
    record { to_511 = omega arith; kind = kind_kept v e h.inode_count is l.directory.0 of.directory.stays ∙ of.directory.kind; within = omega arith }

pub entering_live : (v : Volume) (e : Edit) (n : Entering) → IsVolume v → IsEdit v e → IsEntering v e n → IsLive (edited v e) n.directory.0 (n.place / 128)
entering_live v e n h is of =
    let low = of.directory.to_511 in
    let within = of.within in
    let same = count_left_past v e n.directory.0 h.directory_count is of.directory.stays in
    record { to_511 = omega arith; kind = kind_kept v e h.inode_count is n.directory.0 of.directory.stays ∙ of.directory.kind; within = omega arith }
